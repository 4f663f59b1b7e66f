use Rattle.mbqi_program.proofs.main.Given as goal

-- the ledger that the blank is of
abbrev pub ghosts-start : goal.ghosts-start
ghosts-start a = record { name = a.blank.name; parts = a.blank.parts }
