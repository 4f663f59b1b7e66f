use Rattle.mbqi_app.proofs.tests.text_adds.Given as goal

-- the ledger that the blank is of
abbrev pub ghosts-adds : goal.ghosts-adds
ghosts-adds a = record { name = a.blank.name; parts = a.blank.parts }
