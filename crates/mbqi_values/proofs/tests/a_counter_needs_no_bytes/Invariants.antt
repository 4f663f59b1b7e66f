use Rattle.mbqi_values.proofs.tests.a_counter_needs_no_bytes.Given as goal

-- the ledger that the blank is of
abbrev pub ghosts-two_ticks : goal.ghosts-two_ticks
ghosts-two_ticks g a = record { name = a.blank.name; parts = a.blank.parts }
