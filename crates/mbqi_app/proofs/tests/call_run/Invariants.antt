use Rattle.mbqi_app.proofs.tests.call_run.Given as goal

-- the ledger that the blank is of
abbrev pub ghosts-run_counted : goal.ghosts-run_counted
ghosts-run_counted a = record { name = a.blank.name; parts = a.blank.parts }
