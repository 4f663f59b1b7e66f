use Rattle.std.specs.Prelude.{ℕ, ◌+◌, ◌<◌, ◌≤◌, List, [], ◌∷◌, nat_lt, if◌then◌else◌}
use Rattle.clause_region.specs.declared.run.Run.{Run}

-- where the next run may start at the earliest: behind this one, unless it is empty
abbrev pub end_after : ℕ → Run → ℕ
end_after from run = if nat_lt 0 run.len then run.start + run.len else from

-- the runs stand by rising start and apart, between `from` and `end`, the empty ones passed over
abbrev pub AreInOrder : ℕ → ℕ → List Run → Type 0
AreInOrder from end [] = from ≤ end
AreInOrder from end (run ∷ runs) = (0 < run.len → from ≤ run.start) × AreInOrder (end_after from run) end runs

-- the run moved to `start`, if it is not empty
abbrev pub moved_to : ℕ → Run → Run
moved_to start run = if nat_lt 0 run.len then record { start = start; len = run.len } else run

-- the runs with each moved to where the one before it ends, the first to `start`
abbrev pub packed : ℕ → List Run → List Run
packed start [] = []
packed start (run ∷ runs) = moved_to start run ∷ packed (start + run.len) runs
