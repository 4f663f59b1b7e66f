use Rattle.std.specs.Prelude.{◌≡◌, ℕ, ◌+◌, ◌≤◌, List, ◌∷◌, ◌++◌, length, map, take, drop}
use Rattle.mbqi_values.specs.declared.lit.Lit.{Lit}
use Rattle.clause_region.specs.declared.run.Run.{Run}
use Rattle.clause_region.specs.Run.{AreInOrder}

-- what contracts see of a region, this project's own: the literals between the start of its block and the end
-- in use, those of dropped runs among them, and how many more can be placed without memory
pub record Region : Type 0 where
  pub block : List Lit
  pub spare : ℕ

-- how many places of the block are in use
abbrev pub used_in : Region → ℕ
used_in region = length region.block

-- the literals of a run in the block
abbrev pub part : List Lit → Run → List Lit
part block run = take run.len (drop run.start block)

-- what a run reads
abbrev pub literals_of : Region → Run → List Lit
literals_of region run = part region.block run

-- the run lies in the first so many places of the block
abbrev pub LiesWithin : ℕ → Run → Type 0
LiesWithin end run = run.start + run.len ≤ end

-- the runs may be live together: they lie by rising start and apart in the part in use, the empty ones passed over
abbrev pub AreLive : Region → List Run → Type 0
AreLive region runs = AreInOrder 0 (used_in region) runs

-- a run that lay in the first `end` places still lies in the part in use and reads as before, alone and among others
pub record KeepsRuns (end : ℕ) (old new : Region) : Type 0 where
  pub in_use : (run : Run) → LiesWithin end run → LiesWithin (used_in new) run
  pub reads : (run : Run) → LiesWithin end run → literals_of new run ≡ literals_of old run
  pub live : (runs : List Run) → AreInOrder 0 end runs → AreLive new runs
  pub read_together : (runs : List Run) → AreInOrder 0 end runs → map (literals_of new) runs ≡ map (literals_of old) runs

-- live runs stay live without this one, be it taken out of their list or made empty there
pub record EndsRun (run : Run) (old new : Region) : Type 0 where
  pub without : (before after : List Run) → AreLive old (before ++ run ∷ after) → AreLive new (before ++ after)
  pub emptied : (before after : List Run) (empty : Run) → empty.len ≡ 0 → AreLive old (before ++ run ∷ after) → AreLive new (before ++ empty ∷ after)
