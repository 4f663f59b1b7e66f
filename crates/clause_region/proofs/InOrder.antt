-- Runs in order, and what moving them leaves.
use Rattle.std.proofs.Common.{◌≡◌, ℕ, ◌+◌, ◌<◌, ◌≤◌, ◌-◌, List, [], ◌∷◌, ◌++◌, length, take, drop, map, sum_by, refl, sym, ap, ◌∙◌, subst, arith, append_assoc, length-append, length-take, length-drop, inl, inr}
use Rattle.std.specs.List.{flat_map}
use Rattle.std.proofs.lemmas.Bool.Decides.{nat_tests}
use Rattle.std.proofs.lemmas.Bool.{cases_lt, cond_below, cond_above}
use Rattle.std.proofs.lemmas.List.{drop-append-le, drop-drop, drop-take, take-append-le, take-take, take_at, drop_at, nil_from_length}
use Rattle.std.proofs.lemmas.List.Sums.{sum_by-cons}
use Rattle.mbqi_values.specs.declared.lit.Lit.{Lit}
use Rattle.clause_region.specs.declared.run.Run.{Run}
use Rattle.clause_region.specs.ClauseRegion.{KeepsRuns, Region, part, used_in}
use Rattle.clause_region.specs.Run.{AreInOrder, end_after, moved_to, packed}

-- runs in order end within the block
pub AreInOrder-within : (from end : ℕ) (runs : List Run) → AreInOrder from end runs → from ≤ end
AreInOrder-within from end [] h = h
AreInOrder-within from end (run ∷ runs) h =
    let later : end_after from run ≤ end = AreInOrder-within (end_after from run) end runs h.1 in
    let first = h.0 in
    grind (arith, nat_tests)

-- runs in order behind a place are in order behind each earlier one
pub AreInOrder-earlier : (from below end : ℕ) (runs : List Run) → below ≤ from → AreInOrder from end runs → AreInOrder below end runs
AreInOrder-earlier from below end [] le h = omega arith
AreInOrder-earlier from below end (run ∷ runs) le h = (
  (λ some. let p = h.0 some in omega arith),
  AreInOrder-earlier (end_after from run) (end_after below run) end runs (grind (arith, nat_tests)) h.1,
)

-- an empty run reads nothing, in any block
pub part-empty : (run : Run) (block : List Lit) → run.len ≡ 0 → part block run ≡ []
part-empty run block e = rw e refl

-- a run behind a place reads alike in two blocks that are the same from there on
pub part-same : (from : ℕ) (run : Run) (old new : List Lit) → (0 < run.len → from ≤ run.start) → drop from new ≡ drop from old → part new run ≡ part old run
part-same from run old new behind e =
    elim (cases_lt 0 run.len) [
      | inl some ↦
          let p = behind some in
          let place : from + (run.start - from) ≡ run.start = omega arith in
          let at : (block : List Lit) → drop run.start block ≡ drop (run.start - from) (drop from block) = λ block. rw drop-drop (rw place refl) in
          ap (take run.len) (at new ∙ ap (drop (run.start - from)) e ∙ sym (at old))
      | inr none ↦
          let z : run.len ≡ 0 = omega arith in part-empty run new z ∙ sym (part-empty run old z)
    ]

-- runs in order behind a place read alike in two blocks that are the same from there on
pub flat_map-part-same : (from end : ℕ) (runs : List Run) (old new : List Lit) → AreInOrder from end runs → drop from new ≡ drop from old → flat_map (part new) runs ≡ flat_map (part old) runs
flat_map-part-same from end [] old new h e = refl
flat_map-part-same from end (run ∷ runs) old new h e =
    let tail : AreInOrder from end runs = AreInOrder-earlier (end_after from run) from end runs (let first = h.0 in grind (arith, nat_tests)) h.1 in
    rw (part-same from run old new h.0 e, flat_map-part-same from end runs old new tail e) refl

-- a run that isn't empty, with others in order behind it, lies in the block
pub LiesWithin-first : (from end : ℕ) (run : Run) (runs : List Run) → AreInOrder from end (run ∷ runs) → 0 < run.len → run.start + run.len ≤ end
LiesWithin-first from end run runs h some =
    let later : end_after from run ≤ end = AreInOrder-within (end_after from run) end runs h.1 in grind (arith, nat_tests)

-- behind a run the others are in order from where it ends once it is moved to `from`
pub AreInOrder-moved : (from end : ℕ) (run : Run) (runs : List Run) → AreInOrder from end (run ∷ runs) → AreInOrder (from + run.len) end runs
AreInOrder-moved from end run runs h =
    let first = h.0 in AreInOrder-earlier (end_after from run) (from + run.len) end runs (grind (arith, nat_tests)) h.1

-- a run that isn't empty moves
pub moved_to-some : (start : ℕ) (run : Run) → 0 < run.len → moved_to start run ≡ record { start = start; len = run.len }
moved_to-some start run some = let run_to : Run = record { start = start; len = run.len } in sym (cond_below 0 run.len run_to run some)

-- an empty run stays
pub moved_to-none : (start : ℕ) (run : Run) → run.len ≤ 0 → moved_to start run ≡ run
moved_to-none start run none = let run_to : Run = record { start = start; len = run.len } in sym (cond_above 0 run.len run_to run run none refl)

-- the first of the packed runs stands in order
in_order-moved : (from end : ℕ) (run : Run) (runs : List Run) → AreInOrder (from + run.len) end runs → AreInOrder from end (moved_to from run ∷ runs)
in_order-moved from end run runs h =
    elim (cases_lt 0 run.len) [
      | inl some ↦ rw (moved_to-some from run some) ((λ _. omega arith), subst (λ n. AreInOrder n end runs) (grind (arith, nat_tests)) h)
      | inr none ↦ rw (moved_to-none from run none) ((λ some. absurd (omega arith)), subst (λ n. AreInOrder n end runs) (grind (arith, nat_tests)) h)
    ]

-- packed runs are in order
pub AreInOrder-packed : (from end : ℕ) (runs : List Run) → from + sum_by (λ (run : Run). run.len) runs ≤ end → AreInOrder from end (packed from runs)
AreInOrder-packed from end [] h = omega arith
AreInOrder-packed from end (run ∷ runs) h =
    let sum = sum_by-cons (λ (r : Run). r.len) run runs in
    let later : AreInOrder (from + run.len) end (packed (from + run.len) runs) = AreInOrder-packed (from + run.len) end runs (omega (arith, sum)) in
    in_order-moved from end run _ later

-- a run that lies in the block reads as many literals as it says
pub length-part : (run : Run) (block : List Lit) → (0 < run.len → run.start + run.len ≤ length block) → length (part block run) ≡ run.len
length-part run block within = rw (length-take, length-drop) (grind arith)

-- the literals of runs in order are as many as the runs say
pub length-flat_map-part : (from end : ℕ) (runs : List Run) (block : List Lit) → AreInOrder from end runs → end ≤ length block → length (flat_map (part block) runs) ≡ sum_by (λ (run : Run). run.len) runs
length-flat_map-part from end [] block h le = refl
length-flat_map-part from end (run ∷ runs) block h le =
    let sum = sum_by-cons (λ (r : Run). r.len) run runs in
    let later = length-flat_map-part (end_after from run) end runs block h.1 le in
    let first = length-part run block (λ some. let w = LiesWithin-first from end run runs h some in omega arith) in
    rw length-append (omega (arith, sum, later, first))

-- a run moved to where its literals now begin reads them
pub part-moved : (front back lits : List Lit) (run : Run) → length lits ≡ run.len → part (front ++ (lits ++ back)) (moved_to (length front) run) ≡ lits
part-moved front back lits run e =
    elim (cases_lt 0 run.len) [
      | inl some ↦ rw (moved_to-some (length front) run some, drop_at, ← e, take_at) refl
      | inr none ↦ let z : run.len ≡ 0 = omega arith in rw (moved_to-none (length front) run none) (part-empty run _ z ∙ sym (nil_from_length lits (e ∙ z)))
    ]

-- packed runs read what the runs read before
pub map-part-packed : (from end : ℕ) (runs : List Run) (front block : List Lit) → AreInOrder from end runs → end ≤ length block → map (part (front ++ flat_map (part block) runs)) (packed (length front) runs) ≡ map (part block) runs
map-part-packed from end [] front block h le = refl
map-part-packed from end (run ∷ runs) front block h le =
    let first : length (part block run) ≡ run.len = length-part run block (λ some. let w = LiesWithin-first from end run runs h some in omega arith) in
    let later = map-part-packed (end_after from run) end runs (front ++ part block run) block h.1 le in
    let moved = part-moved front (flat_map (part block) runs) (part block run) run first in
    let places : length (front ++ part block run) ≡ length front + run.len = rw length-append (omega (arith, first)) in
    let rest : map (part (front ++ (part block run ++ flat_map (part block) runs))) (packed (length front + run.len) runs) ≡ map (part block) runs = rw (append_assoc, places) at later in
    rw (moved, rest) refl

-- a run moved to where the packed ones end, and the runs behind it, read as before
pub flat_map-part-moved : (from end : ℕ) (run : Run) (runs : List Run) (old new : List Lit) → AreInOrder from end (run ∷ runs) → take (from + run.len) new ≡ take from old ++ part old run → drop (from + run.len) new ≡ drop (from + run.len) old → take (from + run.len) new ++ flat_map (part new) runs ≡ take from old ++ flat_map (part old) (run ∷ runs)
flat_map-part-moved from end run runs old new h front rest =
    let same = flat_map-part-same (from + run.len) end runs old new (AreInOrder-moved from end run runs h) rest in
    rw (front, same) (append_assoc (take from old) (part old run) (flat_map (part old) runs))

-- a run in the first places of a block reads there what it reads in the block
pub part-take : (end : ℕ) (run : Run) (block : List Lit) → run.start + run.len ≤ end → part (take end block) run ≡ part block run
part-take end run block within =
    let more : run.start + (end - run.start) ≡ end = omega arith in
    let enough : run.len ≤ end - run.start = omega arith in
    let places : drop run.start (take end block) ≡ take (end - run.start) (drop run.start block) = rw more at (drop-take run.start (end - run.start) block) in
    rw (places, take-take) refl

-- the first places of a longer block have the runs in order too
pub AreInOrder-longer : (from end more : ℕ) (runs : List Run) → end ≤ more → AreInOrder from end runs → AreInOrder from more runs
AreInOrder-longer from end more [] le h = omega arith
AreInOrder-longer from end more (run ∷ runs) le h = (h.0, AreInOrder-longer (end_after from run) end more runs le h.1)

-- a run that begins where the others end is in order behind them
pub AreInOrder-push : (from end at len : ℕ) (runs : List Run) → at ≡ end → 0 < len → AreInOrder from end runs → AreInOrder from (end + len) (runs ++ record { start = at; len = len } ∷ [])
AreInOrder-push from end at len [] e some h = ((λ _. omega arith), grind (arith, nat_tests))
AreInOrder-push from end at len (run ∷ runs) e some h = (h.0, AreInOrder-push (end_after from run) end at len runs e some h.1)

-- without one of them the runs stay in order
pub AreInOrder-without : (from end : ℕ) (before after : List Run) (run : Run) → AreInOrder from end (before ++ run ∷ after) → AreInOrder from end (before ++ after)
AreInOrder-without from end [] after run h = let first = h.0 in AreInOrder-earlier (end_after from run) from end after (grind (arith, nat_tests)) h.1
AreInOrder-without from end (earlier ∷ before) after run h = (h.0, AreInOrder-without (end_after from earlier) end before after run h.1)

-- with an empty one among them the runs stay in order
pub AreInOrder-emptied : (from end : ℕ) (before after : List Run) (empty : Run) → empty.len ≡ 0 → AreInOrder from end (before ++ after) → AreInOrder from end (before ++ empty ∷ after)
AreInOrder-emptied from end [] after empty none h = ((λ some. absurd (omega arith)), subst (λ n. AreInOrder n end after) (grind (arith, nat_tests)) h)
AreInOrder-emptied from end (earlier ∷ before) after empty none h = (h.0, AreInOrder-emptied (end_after from earlier) end before after empty none h.1)

-- runs in order read alike in two blocks where each run in their first places does
pub map-part-within : (from end : ℕ) (runs : List Run) (old new : List Lit) → ((run : Run) → run.start + run.len ≤ end → part new run ≡ part old run) → AreInOrder from end runs → map (part new) runs ≡ map (part old) runs
map-part-within from end [] old new same h = refl
map-part-within from end (run ∷ runs) old new same h =
    let first : part new run ≡ part old run =
    elim (cases_lt 0 run.len) [
      | inl some ↦ same run (LiesWithin-first from end run runs h some)
      | inr none ↦ let z : run.len ≡ 0 = omega arith in part-empty run new z ∙ sym (part-empty run old z)
    ] in
    rw (first, map-part-within (end_after from run) end runs old new same h.1) refl

-- a run in the first places of a block reads the same where more literals follow
pub part-append : (run : Run) (block more : List Lit) → run.start + run.len ≤ length block → part (block ++ more) run ≡ part block run
part-append run block more within =
    let start : run.start ≤ length block = omega arith in
    let enough : run.len ≤ length (drop run.start block) = rw length-drop (omega arith) in
    rw (drop-append-le, take-append-le) refl

-- where the first places read alike, every run and all runs in order there are kept
pub KeepsRuns-from_reads : (end : ℕ) (old new : Region) → end ≤ used_in new → ((run : Run) → run.start + run.len ≤ end → part new.block run ≡ part old.block run) → KeepsRuns end old new
KeepsRuns-from_reads end old new within same = record {
  in_use = λ run h. omega arith;
  reads = same;
  live = λ runs h. AreInOrder-longer 0 end (used_in new) runs within h;
  read_together = λ runs h. map-part-within 0 end runs old.block new.block same h;
}
