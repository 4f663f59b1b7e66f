use Rattle.std.proofs.Common.{ℕ, ◌≡◌, ◌+◌, ◌<◌, ◌≤◌, Bool, true, List, [], ◌∷◌, length, take, get_or, All}
use Rattle.std.proofs.Common.{is_some, sym, ap, ◌∙◌, subst, refl, arith}
use Rattle.std.specs.List.{list_all}
use Rattle.std.proofs.lemmas.Bool.{and_from}
use Rattle.std.proofs.lemmas.List.{take_more}
use Rattle.std.proofs.lemmas.List.Elements.{All-contains, All-push, All-weaker}
use Rattle.std.proofs.lemmas.List.Folds.{list_all-append}
use Rattle.mbqi_values.specs.Clauses.{AreBelow}
use Rattle.mbqi_values.specs.declared.lit.Lit.{Lit}
use Rattle.clause_search.specs.Course.{no_truths, truths_of, AreFresh, Course, Extends}
use Rattle.clause_search.specs.Truths.{decided_on, lit_on}
use Rattle.clause_search.proofs.Fullness.{all_decided-extends, decided-extends}

-- Loops over a clause, or over the clauses.

-- One element more passes a test.
all_more : {X : Type 0} (test : X → Bool) (xs : List X) (i : ℕ) (x : X) → i < length xs → x ≡ get_or xs i x
    → list_all test (take i xs) ≡ true → test x ≡ true → list_all test (take (i + 1) xs) ≡ true
all_more test xs i x within is before here =
    let last : test (get_or xs i x) ≡ true = ap test (sym is) ∙ here in
    ap (list_all test) (take_more xs i x within)
    ∙ (list_all-append test (take i xs) (get_or xs i x ∷ []) ∙ and_from _ _ before (and_from _ _ last refl))

-- One literal more has a truth, and so has each literal of one clause more.
pub decided_turn : (old new : Course) (clause : List Lit) (i : ℕ) (lit : Lit) → Extends old new → AreFresh (no_truths new.atoms) new.steps
    → i < length clause → lit ≡ get_or clause i lit → decided_on (truths_of old) (take i clause) ≡ true
    → is_some (lit_on (truths_of new) lit) ≡ true → decided_on (truths_of new) (take (i + 1) clause) ≡ true
decided_turn old new clause i lit extends fresh within is before here =
    all_more (λ (l : Lit). is_some (lit_on (truths_of new) l)) clause i lit within is
    (decided-extends old new (take i clause) extends fresh before) here

pub all_decided_turn : (old new : Course) (clauses : List (List Lit)) (i : ℕ) (clause : List Lit) → Extends old new
    → AreFresh (no_truths new.atoms) new.steps → i < length clauses → clause ≡ get_or clauses i clause
    → list_all (decided_on (truths_of old)) (take i clauses) ≡ true → decided_on (truths_of new) clause ≡ true
    → list_all (decided_on (truths_of new)) (take (i + 1) clauses) ≡ true
all_decided_turn old new clauses i clause extends fresh within is before here =
    all_more (decided_on (truths_of new)) clauses i clause within is (all_decided-extends old new (take i clauses) extends fresh before)
    here

-- The atoms of one literal more, and of one clause more, are below a number.
pub within_more : (clause : List Lit) (count next i : ℕ) (lit : Lit) → i < length clause → lit ≡ get_or clause i lit → count ≤ next
    → lit.atom < next → All (λ l. l.atom < count) (take i clause) → All (λ l. l.atom < next) (take (i + 1) clause)
within_more clause count next i lit within is more here before =
    let IsBefore : Lit → Type 0 = λ l. l.atom < count in
    let IsNow : Lit → Type 0 = λ l. l.atom < next in
    subst (All IsNow) (sym (take_more clause i lit within))
    (All-push IsNow (take i clause) (get_or clause i lit) (All-weaker IsBefore IsNow (λ l below. omega arith) (take i clause) before)
    (subst IsNow is here))

pub below_more : (clauses : List (List Lit)) (count next i : ℕ) (clause : List Lit) → i < length clauses → clause ≡ get_or clauses i clause
    → count ≤ next → All (λ lit. lit.atom < next) clause → AreBelow count (take i clauses) → AreBelow next (take (i + 1) clauses)
below_more clauses count next i clause within is more here before =
    let IsBefore : Lit → Type 0 = λ l. l.atom < count in
    let IsNow : Lit → Type 0 = λ l. l.atom < next in
    subst (All (All IsNow)) (sym (take_more clauses i clause within))
    (All-push (All IsNow) (take i clauses) (get_or clauses i clause)
    (All-weaker (All IsBefore) (All IsNow) (λ c each. All-weaker IsBefore IsNow (λ l below. omega arith) c each) (take i clauses)
    before) (subst (All IsNow) is here))

-- A number that the atoms of all are below is above each one's.
pub lit_within : (clause : List Lit) (limit i : ℕ) (lit : Lit) → i < length clause → lit ≡ get_or clause i lit
    → All (λ l. l.atom < limit) clause → lit.atom < limit
lit_within clause limit i lit within is each =
    let IsBelow : Lit → Type 0 = λ l. l.atom < limit in
    All-contains IsBelow clause lit each (i, within, sym is)

pub clause_within : (clauses : List (List Lit)) (limit i : ℕ) (clause : List Lit) → i < length clauses → clause ≡ get_or clauses i clause
    → AreBelow limit clauses → All (λ l. l.atom < limit) clause
clause_within clauses limit i clause within is each =
    let IsBelow : Lit → Type 0 = λ l. l.atom < limit in
    All-contains (All IsBelow) clauses clause each (i, within, sym is)
