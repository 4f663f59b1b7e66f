use Rattle.std.proofs.Common.{ℕ, zero, suc, ◌≡◌, Bool, true, false, not, cond, ◌==◌, if◌then◌else◌, List, [], ◌∷◌, ◌++◌, take, refl, sym, ap, ◌∙◌, eqb, eq-eqb}
use Rattle.std.specs.List.{list_all}
use Rattle.std.proofs.lemmas.Bool.{and_parts, and_from, eqb-false, ne_eqb, not-true, not_from_false}
use Rattle.std.proofs.lemmas.List.Folds.{list_all-append}
use Rattle.mbqi_values.specs.Clauses.{lit_true}
use Rattle.mbqi_values.specs.declared.lit.Lit.{Lit}
use Rattle.mbqi_values.specs.declared.value.Value.{Value}
use Rattle.theory_trait.specs.Content.{IsFree, AtomsDiffer}
use Rattle.theory_trait.specs.Free.{IsFreelyLawful}
use Rattle.theory_trait.specs.Valuation.{lits_true, HasValuation, Satisfies}

-- Contents of which no two literals have one atom.

not_eqb-sym : (a b : ℕ) → not (eqb a b) ≡ true → not (eqb b a) ≡ true
not_eqb-sym a b differ =
    not_from_false (eqb b a) (ne_eqb b a (λ (same : b ≡ a). eqb-false a b (not-true (eqb a b) differ) (sym same)))

-- A literal of a free atom may come last.
pub AtomsDiffer-push : (lits : List Lit) (lit : Lit) → AtomsDiffer lits → IsFree lits lit.atom → AtomsDiffer (lits ++ lit ∷ [])
AtomsDiffer-push [] lit differ free = (refl, tt)
AtomsDiffer-push (l ∷ lits) lit differ free =
    let parts = and_parts (not (eqb l.atom lit.atom)) (list_all (λ (x : Lit). not (eqb x.atom lit.atom)) lits) free in
    (list_all-append (λ (x : Lit). not (eqb x.atom l.atom)) lits (lit ∷ []) ∙ and_from _ _ differ.0 (and_from _ _ (not_eqb-sym l.atom lit.atom parts.0) refl), AtomsDiffer-push lits lit differ.1 parts.1)

IsFree-take : (n : ℕ) (lits : List Lit) (atom : ℕ) → IsFree lits atom → IsFree (take n lits) atom
IsFree-take zero lits atom free = refl
IsFree-take (suc n) [] atom free = refl
IsFree-take (suc n) (lit ∷ lits) atom free =
    let parts = and_parts (not (eqb lit.atom atom)) (list_all (λ (x : Lit). not (eqb x.atom atom)) lits) free in
    and_from _ _ parts.0 (IsFree-take n lits atom parts.1)

-- So it is in the first ones.
pub AtomsDiffer-take : (n : ℕ) (lits : List Lit) → AtomsDiffer lits → AtomsDiffer (take n lits)
AtomsDiffer-take zero lits differ = tt
AtomsDiffer-take (suc n) [] differ = tt
AtomsDiffer-take (suc n) (lit ∷ lits) differ = (IsFree-take n lits lit.atom differ.0, AtomsDiffer-take n lits differ.1)

-- The truths that the literals give.
abbrev truth_by : List Lit → ℕ → Bool
truth_by [] atom = false
truth_by (lit ∷ lits) atom = if lit.atom == atom then lit.yes else truth_by lits atom

own_truth : (yes truth : Bool) → truth ≡ yes → (if yes then truth else not truth) ≡ true
own_truth true truth is = is
own_truth false truth is = not_from_false truth is

-- Truths that differ at a free atom alone make the same literals true.
lits_true-other : (v w : ℕ → Bool) (lits : List Lit) (atom : ℕ) → ((a : ℕ) → eqb a atom ≡ false → v a ≡ w a) → IsFree lits atom → lits_true v lits ≡ lits_true w lits
lits_true-other v w [] atom same free = refl
lits_true-other v w (lit ∷ lits) atom same free =
    let parts = and_parts (not (eqb lit.atom atom)) (list_all (λ (x : Lit). not (eqb x.atom atom)) lits) free in
    rw (same lit.atom (not-true _ parts.0), lits_true-other v w lits atom same parts.1) refl

truth_by-other : (lit : Lit) (lits : List Lit) (a : ℕ) → eqb a lit.atom ≡ false → truth_by (lit ∷ lits) a ≡ truth_by lits a
truth_by-other lit lits a other =
    rw (ne_eqb lit.atom a (λ (same : lit.atom ≡ a). eqb-false a lit.atom other (sym same))) refl

lits_true-truth_by : (lits : List Lit) → AtomsDiffer lits → lits_true (truth_by lits) lits ≡ true
lits_true-truth_by [] differ = refl
lits_true-truth_by (lit ∷ lits) differ =
    let here : truth_by (lit ∷ lits) lit.atom ≡ lit.yes = ap (λ (b : Bool). cond b lit.yes (truth_by lits lit.atom)) (eq-eqb lit.atom lit.atom refl) in
    and_from (lit_true (truth_by (lit ∷ lits)) lit) (lits_true (truth_by (lit ∷ lits)) lits) (own_truth lit.yes (truth_by (lit ∷ lits) lit.atom) here)
    (lits_true-other (truth_by (lit ∷ lits)) (truth_by lits) lits lit.atom (truth_by-other lit lits) differ.0 ∙ lits_true-truth_by lits differ.1)

-- Where no two literals have one atom, some truths make them true.
pub settled : (atoms : ℕ) (lits : List Lit) (values : List Value) → values ≡ [] → AtomsDiffer lits → Satisfies (IsFreelyLawful atoms) lits values
settled atoms lits values none differ = (truth_by lits, none, lits_true-truth_by lits differ)

pub freely_true : (atoms : ℕ) (lits : List Lit) → AtomsDiffer lits → HasValuation (IsFreelyLawful atoms) lits
freely_true atoms lits differ = ([], settled atoms lits [] refl differ)
