-- The derived test of atoms is whether they are one value.
use Rattle.std.proofs.Common.{◌≡◌, ℕ, zero, suc, Bool, true, false, ◌<◌, ◌||◌, ◌&&◌, nat_eq, List, [], ◌∷◌, length, Some, position, cond, rules, refl, sym, ap, ◌∙◌, arith}
use Rattle.std.specs.Prelude.{slice_index_or}
use Rattle.std.specs.List.{list_any}
use Rattle.std.proofs.lemmas.List.Quantifiers.{position-Some}
use Rattle.std.specs.Cmp.{IsEquivalence, first_so, second_so}
use Rattle.std.specs.Cmp.Lexicographic.{pointwise}
use Rattle.mbqi_terms.specs.declared.term_id.TermId.{TermId}
use Rattle.mbqi_terms.specs.contracts.term_id.TermIdPartialEq.TheImpl as id
use Rattle.element_atoms.specs.Atoms.{same_atom, same_ids, truth_in}
use Rattle.element_atoms.specs.declared.atoms.GroundAtom.{GroundAtom}
use Rattle.element_atoms.specs.contracts.atoms.GroundAtomPartialEq.TheImpl as atom
use Rattle.element_atoms.specs.contracts.atoms.GroundAtomEq.TheImpl.Laws as laws

same_number : (m n : ℕ) → nat_eq m n ≡ true → m ≡ n
same_number m n e = search rules

same_id : (m n : TermId) → id.ghosts.eq m n ≡ true → m ≡ n
same_id m n e = search rules

equal_ids : (ms ns : List TermId) → pointwise id.ghosts.eq ms ns ≡ true → ms ≡ ns
equal_ids [] [] e = refl
equal_ids [] (n ∷ ns) e = cc
equal_ids (m ∷ ms) [] e = cc
equal_ids (m ∷ ms) (n ∷ ns) e =
    let test = id.ghosts.eq m n in
    let rest = pointwise id.ghosts.eq ms ns in
    let f : (test && rest) ≡ true = e in
    let p = same_id m n (first_so test rest f) in
    let q = equal_ids ms ns (second_so test rest f) in
    λ i. p i ∷ q i

pub same_atoms : (a b : GroundAtom) → atom.ghosts.eq a b ≡ true → a ≡ b
same_atoms a b e =
    let predicates = nat_eq a.predicate b.predicate in
    let args = pointwise id.ghosts.eq a.args b.args in
    let f : (predicates && args) ≡ true = e in
    let p = same_number a.predicate b.predicate (first_so predicates args f) in
    let q = equal_ids a.args b.args (second_so predicates args f) in
    λ i. record { predicate = p i; args = q i }

pub own_atom : (a : GroundAtom) → atom.ghosts.eq a a ≡ true
own_atom a = let equal : IsEquivalence atom.ghosts.eq = laws.laws-law in equal.refl a

-- the test is that of the definition of truths
same_test_ids : (ms ns : List TermId) → pointwise id.ghosts.eq ms ns ≡ same_ids ms ns
same_test_ids [] [] = refl
same_test_ids [] (n ∷ ns) = refl
same_test_ids (m ∷ ms) [] = refl
same_test_ids (m ∷ ms) (n ∷ ns) = let rest = same_test_ids ms ns in λ i. nat_eq m.0 n.0 && rest i

pub same_test : (a b : GroundAtom) → atom.ghosts.eq a b ≡ same_atom a b
same_test a b = let args = same_test_ids a.args b.args in λ i. nat_eq a.predicate b.predicate && args i

-- the truth of an atom is that of the first place that passes its test, and false where there is none
first_truth : (a : GroundAtom) (atoms : List GroundAtom) (truths : List Bool) (i : ℕ) → length truths ≡ length atoms → i < length atoms
    → atom.ghosts.eq a (slice_index_or atoms i a) ≡ true → ((k : ℕ) → k < i → atom.ghosts.eq a (slice_index_or atoms k a) ≡ false)
    → slice_index_or truths i false ≡ truth_in atoms truths a
first_truth a [] truths i e within here before = absurd (omega (arith, within))
first_truth a (b ∷ atoms) [] i e within here before = cc
first_truth a (b ∷ atoms) (t ∷ truths) zero e within here before = ap (λ r. cond r t (truth_in atoms truths a)) (sym here ∙ same_test a b)
first_truth a (b ∷ atoms) (t ∷ truths) (suc i) e within here before =
    first_truth a atoms truths i (omega (arith, e)) (omega (arith, within)) here (λ k below. before (suc k) (omega (arith, below)))
    ∙ ap (λ r. cond r t (truth_in atoms truths a)) (sym (before 0 (omega arith)) ∙ same_test a b)

pub truth_found : (a : GroundAtom) (atoms : List GroundAtom) (truths : List Bool) (i : ℕ) → length truths ≡ length atoms
    → position (atom.ghosts.eq a) atoms ≡ Some i → slice_index_or truths i false ≡ truth_in atoms truths a
truth_found a atoms truths i e p =
    let at = position-Some (atom.ghosts.eq a) atoms i a p in
    first_truth a atoms truths i e at.0 at.1 at.2

pub truth_missing : (a : GroundAtom) (atoms : List GroundAtom) (truths : List Bool) → list_any (atom.ghosts.eq a) atoms ≡ false → false ≡ truth_in atoms truths a
truth_missing a [] truths none = refl
truth_missing a (b ∷ atoms) [] none = refl
truth_missing a (b ∷ atoms) (t ∷ truths) none =
    by (atom.ghosts.eq a b) (list_any (atom.ghosts.eq a) atoms) (same_test a b) none (truth_missing a atoms truths)
  where
    by : (r s : Bool) → r ≡ same_atom a b → (r || s) ≡ false → (s ≡ false → false ≡ truth_in atoms truths a) → false ≡ cond (same_atom a b) t (truth_in atoms truths a)
    by true s e none rest = cc
    by false s e none rest = rest none ∙ ap (λ r. cond r t (truth_in atoms truths a)) e
