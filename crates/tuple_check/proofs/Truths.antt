-- The truth of a clause at a tuple is that of its instance, in each valuation that has the truths of the atoms.
use Rattle.std.proofs.Common.{◌≡◌, ℕ, zero, suc, ◌<◌, Bool, true, false, true≢false, not, ◌||◌, List, [], ◌∷◌, length, map, cond, refl, sym, ap, ◌∙◌, inl, inr, arith, rules}
use Rattle.std.specs.Prelude.{◌⊎◌, All, Contains, slice_index_or}
use Rattle.std.specs.List.{list_any}
use Rattle.std.proofs.lemmas.List.Elements.{All-head, All-tail}
use Rattle.mbqi_values.specs.declared.value.Value.TheVariants.{Truth}
use Rattle.mbqi_terms.specs.declared.formula.Formula as formulas
use Rattle.mbqi_terms.specs.declared.formula.Formula.{Formula}
use Rattle.mbqi_terms.specs.declared.formula.Formula.TheFolds.{fold-roll-Formula}
use Rattle.mbqi_terms.specs.declared.formula.Formula.TheOpen.{Formula-F}
use Rattle.mbqi_terms.specs.declared.formula.Formula.TheVariants as formula
use Rattle.mbqi_terms.specs.declared.script.Function.{Function}
use Rattle.mbqi_terms.specs.declared.term.Term.{Term}
use Rattle.mbqi_terms.specs.Meanings.{Meanings, truth_layer as meaning_layer, truth_of}
use Rattle.mbqi_values.specs.Value.{is_true}
use Rattle.element_atoms.specs.Atoms.{Decides, IsOver, IsPool, atom_tree, same_atom, truth_in}
use Rattle.element_atoms.specs.Profile.{IsArgument, IsAtom, IsClause, IsLiteral}
use Rattle.element_atoms.specs.declared.atoms.GroundAtom.{GroundAtom}
use Rattle.element_atoms.specs.declared.pool.Pool.{Pool}
use Rattle.element_atoms.proofs.AtomTest.{own_atom, same_atoms, same_test}
use Rattle.rule_form.specs.Rules.{clause_at, term_at}
use Rattle.mbqi_terms.specs.Substitution.{put_into, put_into_formula}
use Rattle.rule_form.proofs.Putting.{put_any, put_atom, put_not}
use Rattle.tuple_check.specs.Failing.{atom_at_tuple, term_in, truth_at, truth_layer}
use Rattle.tuple_check.proofs.Arguments.{atom_over, atom_tree_at}

-- the test of atoms tells whether they are one
equal_atoms : (a b : GroundAtom) → same_atom a b ≡ true → a ≡ b
equal_atoms a b e = same_atoms a b (same_test a b ∙ e)

is_own_atom : (a : GroundAtom) → same_atom a a ≡ true
is_own_atom a = sym (same_test a a) ∙ own_atom a

-- an atom stands at a place and has its truth, or it stands nowhere and is false
abbrev Stands : GroundAtom → List GroundAtom → List Bool → Type 0
Stands atom atoms truths =
    ((i : ℕ) × (i < length atoms) × (slice_index_or atoms i (record { predicate = 0; args = [] }) ≡ atom) × (slice_index_or truths i false ≡ truth_in atoms truths atom))
    ⊎ ((Contains atoms atom → ⊥) × (truth_in atoms truths atom ≡ false))

stands : (atom : GroundAtom) (atoms : List GroundAtom) (truths : List Bool) → length truths ≡ length atoms → Stands atom atoms truths
stands atom [] truths e = inr (λ there. absurd (omega (arith, there.1)), refl)
stands atom (a ∷ atoms) [] e = cc
stands atom (a ∷ atoms) (t ∷ truths) e = by (same_atom atom a) refl (stands atom atoms truths (omega (arith, e)))
  where
    here : same_atom atom a ≡ true → Stands atom (a ∷ atoms) (t ∷ truths)
    here p = inl (0, omega arith, sym (equal_atoms atom a p), ap (λ b. cond b t (truth_in atoms truths atom)) (sym p))

    later : same_atom atom a ≡ false → Stands atom atoms truths → Stands atom (a ∷ atoms) (t ∷ truths)
    later p (inl found) = inl (suc found.0, omega (arith, found.1), found.2, found.3 ∙ ap (λ b. cond b t (truth_in atoms truths atom)) (sym p))
    later p (inr missing) =
        inr (not_there missing.0, ap (λ b. cond b t (truth_in atoms truths atom)) p ∙ missing.1)
      where
        at_place : (Contains atoms atom → ⊥) → (k : ℕ) → k < length (a ∷ atoms) → slice_index_or (a ∷ atoms) k atom ≡ atom → ⊥
        at_place none zero h s = true≢false (sym (ap (same_atom atom) s ∙ is_own_atom atom) ∙ p)
        at_place none (suc k) h s = none (k, omega (arith, h), s)

        not_there : (Contains atoms atom → ⊥) → Contains (a ∷ atoms) atom → ⊥
        not_there none there = at_place none there.0 there.1 there.2

    by : (b : Bool) → same_atom atom a ≡ b → Stands atom atoms truths → Stands atom (a ∷ atoms) (t ∷ truths)
    by true p rest = here p
    by false p rest = later p rest

-- laws of the truth of a clause
pub out_atom : (pool : Pool) (atoms : List GroundAtom) (truths : List Bool) (t : Term) (tuple : List ℕ)
    → truth_at pool atoms truths (formula.Atom t) tuple ≡ truth_in atoms truths (atom_at_tuple pool tuple t)
unfolding truth_at
out_atom pool atoms truths t tuple = search (rules, formulas.the_lemmas)

pub out_not : (pool : Pool) (atoms : List GroundAtom) (truths : List Bool) (f : Formula) (tuple : List ℕ)
    → truth_at pool atoms truths (formula.Not f) tuple ≡ not (truth_at pool atoms truths f tuple)
unfolding truth_at
out_not pool atoms truths f tuple = search (rules, formulas.the_lemmas)

pub out_any : (pool : Pool) (atoms : List GroundAtom) (truths : List Bool) (fs : List Formula) (tuple : List ℕ)
    → truth_at pool atoms truths (formula.Any fs) tuple ≡ list_any (λ f. truth_at pool atoms truths f tuple) fs
unfolding truth_at
out_any pool atoms truths fs tuple =
    ap (λ f. truth_at pool atoms truths f tuple) (sym (formula.rolls-Any fs)) ∙ (fold-roll-Formula Bool (truth_layer pool atoms truths tuple) (Formula-F.Any fs) ∙ any-map fs)
  where
    any-map : (fs : List Formula) → list_any (λ b. b) (map (λ f. truth_at pool atoms truths f tuple) fs) ≡ list_any (λ f. truth_at pool atoms truths f tuple) fs
    any-map [] = refl
    any-map (f ∷ fs) = ap (λ rest. truth_at pool atoms truths f tuple || rest) (any-map fs)

module _ (m : Meanings) where
  meaning-atom : (t : Term) → truth_of m (formula.Atom t) ≡ is_true (m.value t)
  meaning-atom t = search (rules, formulas.the_lemmas)

  meaning-not : (f : Formula) → truth_of m (formula.Not f) ≡ not (truth_of m f)
  meaning-not f = search (rules, formulas.the_lemmas)

  meaning-any : (fs : List Formula) → truth_of m (formula.Any fs) ≡ list_any (truth_of m) fs
  meaning-any fs =
      ap (truth_of m) (sym (formula.rolls-Any fs)) ∙ (fold-roll-Formula Bool (meaning_layer m) (Formula-F.Any fs) ∙ any-map fs)
    where
      any-map : (fs : List Formula) → list_any (λ f. f) (map (truth_of m) fs) ≡ list_any (truth_of m) fs
      any-map [] = refl
      any-map (f ∷ fs) = ap (λ rest. truth_of m f || rest) (any-map fs)

module _ (functions : List Function) (pool : Pool) (atoms : List GroundAtom) (truths : List Bool) (m : Meanings) (is : IsPool functions pool)
    (as_many : length truths ≡ length atoms) (decides : Decides functions pool.terms atoms truths m) where
  -- the valuation gives each atom over the pool the truth of the list
  decided : (atom : GroundAtom) → IsOver functions pool.terms atom → m.value (atom_tree pool.terms atom) ≡ Truth (truth_in atoms truths atom)
  decided atom over = by (stands atom atoms truths as_many)
    where
      by : Stands atom atoms truths → m.value (atom_tree pool.terms atom) ≡ Truth (truth_in atoms truths atom)
      by (inl found) =
          ap (λ a. m.value (atom_tree pool.terms a)) (sym found.2) ∙ (decides.listed found.0 found.1 ∙ ap Truth found.3)
      by (inr missing) = decides.others atom over missing.0 ∙ ap Truth (sym missing.1)

  module _ (tuple : List ℕ) (within : All (λ i. i < length pool.terms) tuple) where
    at : ℕ → Term
    at = term_at (map (term_in pool.terms) tuple)

    atom_truth : (t : Term) → IsAtom functions (IsArgument functions (length tuple)) t
        → truth_at pool atoms truths (formula.Atom t) tuple ≡ truth_of m (formula.Atom (put_into (term_at (map (term_in pool.terms) tuple)) t))
    atom_truth t atom =
        let value = decided (atom_at_tuple pool tuple t) (atom_over functions pool is tuple within t atom) in
        out_atom pool atoms truths t tuple
        ∙ (sym (ap is_true value) ∙ (ap (λ u. is_true (m.value u)) (atom_tree_at functions pool is tuple within t atom)
        ∙ sym (meaning-atom m (put_into (term_at (map (term_in pool.terms) tuple)) t))))

    literal_truth : (f : Formula) → IsLiteral functions (IsArgument functions (length tuple)) f
        → truth_at pool atoms truths f tuple ≡ truth_of m (clause_at f (map (term_in pool.terms) tuple))
    literal_truth f lit =
        elim lit.2 [
          | inl e ↦
              ap (λ g. truth_at pool atoms truths g tuple) e ∙ (atom_truth lit.0 lit.1
              ∙ sym (ap (λ g. truth_of m (clause_at g (map (term_in pool.terms) tuple))) e
              ∙ ap (truth_of m) (put_atom (term_at (map (term_in pool.terms) tuple)) lit.0)))
          | inr e ↦
              ap (λ g. truth_at pool atoms truths g tuple) e ∙ (out_not pool atoms truths (formula.Atom lit.0) tuple ∙ (ap not (atom_truth lit.0 lit.1)
              ∙ sym (ap (λ g. truth_of m (clause_at g (map (term_in pool.terms) tuple))) e
              ∙ (ap (truth_of m) (put_not (term_at (map (term_in pool.terms) tuple)) (formula.Atom lit.0)
              ∙ ap formula.Not (put_atom (term_at (map (term_in pool.terms) tuple)) lit.0))
              ∙ meaning-not m (formula.Atom (put_into (term_at (map (term_in pool.terms) tuple)) lit.0))))))
        ]

    literals_truth : (fs : List Formula) → All (IsLiteral functions (IsArgument functions (length tuple))) fs
        → list_any (λ f. truth_at pool atoms truths f tuple) fs ≡ list_any (truth_of m) (map (put_into_formula (term_at (map (term_in pool.terms) tuple))) fs)
    literals_truth [] all = refl
    literals_truth (f ∷ fs) all =
        let first = literal_truth f (All-head (IsLiteral functions (IsArgument functions (length tuple))) f fs all) in
        let rest = literals_truth fs (All-tail (IsLiteral functions (IsArgument functions (length tuple))) f fs all) in
        λ i. first i || rest i

    pub clause_truth : (f : Formula) → IsClause functions (IsArgument functions (length tuple)) f
        → truth_at pool atoms truths f tuple ≡ truth_of m (clause_at f (map (term_in pool.terms) tuple))
    clause_truth f (inl one) = literal_truth f one
    clause_truth f (inr any) =
        ap (λ g. truth_at pool atoms truths g tuple) any.1 ∙ (out_any pool atoms truths any.0 tuple ∙ (literals_truth any.0 any.2
        ∙ sym (ap (λ g. truth_of m (clause_at g (map (term_in pool.terms) tuple))) any.1
        ∙ (ap (truth_of m) (put_any (term_at (map (term_in pool.terms) tuple)) any.0)
        ∙ meaning-any m (map (put_into_formula (term_at (map (term_in pool.terms) tuple))) any.0)))))
