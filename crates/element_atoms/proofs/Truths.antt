-- Literals and clauses have the truths of their formulas.
use Rattle.std.proofs.Common.{◌≡◌, ℕ, zero, suc, ◌<◌, inl, inr, Bool, true, false, not, ◌&&◌, ◌||◌, List, [], ◌∷◌, length, map, if◌then◌else◌, refl, sym, ap, subst, ◌∙◌, arith, rules}
use Rattle.std.specs.List.{All, AllZip, list_any, list_all}
use Rattle.std.proofs.Math.Bool.{or-false}
use Rattle.std.proofs.lemmas.Option.{slice_get_within, get_or_from_slice_get}
use Rattle.mbqi_values.specs.Clauses.{lit_true, clause_true, all_true, AreBelow}
use Rattle.mbqi_terms.specs.Meanings.{Meanings, truth_of, truth_layer}
use Rattle.mbqi_values.specs.Value.{is_true}
use Rattle.mbqi_values.specs.declared.lit.Lit.{Lit}
use Rattle.mbqi_terms.specs.declared.formula.Formula as formulas
use Rattle.mbqi_terms.specs.declared.formula.Formula.{Formula, out-Formula}
use Rattle.mbqi_terms.specs.declared.formula.Formula.TheFolds.{fold-roll-Formula}
use Rattle.mbqi_terms.specs.declared.formula.Formula.TheOpen.{Formula-F}
use Rattle.mbqi_terms.specs.declared.formula.Formula.TheVariants as formula
use Rattle.mbqi_terms.specs.declared.formula.Formula.TheViews.{out-roll-Formula}
use Rattle.mbqi_terms.specs.declared.script.Function.{Function}
use Rattle.mbqi_terms.specs.declared.term.Term.{Term}
use Rattle.element_atoms.specs.Atoms.{atom_tree, atom_at, truths_by}
use Rattle.element_atoms.specs.Numbering.{IsAtomOf, IsLitOf, IsClauseOf}
use Rattle.element_atoms.specs.Profile.{IsClause, IsLiteral}
use Rattle.element_atoms.specs.declared.atoms.GroundAtom.{GroundAtom}

-- the layers of formulas
pub out-atom : (t : Term) → out-Formula (formula.Atom t) ≡ Formula-F.Atom t
out-atom t = ap out-Formula (sym (formula.rolls-Atom t)) ∙ out-roll-Formula (Formula-F.Atom t)

pub out-not : (f : Formula) → out-Formula (formula.Not f) ≡ Formula-F.Not f
out-not f = ap out-Formula (sym (formula.rolls-Not f)) ∙ out-roll-Formula (Formula-F.Not f)

pub out-any : (fs : List Formula) → out-Formula (formula.Any fs) ≡ Formula-F.Any fs
out-any fs = ap out-Formula (sym (formula.rolls-Any fs)) ∙ out-roll-Formula (Formula-F.Any fs)

atom_no_any : (t : Term) (fs : List Formula) → formula.Atom t ≡ formula.Any fs → ⊥
atom_no_any t fs e = let layers : Formula-F.Atom t ≡ Formula-F.Any fs = sym (out-atom t) ∙ (ap out-Formula e ∙ out-any fs) in cc

not_no_any : (f : Formula) (fs : List Formula) → formula.Not f ≡ formula.Any fs → ⊥
not_no_any f fs e = let layers : Formula-F.Not f ≡ Formula-F.Any fs = sym (out-not f) ∙ (ap out-Formula e ∙ out-any fs) in cc

same_any : (fs gs : List Formula) → formula.Any fs ≡ formula.Any gs → fs ≡ gs
same_any fs gs e = let layers : Formula-F.Any fs ≡ Formula-F.Any gs = sym (out-any fs) ∙ (ap out-Formula e ∙ out-any gs) in cc

-- the parts of a disjunction of the profile
pub any_literals : (functions : List Function) (IsArg : Term → Type 0) (f : Formula) (fs : List Formula) → IsClause functions IsArg f → f ≡ formula.Any fs → All (IsLiteral functions IsArg) fs
any_literals functions IsArg f fs clause e =
    elim clause [
      | inl one ↦ elim one.2 [ inl is ↦ absurd (atom_no_any one.0 fs (sym is ∙ e)) | inr is ↦ absurd (not_no_any (formula.Atom one.0) fs (sym is ∙ e)) ]
      | inr any ↦ subst (All (IsLiteral functions IsArg)) (same_any any.0 fs (sym any.1 ∙ e)) any.2
    ]

module _ (m : Meanings) where
  truth-atom : (t : Term) → truth_of m (formula.Atom t) ≡ is_true (m.value t)
  truth-atom t = search (rules, formulas.the_lemmas)

  truth-not : (f : Formula) → truth_of m (formula.Not f) ≡ not (truth_of m f)
  truth-not f = search (rules, formulas.the_lemmas)

  truth-any : (fs : List Formula) → truth_of m (formula.Any fs) ≡ list_any (truth_of m) fs
  truth-any fs =
      ap (truth_of m) (sym (formula.rolls-Any fs)) ∙ (fold-roll-Formula Bool (truth_layer m) (Formula-F.Any fs) ∙ any-map fs)
    where
      any-map : (fs : List Formula) → list_any (λ f. f) (map (truth_of m) fs) ≡ list_any (truth_of m) fs
      any-map [] = refl
      any-map (f ∷ fs) = ap (λ rest. truth_of m f || rest) (any-map fs)

  module _ (terms : List Term) (atoms : List GroundAtom) where
    atom_truth : (number : ℕ) (t : Term) → IsAtomOf terms atoms number t → truths_by m terms atoms number ≡ is_true (m.value t)
    atom_truth number t is =
        let at : atom_at atoms number ≡ is.atom = get_or_from_slice_get atoms number is.atom _ is.place in
        ap (λ atom. is_true (m.value (atom_tree terms atom))) at ∙ ap (λ u. is_true (m.value u)) is.tree

    lit_truth : (lit : Lit) (f : Formula) → IsLitOf terms atoms lit f → lit_true (truths_by m terms atoms) lit ≡ truth_of m f
    lit_truth lit f is = by lit.yes (truths_by m terms atoms lit.atom) (atom_truth lit.atom is.term is.atom) is.is
      where
        by : (yes v : Bool) → v ≡ is_true (m.value is.term) → f ≡ (if yes then formula.Atom is.term else formula.Not (formula.Atom is.term))
            → (if yes then v else not v) ≡ truth_of m f
        by true v same e = same ∙ sym (ap (truth_of m) e ∙ truth-atom is.term)
        by false v same e = ap not same ∙ sym (ap (truth_of m) e ∙ (truth-not (formula.Atom is.term) ∙ ap not (truth-atom is.term)))

    lits_truth : (lits : List Lit) (fs : List Formula) → AllZip (IsLitOf terms atoms) lits fs
        → clause_true (truths_by m terms atoms) lits ≡ list_any (truth_of m) fs
    lits_truth [] [] zip = refl
    lits_truth [] (f ∷ fs) zip = absurd zip
    lits_truth (lit ∷ lits) [] zip = absurd zip
    lits_truth (lit ∷ lits) (f ∷ fs) zip =
        let first = lit_truth lit f zip.0 in
        let rest = lits_truth lits fs zip.1 in
        λ i. first i || rest i

    clause_truth : (lits : List Lit) (f : Formula) → IsClauseOf terms atoms lits f → clause_true (truths_by m terms atoms) lits ≡ truth_of m f
    clause_truth lits f (inl one) = lits_truth lits (f ∷ []) one ∙ or-false (truth_of m f)
    clause_truth lits f (inr any) = lits_truth lits any.0 any.2 ∙ sym (ap (truth_of m) any.1 ∙ truth-any any.0)

    -- each clause has the truth of its formula
    pub clauses_truth : (clauses : List (List Lit)) (fs : List Formula) → AllZip (IsClauseOf terms atoms) clauses fs
        → all_true (truths_by m terms atoms) clauses ≡ list_all (truth_of m) fs
    clauses_truth [] [] zip = refl
    clauses_truth [] (f ∷ fs) zip = absurd zip
    clauses_truth (clause ∷ clauses) [] zip = absurd zip
    clauses_truth (clause ∷ clauses) (f ∷ fs) zip =
        let first = clause_truth clause f zip.0 in
        let rest = clauses_truth clauses fs zip.1 in
        λ i. first i && rest i

module _ (terms : List Term) (atoms : List GroundAtom) where
  lits_below : (lits : List Lit) (fs : List Formula) → AllZip (IsLitOf terms atoms) lits fs → All (λ lit. lit.atom < length atoms) lits
  lits_below [] fs zip k d h = absurd (omega arith)
  lits_below (lit ∷ lits) [] zip k d h = absurd zip
  lits_below (lit ∷ lits) (f ∷ fs) zip zero d h = let is = zip.0 in slice_get_within atoms lit.atom is.atom.atom is.atom.place
  lits_below (lit ∷ lits) (f ∷ fs) zip (suc k) d h = lits_below lits fs zip.1 k d (omega arith)

  clause_below : (lits : List Lit) (f : Formula) → IsClauseOf terms atoms lits f → All (λ lit. lit.atom < length atoms) lits
  clause_below lits f (inl one) = lits_below lits (f ∷ []) one
  clause_below lits f (inr any) = lits_below lits any.0 any.2

  -- the atoms of the clauses are in the list
  pub clauses_below : (clauses : List (List Lit)) (fs : List Formula) → AllZip (IsClauseOf terms atoms) clauses fs → AreBelow (length atoms) clauses
  clauses_below [] fs zip k d h = absurd (omega arith)
  clauses_below (clause ∷ clauses) [] zip k d h = absurd zip
  clauses_below (clause ∷ clauses) (f ∷ fs) zip zero d h = clause_below clause f zip.0
  clauses_below (clause ∷ clauses) (f ∷ fs) zip (suc k) d h = clauses_below clauses fs zip.1 k d (omega arith)
