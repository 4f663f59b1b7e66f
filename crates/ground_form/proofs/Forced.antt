-- Where the truths of what has no parts are those of meanings and the clauses are true, each literal has its formula's truth.
use Rattle.std.proofs.Common.{◌≡◌, ℕ, Bool, true, false, not, ◌||◌, if◌then◌else◌, List, [], ◌∷◌, ◌++◌, map, refl, sym, ap, subst, ◌∙◌}
use Rattle.std.specs.List.{AllByRecursion, AllZip, flat_map, list_any}
use Rattle.std.proofs.lemmas.Bool.{and_parts, or_parts}
use Rattle.std.proofs.lemmas.List.Folds.{list_all-append}
use Rattle.mbqi_values.specs.Clauses.{all_true, clause_true, lit_true}
use Rattle.mbqi_values.specs.declared.lit.Lit.{Lit}
use Rattle.mbqi_terms.specs.Binders.{IsQuantifierFree, has_quantifier, quantifier_layer}
use Rattle.mbqi_terms.specs.declared.formula.Formula.{Formula, out-Formula}
use Rattle.mbqi_terms.specs.declared.formula.Formula.TheFolds.{ind-Formula, map-Formula}
use Rattle.mbqi_terms.specs.declared.formula.Formula.TheOpen.{Formula-F}
use Rattle.mbqi_terms.specs.declared.formula.Formula.TheVariants as formula
use Rattle.mbqi_terms.specs.declared.formula.Formula.TheViews.{out-roll-Formula, roll-Formula}
use Rattle.mbqi_terms.specs.declared.term.ArrayTerm.{ArrayTerm}
use Rattle.mbqi_terms.specs.declared.term.Term.{Term}
use Rattle.mbqi_terms.specs.Distinct.{AreDistinct}
use Rattle.mbqi_terms.specs.Meanings.{Meanings, truth_layer, truth_of}
use Rattle.ground_form.specs.Clauses.{AgreeOnBase, AreClausesOf, IsAtomOf, IsLitOf}
use Rattle.ground_form.specs.Definitions.{definition_layer, definitions_in, is_compound_layer}
use Rattle.ground_form.proofs.Free.{free_rolled}
use Rattle.ground_form.proofs.Growth.{zip_cut}
use Rattle.ground_form.proofs.Literals.{one_lit}
use Rattle.ground_form.proofs.Parts.{definitions_of_all, definitions_of_any, definitions_of_choice, definitions_of_iff, definitions_of_not, definitions_of_truth}
use Rattle.ground_form.proofs.Truths.{HasTruth, all_has, all_rows, all_rows_hold, and_true, any_has, any_rows, any_rows_hold, choice_has, choice_rows, choice_rows_hold, from_same, hold, iff_has, iff_rows, iff_rows_hold, not_has, or_false, rows_truth, same, truth_has, truth_rolled, truth_row_holds}

module _ (m : Meanings) (table : List Formula) (truths : ℕ → Bool) (distinct : AreDistinct table) (agree : AgreeOnBase m table truths) where
  abbrev Has : Formula → Bool → Type 0
  Has = HasTruth table truths

  -- there are true clauses of these lists of formulas
  abbrev AreTrue : List (List Formula) → Type 0
  AreTrue rows = (clauses : List (List Lit)) × AreClausesOf table clauses rows × (all_true truths clauses ≡ true)

  true_parts : (rows more : List (List Formula)) → AreTrue (rows ++ more) → AreTrue rows × AreTrue more
  true_parts rows more are =
      let cut = zip_cut (AllZip (IsLitOf table)) are.0 rows more are.1 in
      let whole = sym (list_all-append (clause_true truths) cut.0 cut.1) ∙ (ap (all_true truths) (sym cut.2) ∙ are.2) in
      let both = and_parts (all_true truths cut.0) (all_true truths cut.1) whole in
      ((cut.0, cut.3, both.0), (cut.1, cut.4, both.1))

  they_hold : (rows : List (List Formula)) (bss : List (List Bool)) → AreTrue rows → AllZip (AllZip Has) rows bss → hold bss ≡ true
  they_hold rows bss are has = sym (rows_truth table truths are.0 rows bss are.1 has) ∙ are.2

  -- the literals of a formula have one truth
  own_truth : (f : Formula) (lit : Lit) → IsLitOf table lit f → Has f (lit_true truths lit)
  own_truth f lit is other other_is = ap (lit_true truths) (one_lit table distinct f other lit other_is is)

  abbrev IsForced : Formula → Type 0
  IsForced f = has_quantifier f ≡ false → AreTrue (definitions_in f) → Has f (truth_of m f)

  -- where there are no parts, it is that of the meanings
  base_has : (f : Formula) (layer : Formula-F Formula) → roll-Formula layer ≡ f → is_compound_layer layer ≡ false
      → ((lit : Lit) → IsLitOf table lit f → IsAtomOf table lit f) → Has f (truth_of m f)
  base_has f layer rolls base own lit is =
      let atom = own lit is in
      ap (λ b. if b then truths lit.atom else not (truths lit.atom)) atom.1
      ∙ agree lit.atom f atom.0 (ap is_compound_layer (ap out-Formula (sym rolls) ∙ out-roll-Formula layer) ∙ base)

  atom_forced : (t : Term) → IsForced (formula.Atom t)
  unfolding IsLitOf
  atom_forced t free are = base_has (formula.Atom t) (Formula-F.Atom t) (formula.rolls-Atom t) refl (λ lit is. is)

  equal_forced : (s t : Term) → IsForced (formula.Equal s t)
  unfolding IsLitOf
  equal_forced s t free are = base_has (formula.Equal s t) (Formula-F.Equal s t) (formula.rolls-Equal s t) refl (λ lit is. is)

  order_forced : (s t : Term) → IsForced (formula.AtMost s t)
  unfolding IsLitOf
  order_forced s t free are = base_has (formula.AtMost s t) (Formula-F.AtMost s t) (formula.rolls-AtMost s t) refl (λ lit is. is)

  arrays_forced : (a b : ArrayTerm) → IsForced (formula.SameArray a b)
  unfolding IsLitOf
  arrays_forced a b free are = base_has (formula.SameArray a b) (Formula-F.SameArray a b) (formula.rolls-SameArray a b) refl (λ lit is. is)

  -- where the rows of a definition are true, it is what the truths of the parts give
  forced_by : (f : Formula) (layer : Formula-F Formula) → roll-Formula layer ≡ f → (rows : Bool → List (List Bool))
      → AreTrue (definition_layer f layer)
      → ((v : Bool) → Has f v → AllZip (AllZip Has) (definition_layer f layer) (rows v))
      → ((v : Bool) → hold (rows v) ≡ same v (truth_layer m (map-Formula Formula Bool (truth_of m) layer)))
      → Has f (truth_of m f)
  forced_by f layer rolls rows are has holds lit is =
      let v = lit_true truths lit in
      let they = they_hold (definition_layer f layer) (rows v) are (has v (own_truth f lit is)) in
      from_same v (truth_layer m (map-Formula Formula Bool (truth_of m) layer)) (sym (holds v) ∙ they) ∙ sym (truth_rolled m f layer rolls)

  truth_forced : (b : Bool) → IsForced (formula.Truth b)
  truth_forced b free are =
      forced_by (formula.Truth b) (Formula-F.Truth b) (formula.rolls-Truth b) (λ v. ((if b then v else not v) ∷ []) ∷ [])
      (subst AreTrue (definitions_of_truth b) are)
      (λ v own. truth_has table truths (formula.Truth b) v own b)
      (λ v. truth_row_holds v b)

  not_forced : (f : Formula) → IsForced f → IsForced (formula.Not f)
  not_forced f part free are =
      let has = part (free_rolled (formula.Not f) (Formula-F.Not f) (formula.rolls-Not f) free) (subst AreTrue (definitions_of_not f) are) in
      subst (Has (formula.Not f)) (sym (truth_rolled m (formula.Not f) (Formula-F.Not f) (formula.rolls-Not f)))
      (not_has table truths f (truth_of m f) has)

  each_forced : (fs : List Formula) → AllByRecursion IsForced fs → list_any (λ part. part) (map has_quantifier fs) ≡ false
      → AreTrue (flat_map definitions_in fs) → AllZip Has fs (map (truth_of m) fs)
  each_forced [] each free are = tt
  each_forced (f ∷ fs) each free are =
      let none = or_parts (has_quantifier f) (list_any (λ part. part) (map has_quantifier fs)) free in
      let both = true_parts (definitions_in f) (flat_map definitions_in fs) are in
      (each.0 none.0 both.0, each_forced fs each.1 none.1 both.1)

  all_forced : (fs : List Formula) → AllByRecursion IsForced fs → IsForced (formula.All fs)
  all_forced fs each free are =
      let none = free_rolled (formula.All fs) (Formula-F.All fs) (formula.rolls-All fs) free in
      let both = true_parts (definition_layer (formula.All fs) (Formula-F.All fs)) (flat_map definitions_in fs) (subst AreTrue (definitions_of_all fs) are) in
      let parts = each_forced fs each none both.1 in
      forced_by (formula.All fs) (Formula-F.All fs) (formula.rolls-All fs) (λ v. all_rows v (map (truth_of m) fs)) both.0
      (λ v own. all_has table truths (formula.All fs) v own fs (map (truth_of m) fs) parts)
      (λ v. all_rows_hold v (map (truth_of m) fs))

  any_forced : (fs : List Formula) → AllByRecursion IsForced fs → IsForced (formula.Any fs)
  any_forced fs each free are =
      let none = free_rolled (formula.Any fs) (Formula-F.Any fs) (formula.rolls-Any fs) free in
      let both = true_parts (definition_layer (formula.Any fs) (Formula-F.Any fs)) (flat_map definitions_in fs) (subst AreTrue (definitions_of_any fs) are) in
      let parts = each_forced fs each none both.1 in
      forced_by (formula.Any fs) (Formula-F.Any fs) (formula.rolls-Any fs) (λ v. any_rows v (map (truth_of m) fs)) both.0
      (λ v own. any_has table truths (formula.Any fs) v own fs (map (truth_of m) fs) parts)
      (λ v. any_rows_hold v (map (truth_of m) fs))

  iff_forced : (f g : Formula) → IsForced f → IsForced g → IsForced (formula.Iff f g)
  iff_forced f g left right free are =
      let none = or_parts (has_quantifier f) (has_quantifier g) (free_rolled (formula.Iff f g) (Formula-F.Iff f g) (formula.rolls-Iff f g) free) in
      let both = true_parts (definition_layer (formula.Iff f g) (Formula-F.Iff f g)) (definitions_in f ++ definitions_in g)
      (subst AreTrue (definitions_of_iff f g) are) in
      let parts = true_parts (definitions_in f) (definitions_in g) both.1 in
      forced_by (formula.Iff f g) (Formula-F.Iff f g) (formula.rolls-Iff f g) (λ v. iff_rows v (truth_of m f) (truth_of m g)) both.0
      (λ v own. iff_has table truths (formula.Iff f g) v own f g (truth_of m f) (truth_of m g) (left none.0 parts.0) (right none.1 parts.1))
      (λ v. iff_rows_hold v (truth_of m f) (truth_of m g))

  choice_forced : (c f g : Formula) → IsForced c → IsForced f → IsForced g → IsForced (formula.Choose c f g)
  choice_forced c f g condition left right free are =
      let none = or_parts (has_quantifier c) (has_quantifier f || has_quantifier g)
      (free_rolled (formula.Choose c f g) (Formula-F.Choose c f g) (formula.rolls-Choose c f g) free) in
      let neither = or_parts (has_quantifier f) (has_quantifier g) none.1 in
      let both = true_parts (definition_layer (formula.Choose c f g) (Formula-F.Choose c f g)) (definitions_in c ++ (definitions_in f ++ definitions_in g))
      (subst AreTrue (definitions_of_choice c f g) are) in
      let parts = true_parts (definitions_in c) (definitions_in f ++ definitions_in g) both.1 in
      let branches = true_parts (definitions_in f) (definitions_in g) parts.1 in
      forced_by (formula.Choose c f g) (Formula-F.Choose c f g) (formula.rolls-Choose c f g)
      (λ v. choice_rows v (truth_of m c) (truth_of m f) (truth_of m g)) both.0
      (λ v own. choice_has table truths (formula.Choose c f g) v own c f g (truth_of m c) (truth_of m f) (truth_of m g)
      (condition none.0 parts.0) (left neither.0 branches.0) (right neither.1 branches.1))
      (λ v. choice_rows_hold v (truth_of m c) (truth_of m f) (truth_of m g))

  quantifier_forced : (f : Formula) (layer : Formula-F Formula) → roll-Formula layer ≡ f
      → quantifier_layer (map-Formula Formula Bool has_quantifier layer) ≡ true → IsForced f
  quantifier_forced f layer rolls some free are = let none = free_rolled f layer rolls free in cc

  abbrev SomeFormula : Type 0
  SomeFormula = (f : Formula) × IsForced f

  each_of : (parts : List SomeFormula) → AllByRecursion IsForced (map (λ part. part.0) parts)
  each_of [] = tt
  each_of (part ∷ parts) = (part.1, each_of parts)

  layer_forced : (layer : Formula-F SomeFormula) → IsForced (roll-Formula (map-Formula SomeFormula Formula (λ e. e.0) layer))
  layer_forced (Formula-F.Truth b) = subst IsForced (sym (formula.rolls-Truth b)) (truth_forced b)
  layer_forced (Formula-F.Atom t) = subst IsForced (sym (formula.rolls-Atom t)) (atom_forced t)
  layer_forced (Formula-F.Equal s t) = subst IsForced (sym (formula.rolls-Equal s t)) (equal_forced s t)
  layer_forced (Formula-F.AtMost s t) = subst IsForced (sym (formula.rolls-AtMost s t)) (order_forced s t)
  layer_forced (Formula-F.SameArray a b) = subst IsForced (sym (formula.rolls-SameArray a b)) (arrays_forced a b)
  layer_forced (Formula-F.Not f) = subst IsForced (sym (formula.rolls-Not f.0)) (not_forced f.0 f.1)
  layer_forced (Formula-F.All parts) =
      let fs : List Formula = map (λ (e : SomeFormula). e.0) parts in subst IsForced (sym (formula.rolls-All fs)) (all_forced fs (each_of parts))
  layer_forced (Formula-F.Any parts) =
      let fs : List Formula = map (λ (e : SomeFormula). e.0) parts in subst IsForced (sym (formula.rolls-Any fs)) (any_forced fs (each_of parts))
  layer_forced (Formula-F.Iff f g) = subst IsForced (sym (formula.rolls-Iff f.0 g.0)) (iff_forced f.0 g.0 f.1 g.1)
  layer_forced (Formula-F.Choose c f g) = subst IsForced (sym (formula.rolls-Choose c.0 f.0 g.0)) (choice_forced c.0 f.0 g.0 c.1 f.1 g.1)
  layer_forced (Formula-F.Forall bs f) =
      quantifier_forced (roll-Formula (Formula-F.Forall bs f.0)) (Formula-F.Forall bs f.0) refl refl
  layer_forced (Formula-F.Exists bs f) =
      quantifier_forced (roll-Formula (Formula-F.Exists bs f.0)) (Formula-F.Exists bs f.0) refl refl

  each_literal_forced : (f : Formula) → IsForced f
  each_literal_forced = ind-Formula IsForced (λ x y is. subst (λ layer. IsForced (roll-Formula layer)) is (layer_forced y))

  -- where the clauses of a formula are true, so is the formula
  pub formula_forced : (f : Formula) → IsQuantifierFree f → (clauses : List (List Lit)) → AreClausesOf table clauses ((f ∷ []) ∷ definitions_in f)
      → all_true truths clauses ≡ true → truth_of m f ≡ true
  formula_forced f free clauses are true_all =
      let both = true_parts ((f ∷ []) ∷ []) (definitions_in f) (clauses, are, true_all) in
      let has = each_literal_forced f free both.1 in
      let unit = they_hold ((f ∷ []) ∷ []) ((truth_of m f ∷ []) ∷ []) both.0 ((has, tt), tt) in
      sym (and_true (truth_of m f || false) ∙ or_false (truth_of m f)) ∙ unit
