-- Formulas without quantifiers and their parts.
use Rattle.std.proofs.Common.{◌≡◌, Bool, false, ◌||◌, List, [], ◌∷◌, map, sym, ap, ◌∙◌}
use Rattle.std.specs.Prelude.{All}
use Rattle.std.specs.List.{list_any}
use Rattle.std.proofs.lemmas.Bool.{or_parts}
use Rattle.std.proofs.lemmas.List.Elements.{All-cons, All-nil}
use Rattle.mbqi_terms.specs.Binders.{IsQuantifierFree, has_quantifier, quantifier_layer}
use Rattle.mbqi_terms.specs.declared.formula.Formula.{Formula}
use Rattle.mbqi_terms.specs.declared.formula.Formula.TheFolds.{fold-roll-Formula, map-Formula}
use Rattle.mbqi_terms.specs.declared.formula.Formula.TheOpen.{Formula-F}
use Rattle.mbqi_terms.specs.declared.formula.Formula.TheVariants as formula
use Rattle.mbqi_terms.specs.declared.formula.Formula.TheViews.{roll-Formula}

-- whether a quantifier stands in a formula, by its layer
pub free_rolled : (f : Formula) (layer : Formula-F Formula) → roll-Formula layer ≡ f → IsQuantifierFree f
    → quantifier_layer (map-Formula Formula Bool has_quantifier layer) ≡ false
unfolding has_quantifier
free_rolled f layer rolls free = sym (fold-roll-Formula Bool quantifier_layer layer) ∙ (ap has_quantifier rolls ∙ free)

each_free : (fs : List Formula) → list_any (λ part. part) (map has_quantifier fs) ≡ false → All IsQuantifierFree fs
each_free [] none = All-nil IsQuantifierFree
each_free (f ∷ fs) none =
    let both = or_parts (has_quantifier f) (list_any (λ part. part) (map has_quantifier fs)) none in
    All-cons IsQuantifierFree f fs both.0 (each_free fs both.1)

module _ (f : Formula) (free : IsQuantifierFree f) where
  pub free_not : (g : Formula) → f ≡ formula.Not g → IsQuantifierFree g
  free_not g is = free_rolled f (Formula-F.Not g) (formula.rolls-Not g ∙ sym is) free

  pub free_all : (fs : List Formula) → f ≡ formula.All fs → All IsQuantifierFree fs
  free_all fs is = each_free fs (free_rolled f (Formula-F.All fs) (formula.rolls-All fs ∙ sym is) free)

  pub free_any : (fs : List Formula) → f ≡ formula.Any fs → All IsQuantifierFree fs
  free_any fs is = each_free fs (free_rolled f (Formula-F.Any fs) (formula.rolls-Any fs ∙ sym is) free)

  pub free_iff : (g h : Formula) → f ≡ formula.Iff g h → IsQuantifierFree g × IsQuantifierFree h
  free_iff g h is = or_parts (has_quantifier g) (has_quantifier h) (free_rolled f (Formula-F.Iff g h) (formula.rolls-Iff g h ∙ sym is) free)

  pub free_choice : (c g h : Formula) → f ≡ formula.Choose c g h → IsQuantifierFree c × IsQuantifierFree g × IsQuantifierFree h
  free_choice c g h is =
      let first = or_parts (has_quantifier c) (has_quantifier g || has_quantifier h)
      (free_rolled f (Formula-F.Choose c g h) (formula.rolls-Choose c g h ∙ sym is) free) in
      let second = or_parts (has_quantifier g) (has_quantifier h) first.1 in
      (first.0, second.0, second.1)
