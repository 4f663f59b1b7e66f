-- Formulas that are no negations have atoms of their own.
use Rattle.std.proofs.Common.{◌≡◌, ℕ, Bool, true, List, [], ◌∷◌, length, Some, slice_get, inl, inr, refl, sym, ap, subst, ◌∙◌}
use Rattle.std.specs.Prelude.{Contains}
use Rattle.std.proofs.lemmas.List.Elements.{All-cons, All-nil}
use Rattle.mbqi_values.specs.declared.lit.Lit.{Lit}
use Rattle.mbqi_terms.specs.declared.formula.Formula.{Formula, out-Formula}
use Rattle.mbqi_terms.specs.declared.formula.Formula.TheBlock.{hidden-the_row-Formula-0, hidden-the_row-Formula-1}
use Rattle.mbqi_terms.specs.declared.formula.Formula.TheOpen.{Formula-F}
use Rattle.mbqi_terms.specs.declared.formula.Formula.TheVariants as formula
use Rattle.mbqi_terms.specs.declared.formula.Formula.TheViews.{roll-Formula, roll-out-Formula}
use denote.Hole.Carrier.{hidden}
use Rattle.mbqi_terms.specs.Distinct.{Puts}
use Rattle.mbqi_terms.proofs.Trees.{get_seam}
use Rattle.ground_form.specs.Clauses.{GrowsBy, IsAtomOf, IsLitOf, negated}
use Rattle.ground_form.specs.Definitions.{definitions_in}
use Rattle.ground_form.proofs.Growth.{grows_not}
use Rattle.ground_form.proofs.Literals.{lit_of_not}
use Rattle.ground_form.proofs.Parts.{definitions_of_arrays, definitions_of_atom, definitions_of_equal, definitions_of_exists, definitions_of_forall, definitions_of_order}

-- the literal of a negation
pub not_lit : (table : List Formula) (f g : Formula) (lit other : Lit) → f ≡ formula.Not g → other ≡ negated lit → IsLitOf table lit g → IsLitOf table other f
not_lit table f g lit other is same own =
    subst (λ l. IsLitOf table l f) (sym same) (subst (IsLitOf table (negated lit)) (sym is) (lit_of_not table lit g own))

module _ (table : List Formula) (lit : Lit) where
  of_same : (g f : Formula) → g ≡ f → (IsAtomOf table lit g → IsLitOf table lit g) → IsAtomOf table lit f → IsLitOf table lit f
  of_same g f same own is = subst (IsLitOf table lit) same (own (subst (IsAtomOf table lit) (sym same) is))

  by_layer : (f : Formula) → ((g : Formula) → f ≡ formula.Not g → ⊥) → (layer : Formula-F Formula) → roll-Formula layer ≡ f
      → IsAtomOf table lit f → IsLitOf table lit f
  unfolding IsLitOf hidden-the_row-Formula-0 hidden hidden-the_row-Formula-1
  by_layer f none (Formula-F.Truth b) rolls = of_same (formula.Truth b) f (sym (formula.rolls-Truth b) ∙ rolls) (λ is. is)
  by_layer f none (Formula-F.Atom t) rolls = of_same (formula.Atom t) f (sym (formula.rolls-Atom t) ∙ rolls) (λ is. is)
  by_layer f none (Formula-F.Equal s t) rolls = of_same (formula.Equal s t) f (sym (formula.rolls-Equal s t) ∙ rolls) (λ is. is)
  by_layer f none (Formula-F.AtMost s t) rolls = of_same (formula.AtMost s t) f (sym (formula.rolls-AtMost s t) ∙ rolls) (λ is. is)
  by_layer f none (Formula-F.SameArray a b) rolls = of_same (formula.SameArray a b) f (sym (formula.rolls-SameArray a b) ∙ rolls) (λ is. is)
  by_layer f none (Formula-F.Not g) rolls = λ is. absurd (none g (sym rolls ∙ formula.rolls-Not g))
  by_layer f none (Formula-F.All fs) rolls = of_same (formula.All fs) f (sym (formula.rolls-All fs) ∙ rolls) (λ is. is)
  by_layer f none (Formula-F.Any fs) rolls = of_same (formula.Any fs) f (sym (formula.rolls-Any fs) ∙ rolls) (λ is. is)
  by_layer f none (Formula-F.Iff g h) rolls = of_same (formula.Iff g h) f (sym (formula.rolls-Iff g h) ∙ rolls) (λ is. is)
  by_layer f none (Formula-F.Choose c g h) rolls = of_same (formula.Choose c g h) f (sym (formula.rolls-Choose c g h) ∙ rolls) (λ is. is)
  by_layer f none (Formula-F.Forall bs g) rolls = of_same (formula.Forall bs g) f (sym (formula.rolls-Forall bs g) ∙ rolls) (λ is. is)
  by_layer f none (Formula-F.Exists bs g) rolls = of_same (formula.Exists bs g) f (sym (formula.rolls-Exists bs g) ∙ rolls) (λ is. is)

  own_lit : (f : Formula) → ((g : Formula) → f ≡ formula.Not g → ⊥) → IsAtomOf table lit f → IsLitOf table lit f
  own_lit f none = by_layer f none (out-Formula f) (roll-out-Formula f)

-- a formula that is put among those of a table has its place as its atom
module _ (old new : List Formula) (f : Formula) (atom : ℕ) (puts : Puts old f atom new) where
  pub puts_grows : (parts : List Formula) → Contains parts f → GrowsBy parts old new
  puts_grows parts has = elim puts [
    | inl there ↦ subst (GrowsBy parts old) (sym there.1) (grows_not parts old)
    | inr last ↦ (f ∷ [], last.2, All-cons (Contains parts) f [] has (All-nil (Contains parts)))
  ]

  puts_at : slice_get new atom ≡ Some f
  puts_at = elim puts [
    | inl there ↦ ap (λ table. slice_get table atom) there.1 ∙ there.0
    | inr last ↦ ap (slice_get new) last.1 ∙ (ap (λ table. slice_get table (length old)) last.2 ∙ get_seam old f [])
  ]

  pub puts_lit : ((g : Formula) → f ≡ formula.Not g → ⊥) → IsLitOf new (record { atom = atom; yes = true }) f
  puts_lit none = own_lit new (record { atom = atom; yes = true }) f none (puts_at, refl)

-- what has no parts has no clauses
module _ (f : Formula) (no_truth : (b : Bool) → f ≡ formula.Truth b → ⊥) (no_not : (g : Formula) → f ≡ formula.Not g → ⊥)
    (no_all : (fs : List Formula) → f ≡ formula.All fs → ⊥) (no_any : (fs : List Formula) → f ≡ formula.Any fs → ⊥)
    (no_iff : (g h : Formula) → f ≡ formula.Iff g h → ⊥) (no_choice : (c g h : Formula) → f ≡ formula.Choose c g h → ⊥) where
  none_by_layer : (layer : Formula-F Formula) → roll-Formula layer ≡ f → definitions_in f ≡ []
  none_by_layer (Formula-F.Truth b) rolls = absurd (no_truth b (sym rolls ∙ formula.rolls-Truth b))
  none_by_layer (Formula-F.Atom t) rolls = ap definitions_in (sym rolls ∙ formula.rolls-Atom t) ∙ definitions_of_atom t
  none_by_layer (Formula-F.Equal s t) rolls = ap definitions_in (sym rolls ∙ formula.rolls-Equal s t) ∙ definitions_of_equal s t
  none_by_layer (Formula-F.AtMost s t) rolls = ap definitions_in (sym rolls ∙ formula.rolls-AtMost s t) ∙ definitions_of_order s t
  none_by_layer (Formula-F.SameArray a b) rolls = ap definitions_in (sym rolls ∙ formula.rolls-SameArray a b) ∙ definitions_of_arrays a b
  none_by_layer (Formula-F.Not g) rolls = absurd (no_not g (sym rolls ∙ formula.rolls-Not g))
  none_by_layer (Formula-F.All fs) rolls = absurd (no_all fs (sym rolls ∙ formula.rolls-All fs))
  none_by_layer (Formula-F.Any fs) rolls = absurd (no_any fs (sym rolls ∙ formula.rolls-Any fs))
  none_by_layer (Formula-F.Iff g h) rolls = absurd (no_iff g h (sym rolls ∙ formula.rolls-Iff g h))
  none_by_layer (Formula-F.Choose c g h) rolls = absurd (no_choice c g h (sym rolls ∙ formula.rolls-Choose c g h))
  none_by_layer (Formula-F.Forall bs g) rolls = ap definitions_in (sym rolls ∙ formula.rolls-Forall bs g) ∙ definitions_of_forall bs g
  none_by_layer (Formula-F.Exists bs g) rolls = ap definitions_in (sym rolls ∙ formula.rolls-Exists bs g) ∙ definitions_of_exists bs g

  pub no_definitions : definitions_in f ≡ []
  no_definitions = none_by_layer (out-Formula f) (roll-out-Formula f)
