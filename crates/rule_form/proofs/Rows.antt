-- Worked rows: instances of small assertions.
use Rattle.std.proofs.Common.{◌≡◌, ℕ, true, List, [], ◌∷◌, inl, inr, map, None, refl, sym, subst, rules}
use Rattle.std.specs.List.{AllZip}
use Rattle.mbqi_terms.specs.Binders.{universals_at}
use Rattle.mbqi_terms.specs.HasSort.{HasSortIn, HaveSortsIn}
use Rattle.mbqi_terms.specs.InForm.{free_setting}
use Rattle.mbqi_terms.specs.Substitution.{put_into, put_into_formula}
use Rattle.mbqi_terms.specs.declared.formula.Formula as formulas
use Rattle.mbqi_terms.specs.declared.formula.Formula.{Formula}
use Rattle.mbqi_terms.specs.declared.formula.Formula.TheBlock.{hidden-the_row-Formula-0, hidden-the_row-Formula-1}
use Rattle.mbqi_terms.specs.declared.formula.Formula.TheVariants as formula
use denote.Hole.Carrier.{hidden}
use Rattle.mbqi_terms.specs.declared.script.Assertion.{Assertion}
use Rattle.mbqi_terms.specs.declared.script.Script.{Script}
use Rattle.mbqi_terms.specs.declared.sort.Binder.{Binder}
use Rattle.mbqi_terms.specs.declared.sort.Plain.TheVariants as plain
use Rattle.mbqi_terms.specs.declared.sort.Sort.TheVariants as sort
use Rattle.mbqi_terms.specs.declared.term.Symbol as symbols
use Rattle.mbqi_terms.specs.declared.term.Symbol.TheVariants as symbol
use Rattle.mbqi_terms.specs.declared.term.Term as terms
use Rattle.mbqi_terms.specs.declared.term.Term.{Term}
use Rattle.mbqi_terms.specs.declared.term.Term.TheVariants as term
use Rattle.rule_form.specs.Instance.{InstanceAt, IsInstance, IsTermFor, start, term_for, whole, whole_at}
use Rattle.rule_form.proofs.Wholes.{whole_is}

abbrev constant : ℕ → Term
constant f = term.Apply (symbol.Declared f) []

abbrev element : ℕ → Binder
element place = record { place = place; sort = sort.Elem 0 }

abbrev asserted : Formula → Assertion
asserted f = record { label = None; formula = f }

-- a relation, two constants, a predicate, and a proposition
abbrev script_of : List Formula → Script
script_of fs = record {
  sorts = [] ∷ [];
  functions =
      record { name = []; args = sort.Elem 0 ∷ sort.Elem 0 ∷ []; result = sort.Truth } ∷ record { name = []; args = []; result = sort.Elem 0 }
      ∷ record { name = []; args = []; result = sort.Elem 0 } ∷ record { name = []; args = sort.Elem 0 ∷ []; result = sort.Truth }
      ∷ record { name = []; args = []; result = sort.Truth } ∷ [];
  assertions = map asserted fs;
  asks = true;
}

abbrev related : Term → Term → Formula
related s t = formula.Atom (term.Apply (symbol.Declared 0) (s ∷ t ∷ []))

abbrev a : Term
a = constant 1

abbrev b : Term
b = constant 2

abbrev holds_of : Term → Formula
holds_of t = formula.Atom (term.Apply (symbol.Declared 3) (t ∷ []))

abbrev proposition : Formula
proposition = formula.Atom (constant 4)

-- `(forall ((x S)) (exists ((y S)) (r x y)))` at a: y is `(@sk 0 1 a)`
abbrev serial : Formula
serial = formula.Forall (element 0 ∷ []) (formula.Exists (element 1 ∷ []) (related (term.Var 0) (term.Var 1)))

universal_of_serial : universals_at serial true ≡ element 0 ∷ []
unfolding universals_at
universal_of_serial = search (rules, formulas.the_lemmas)

serial_at_a : whole_at 0 serial (a ∷ []) ≡ related a (term.Apply (symbol.Skolem 0 1) (a ∷ []))
unfolding whole hidden-the_row-Formula-0 hidden hidden-the_row-Formula-1 universals_at put_into
serial_at_a = search (rules, formulas.the_lemmas, terms.the_lemmas, symbols.the_lemmas)

-- a is a ground term of the sort, so this is an instance
abbrev serial_script : Script
serial_script = script_of (serial ∷ [])

a_is_ground : HasSortIn (free_setting serial_script) [] a (plain.Elem 0)
a_is_ground = HasSortIn.application 1 [] [] (plain.Elem 0) (record { function = record { name = []; args = []; result = sort.Elem 0 }; there = refl; takes = refl; gives = refl }) HaveSortsIn.no_terms

a_for_x : IsTermFor serial_script (element 0) a
a_for_x = record { sort = plain.Elem 0; same = refl; ground = a_is_ground }

serial_instance : IsInstance serial_script 0 (a ∷ []) (related a (term.Apply (symbol.Skolem 0 1) (a ∷ [])))
serial_instance =
    let at_a = start 0 (term_for (universals_at serial true) (a ∷ [])) in (
      asserted serial,
      refl,
      subst (λ (binders : List Binder). AllZip (IsTermFor serial_script) binders (a ∷ [])) (sym universal_of_serial) (a_for_x, tt),
      subst (InstanceAt at_a true serial) serial_at_a (whole_is serial at_a true),
    )

-- `(forall ((x S) (y S)) (= x y))` at a and b
equal_at_both : whole_at 0 (formula.Forall (element 0 ∷ element 1 ∷ []) (formula.Equal (term.Var 0) (term.Var 1))) (a ∷ b ∷ []) ≡ formula.Equal a b
unfolding whole hidden-the_row-Formula-0 hidden hidden-the_row-Formula-1 universals_at put_into
equal_at_both = search (rules, formulas.the_lemmas, terms.the_lemmas, symbols.the_lemmas)

-- `(not (or proposition (forall ((x S)) (p x))))`: the quantifier is below `or` at negative polarity, so x is existential and without arguments.
-- The whole instance has both parts, and each alone is an instance too
abbrev refused : Formula
refused = formula.Not (formula.Any (proposition ∷ formula.Forall (element 0 ∷ []) (holds_of (term.Var 0)) ∷ []))

abbrev counterexample : Formula
counterexample = holds_of (term.Apply (symbol.Skolem 2 0) [])

whole_of_refused : whole_at 2 refused [] ≡ formula.All (formula.Not proposition ∷ formula.Not counterexample ∷ [])
unfolding whole hidden-the_row-Formula-0 hidden hidden-the_row-Formula-1 universals_at put_into
whole_of_refused = search (rules, formulas.the_lemmas, terms.the_lemmas, symbols.the_lemmas)

second_part_of_refused : InstanceAt (start 2 (term_for (universals_at refused true) [])) true refused (formula.Not counterexample)
unfolding InstanceAt hidden-the_row-Formula-0 hidden hidden-the_row-Formula-1 put_into
second_part_of_refused = inl (inr (inl (search (rules, formulas.the_lemmas, terms.the_lemmas, symbols.the_lemmas))))

-- `(= p q)` of formulas is itself, or its `not`, and `ite` keeps its condition
abbrev equivalence : Formula
equivalence = formula.Iff proposition (holds_of a)

iff_at_positive : whole_at 0 equivalence [] ≡ equivalence
unfolding whole hidden-the_row-Formula-0 hidden hidden-the_row-Formula-1 universals_at put_into put_into_formula
iff_at_positive = search (rules, formulas.the_lemmas, terms.the_lemmas, symbols.the_lemmas)

iff_at_negative : whole_at 0 (formula.Not equivalence) [] ≡ formula.Not equivalence
unfolding whole hidden-the_row-Formula-0 hidden hidden-the_row-Formula-1 universals_at put_into put_into_formula
iff_at_negative = search (rules, formulas.the_lemmas, terms.the_lemmas, symbols.the_lemmas)

abbrev choice : Formula
choice = formula.Choose proposition (holds_of a) (holds_of b)

choice_at_positive : whole_at 0 choice [] ≡ choice
unfolding whole hidden-the_row-Formula-0 hidden hidden-the_row-Formula-1 universals_at put_into put_into_formula
choice_at_positive = search (rules, formulas.the_lemmas, terms.the_lemmas, symbols.the_lemmas)

choice_at_negative : whole_at 0 (formula.Not choice) [] ≡ formula.Choose proposition (formula.Not (holds_of a)) (formula.Not (holds_of b))
unfolding whole hidden-the_row-Formula-0 hidden hidden-the_row-Formula-1 universals_at put_into put_into_formula
choice_at_negative = search (rules, formulas.the_lemmas, terms.the_lemmas, symbols.the_lemmas)
