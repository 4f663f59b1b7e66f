-- Worked rows: what the definitions give in small models.
use Rattle.std.proofs.Common.{◌≡◌, ◌<◌, ℕ, ℤ, pos, negsuc, true, false, List, [], ◌∷◌, inl, inr, refl, sym, ap, subst, ◌∙◌, rules, arith}
use Rattle.mbqi_values.specs.Value.{is_same}
use Rattle.mbqi_values.specs.declared.value.Value.{Value}
use Rattle.mbqi_values.specs.declared.value.Value.TheVariants as value
use Rattle.mbqi_terms.specs.declared.formula.Formula.{Formula}
use Rattle.mbqi_terms.specs.declared.formula.Formula.TheBlock.{hidden-the_row-Formula-0, hidden-the_row-Formula-1}
use Rattle.mbqi_terms.specs.declared.formula.Formula.TheVariants as formula
use denote.Hole.Carrier.{hidden}
use Rattle.mbqi_terms.specs.declared.sort.Binder.{Binder}
use Rattle.mbqi_terms.specs.declared.sort.Plain.TheVariants as plain
use Rattle.mbqi_terms.specs.declared.sort.Sort.TheVariants as sort
use Rattle.mbqi_terms.specs.declared.term.ArrayTerm as arrays
use Rattle.mbqi_terms.specs.declared.term.ArrayTerm.{ArrayTerm}
use Rattle.mbqi_terms.specs.declared.term.ArrayTerm.TheVariants as array
use Rattle.mbqi_terms.specs.declared.term.Symbol as symbols
use Rattle.mbqi_terms.specs.declared.term.Symbol.TheVariants as symbol
use Rattle.mbqi_terms.specs.declared.term.Term as terms
use Rattle.mbqi_terms.specs.declared.term.Term.{Term}
use Rattle.mbqi_terms.specs.declared.term.Term.TheVariants as term
use Rattle.mbqi_terms.specs.SameTree.{same_array, same_term}
use Rattle.function_model.specs.declared.model.FunctionModel.{FunctionModel}
use Rattle.function_model.specs.declared.model.Row.{Row}
use Rattle.function_model.specs.declared.model.Table.{Table}
use Rattle.function_model.specs.declared.model.TableName.{TableName}
use Rattle.function_model.specs.declared.model.TableName.TheVariants as name
use Rattle.function_model.specs.Holds.{HoldsAt, IsOf, index_sort, nowhere, with_value}
use Rattle.function_model.specs.Lookup.{is_full, looked_up_in}
use Rattle.function_model.specs.ValueOf.{array_of, sameness_in, value_of}

abbrev number : ℤ → Term
number n = term.Num n

abbrev row : List Value → Value → Row
row places v = record { places = places; value = v }

-- a table of one argument
abbrev unary : TableName → List Value → List Row → Value → Table
unary n knots rows default = record { name = n; knots = knots ∷ []; rows = rows; default = default }

abbrev bare : TableName → Value → Table
bare n v = record { name = n; knots = []; rows = []; default = v }

abbrev model : List ℕ → List Table → FunctionModel
model sizes tables = record { sizes = sizes; tables = tables }

-- knots -1 and 0, rows ((-1) 0) and ((0) 1), default 7: the least knot serves below it, the last one above it
abbrev step : Table
step = unary (name.Declared 0) (value.Num (negsuc 0) ∷ value.Num (pos 0) ∷ [])
    (row (value.Num (negsuc 0) ∷ []) (value.Num (pos 0)) ∷ row (value.Num (pos 0) ∷ []) (value.Num (pos 1)) ∷ []) (value.Num (pos 7))

below_the_least_knot : looked_up_in step (value.Num (negsuc 4) ∷ []) ≡ value.Num (pos 0)
below_the_least_knot = refl

past_the_last_knot : looked_up_in step (value.Num (pos 9) ∷ []) ≡ value.Num (pos 1)
past_the_last_knot = refl

-- `(or (= x 5) (p x))`
abbrev five_or_p : Formula
five_or_p = formula.Any (formula.Equal (term.Var 0) (number (pos 5)) ∷ formula.Atom (term.Apply (symbol.Declared 0) (term.Var 0 ∷ [])) ∷ [])

-- with the knots 0, 4, 5, 6, p is true at 6; with 4 and 5 alone it is false at each number above 5
abbrev p_false_at_five : List Value → FunctionModel
p_false_at_five knots = model [] (unary (name.Declared 0) knots (row (value.Num (pos 5) ∷ []) (value.Truth false) ∷ []) (value.Truth true) ∷ [])

abbrev four_knots : FunctionModel
four_knots = p_false_at_five (value.Num (pos 0) ∷ value.Num (pos 4) ∷ value.Num (pos 5) ∷ value.Num (pos 6) ∷ [])

abbrev two_knots : FunctionModel
two_knots = p_false_at_five (value.Num (pos 4) ∷ value.Num (pos 5) ∷ [])

abbrev p_of_six : Term
p_of_six = term.Apply (symbol.Declared 0) (number (pos 6) ∷ [])

p_of_six_with_its_knot : value_of four_knots p_of_six nowhere ≡ value.Truth true
unfolding value_of
p_of_six_with_its_knot = search (rules, terms.the_lemmas, symbols.the_lemmas)

p_of_six_without_it : value_of two_knots p_of_six nowhere ≡ value.Truth false
unfolding value_of
p_of_six_without_it = search (rules, terms.the_lemmas, symbols.the_lemmas)

-- at 6 the formula holds with the four knots, and fails with the two; so the rule fails there
abbrev at_six : ℕ → Value
at_six place = value.Num (pos 6)

p_of_x_with_its_knot : value_of four_knots (term.Apply (symbol.Declared 0) (term.Var 0 ∷ [])) at_six ≡ value.Truth true
unfolding value_of
p_of_x_with_its_knot = search (rules, terms.the_lemmas, symbols.the_lemmas)

p_of_x_without_it : value_of two_knots (term.Apply (symbol.Declared 0) (term.Var 0 ∷ [])) at_six ≡ value.Truth false
unfolding value_of
p_of_x_without_it = search (rules, terms.the_lemmas, symbols.the_lemmas)

x_is_six : (m : FunctionModel) → value_of m (term.Var 0) at_six ≡ value.Num (pos 6)
unfolding value_of
x_is_six m = search (rules, terms.the_lemmas)

five : (m : FunctionModel) (p : ℕ → Value) → value_of m (number (pos 5)) p ≡ value.Num (pos 5)
unfolding value_of
five m p = search (rules, terms.the_lemmas)

holds_at_six : HoldsAt [] four_knots true five_or_p at_six
unfolding HoldsAt hidden-the_row-Formula-0 hidden hidden-the_row-Formula-1
holds_at_six = inr (inl p_of_x_with_its_knot)

fails_at_six : HoldsAt [] two_knots false five_or_p at_six
unfolding HoldsAt hidden-the_row-Formula-0 hidden hidden-the_row-Formula-1
fails_at_six = (
  ap (λ v. is_same v (value_of two_knots (number (pos 5)) at_six)) (x_is_six two_knots) ∙ ap (is_same (value.Num (pos 6))) (five two_knots at_six),
  (p_of_x_without_it, tt),
)

abbrev integer : Binder
integer = record { place = 0; sort = sort.Int }

abbrev six_for_x : ℕ → Value
six_for_x = with_value nowhere 0 (value.Num (pos 6))

six_is_not_five : is_same (value_of two_knots (term.Var 0) six_for_x) (value_of two_knots (number (pos 5)) six_for_x) ≡ false
unfolding value_of
six_is_not_five = search (rules, terms.the_lemmas)

p_is_false_there : value_of two_knots (term.Apply (symbol.Declared 0) (term.Var 0 ∷ [])) six_for_x ≡ value.Truth false
unfolding value_of
p_is_false_there = search (rules, terms.the_lemmas, symbols.the_lemmas)

-- so the rule fails there
rule_fails : HoldsAt [] two_knots false (formula.Forall (integer ∷ []) five_or_p) nowhere
unfolding HoldsAt hidden-the_row-Formula-0 hidden hidden-the_row-Formula-1
rule_fails = (value.Num (pos 6), tt, (six_is_not_five, (p_is_false_there, tt)))

-- one element, which both constants are: `(forall ((x S) (y S)) (= x y))` holds, and `(not (= a b))` fails
abbrev one_element : FunctionModel
one_element = model (1 ∷ []) (bare (name.Declared 0) (value.Elem 0) ∷ bare (name.Declared 1) (value.Elem 0) ∷ [])

abbrev element : ℕ → Binder
element place = record { place = place; sort = sort.Elem 0 }

abbrev constant : ℕ → Term
constant f = term.Apply (symbol.Declared f) []

constants_are_same : is_same (value_of one_element (constant 0) nowhere) (value_of one_element (constant 1) nowhere) ≡ true
unfolding value_of
constants_are_same = search (rules, terms.the_lemmas, symbols.the_lemmas)

unequal_fails : HoldsAt [] one_element false (formula.Not (formula.Equal (constant 0) (constant 1))) nowhere
unfolding HoldsAt hidden-the_row-Formula-0 hidden hidden-the_row-Formula-1
unequal_fails = constants_are_same

value_of_variable : (m : FunctionModel) (p : ℕ → Value) (place : ℕ) → value_of m (term.Var place) p ≡ p place
unfolding value_of
value_of_variable m p place = search (rules, terms.the_lemmas)

variables_are_same : (p : ℕ → Value) (e d : ℕ) → e < 1 → d < 1 → p 0 ≡ value.Elem e → p 1 ≡ value.Elem d
    → is_same (value_of one_element (term.Var 0) p) (value_of one_element (term.Var 1) p) ≡ true
variables_are_same p e d one other first second =
    let same : e ≡ d = omega (arith, one, other) in
    ap (λ v. is_same v (value_of one_element (term.Var 1) p)) (value_of_variable one_element p 0 ∙ first)
    ∙ (ap (is_same (value.Elem e)) (value_of_variable one_element p 1 ∙ second) ∙ search (rules, arith))

all_are_same : HoldsAt [] one_element true (formula.Forall (element 0 ∷ element 1 ∷ []) (formula.Equal (term.Var 0) (term.Var 1))) nowhere
unfolding HoldsAt hidden-the_row-Formula-0 hidden hidden-the_row-Formula-1
all_are_same (value.Elem e) below (value.Elem d) under =
    variables_are_same (with_value (with_value nowhere 0 (value.Elem e)) 1 (value.Elem d)) e d below under refl refl
all_are_same (value.Elem e) below (value.Num n) none = absurd none
all_are_same (value.Elem e) below (value.Truth t) none = absurd none
all_are_same (value.Num n) none w under = absurd none
all_are_same (value.Truth t) none w under = absurd none

-- `(store ((as const (Array Int Int)) 0) 3 7)`, computed in a shown model
abbrev zeros : ArrayTerm
zeros = array.Const (sort.Array plain.Int plain.Int) (number (pos 0))

abbrev seven_at_three : ArrayTerm
seven_at_three = array.Store zeros (number (pos 3)) (number (pos 7))

abbrev nothing_shown : FunctionModel
nothing_shown = model [] []

read_where_it_is_stored : value_of nothing_shown (term.Read seven_at_three (number (pos 3))) nowhere ≡ value.Num (pos 7)
unfolding value_of
read_where_it_is_stored = search (rules, terms.the_lemmas, arrays.the_lemmas)

read_elsewhere : value_of nothing_shown (term.Read seven_at_three (number (pos 4))) nowhere ≡ value.Num (pos 0)
unfolding value_of
read_elsewhere = search (rules, terms.the_lemmas, arrays.the_lemmas)

default_past_the_stored_index : value_of nothing_shown (term.Default seven_at_three) nowhere ≡ value.Num (pos 0)
unfolding value_of
default_past_the_stored_index = search (rules, terms.the_lemmas, arrays.the_lemmas)

no_difference_is_shown : value_of nothing_shown (term.Apply (symbol.Diff zeros seven_at_three) []) nowhere ≡ value.Num (pos 0)
unfolding value_of
no_difference_is_shown = search (rules, terms.the_lemmas, arrays.the_lemmas, symbols.the_lemmas)

-- the same terms in a full model, whose own tables say otherwise
abbrev full : FunctionModel
full = model []
    (bare name.Far (value.Num (pos 9)) ∷ bare (name.Diff zeros seven_at_three) (value.Num (pos 3))
    ∷ bare (name.Default seven_at_three) (value.Num (pos 2)) ∷ unary (name.Read zeros) (value.Num (pos 0) ∷ []) [] (value.Num (pos 0))
    ∷ unary (name.Read seven_at_three) (value.Num (pos 3) ∷ []) [] (value.Num (pos 5))
    ∷ bare (name.Same zeros seven_at_three) (value.Truth true) ∷ [])

with_far_it_is_full : is_full full ≡ true
with_far_it_is_full = refl

read_in_its_own_table : value_of full (term.Read seven_at_three (number (pos 3))) nowhere ≡ value.Num (pos 5)
unfolding value_of same_array same_term
read_in_its_own_table = search (rules, terms.the_lemmas, arrays.the_lemmas)

default_in_its_own_table : value_of full (term.Default seven_at_three) nowhere ≡ value.Num (pos 2)
unfolding value_of same_array same_term
default_in_its_own_table = search (rules, terms.the_lemmas, arrays.the_lemmas)

difference_in_its_own_table : value_of full (term.Apply (symbol.Diff zeros seven_at_three) []) nowhere ≡ value.Num (pos 3)
unfolding value_of same_array same_term
difference_in_its_own_table = search (rules, terms.the_lemmas, arrays.the_lemmas, symbols.the_lemmas)

sort_of_index : index_sort [] zeros ≡ sort.Int
sort_of_index = search (rules, terms.the_lemmas, arrays.the_lemmas)

index_is_integer : IsOf [] (index_sort [] zeros) (value.Num (pos 3))
index_is_integer = subst (λ s. IsOf [] s (value.Num (pos 3))) (sym sort_of_index) tt

-- the two arrays are the same by the full model's table, and differ at 3 in the shown one
sameness_in_its_own_table : sameness_in full zeros seven_at_three ≡ value.Truth true
unfolding same_array same_term
sameness_in_its_own_table = search (rules, terms.the_lemmas, arrays.the_lemmas)

same_in_the_full_one : HoldsAt [] full true (formula.SameArray zeros seven_at_three) nowhere
unfolding HoldsAt
same_in_the_full_one = sameness_in_its_own_table

reads_differ_at_three : is_same ((array_of nothing_shown zeros nowhere).read (value.Num (pos 3))) ((array_of nothing_shown seven_at_three nowhere).read (value.Num (pos 3))) ≡ false
unfolding array_of
reads_differ_at_three = search (rules, terms.the_lemmas, arrays.the_lemmas)

different_in_the_shown_one : HoldsAt [] nothing_shown false (formula.SameArray zeros seven_at_three) nowhere
unfolding HoldsAt
different_in_the_shown_one = (value.Num (pos 3), index_is_integer, reads_differ_at_three)

-- a step function has at its end the value of its last piece: 1 with the rows 0 at -1 and 1 at 0, and 5 with the row 5 at 0 and the
-- default 7
abbrev a_default : Term
a_default = term.Default (array.Name 0)

default_of_two_pieces : value_of (model [] (step ∷ [])) a_default nowhere ≡ value.Num (pos 1)
unfolding value_of
default_of_two_pieces = search (rules, terms.the_lemmas, arrays.the_lemmas)

default_is_no_default_of_the_table :
    value_of (model [] (unary (name.Declared 0) (value.Num (pos 0) ∷ []) (row (value.Num (pos 0) ∷ []) (value.Num (pos 5)) ∷ []) (value.Num (pos 7)) ∷ [])) a_default nowhere
    ≡ value.Num (pos 5)
unfolding value_of
default_is_no_default_of_the_table = search (rules, terms.the_lemmas, arrays.the_lemmas)

-- the atoms of no arguments 0 and 1, of which the first is true and the second false, and a predicate that is true of element 0 alone
abbrev yes : Formula
yes = formula.Atom (constant 0)

abbrev no : Formula
no = formula.Atom (constant 1)

abbrev of_variable : Formula
of_variable = formula.Atom (term.Apply (symbol.Declared 2) (term.Var 0 ∷ []))

abbrev two_elements : FunctionModel
two_elements = model (2 ∷ [])
    (bare (name.Declared 0) (value.Truth true) ∷ bare (name.Declared 1) (value.Truth false)
    ∷ unary (name.Declared 2) (value.Elem 0 ∷ value.Elem 1 ∷ []) (row (value.Elem 0 ∷ []) (value.Truth true) ∷ []) (value.Truth false) ∷ [])

yes_is_true : value_of two_elements (constant 0) nowhere ≡ value.Truth true
unfolding value_of
yes_is_true = search (rules, terms.the_lemmas, symbols.the_lemmas)

no_is_false : value_of two_elements (constant 1) nowhere ≡ value.Truth false
unfolding value_of
no_is_false = search (rules, terms.the_lemmas, symbols.the_lemmas)

false_of_the_second : value_of two_elements (term.Apply (symbol.Declared 2) (term.Var 0 ∷ [])) (with_value nowhere 0 (value.Elem 1)) ≡ value.Truth false
unfolding value_of
false_of_the_second = search (rules, terms.the_lemmas, symbols.the_lemmas)

true_of_the_first : value_of two_elements (term.Apply (symbol.Declared 2) (term.Var 0 ∷ [])) (with_value nowhere 0 (value.Elem 0)) ≡ value.Truth true
unfolding value_of
true_of_the_first = search (rules, terms.the_lemmas, symbols.the_lemmas)

-- `(or no (forall ((x S)) (q x)))` fails: its first part does, and its second at element 1
quantifier_under_or_fails : HoldsAt [] two_elements false (formula.Any (no ∷ formula.Forall (element 0 ∷ []) of_variable ∷ [])) nowhere
unfolding HoldsAt hidden-the_row-Formula-0 hidden hidden-the_row-Formula-1
quantifier_under_or_fails = (no_is_false, ((value.Elem 1, below, false_of_the_second), tt))
  where
    below : 1 < 2
    below = omega arith

-- and `(exists ((x S)) (q x))` holds by element 0
exists_holds : HoldsAt [] two_elements true (formula.Exists (element 0 ∷ []) of_variable) nowhere
unfolding HoldsAt hidden-the_row-Formula-0 hidden hidden-the_row-Formula-1
exists_holds = (value.Elem 0, below, true_of_the_first)
  where
    below : 0 < 2
    below = omega arith

-- `(= yes no)` fails and `(= no no)` holds
iff_fails : HoldsAt [] two_elements false (formula.Iff yes no) nowhere
unfolding HoldsAt hidden-the_row-Formula-0 hidden hidden-the_row-Formula-1
iff_fails = inl (yes_is_true, no_is_false)

iff_holds : HoldsAt [] two_elements true (formula.Iff no no) nowhere
unfolding HoldsAt hidden-the_row-Formula-0 hidden hidden-the_row-Formula-1
iff_holds = inr (no_is_false, no_is_false)

-- `(ite yes no yes)` fails and `(ite no no yes)` holds
choice_fails : HoldsAt [] two_elements false (formula.Choose yes no yes) nowhere
unfolding HoldsAt hidden-the_row-Formula-0 hidden hidden-the_row-Formula-1
choice_fails = inl (yes_is_true, no_is_false)

choice_holds : HoldsAt [] two_elements true (formula.Choose no no yes) nowhere
unfolding HoldsAt hidden-the_row-Formula-0 hidden hidden-the_row-Formula-1
choice_holds = inr (no_is_false, yes_is_true)
