-- The lists by which terms have their sorts (SMT-LIB 2.6, theories Core, Ints and ArraysEx, with this project's constant arrays,
-- pointwise maps, defaults and hidden names).
use Rattle.std.specs.Prelude.{ℕ, ◌==◌, ◌&&◌, List, [], ◌∷◌, Option, Some, None, slice_get, find}
use Rattle.std.specs.Option.{option_map, option_and_then}
use Rattle.mbqi_terms.specs.declared.sort.Plain.{Plain}
use Rattle.mbqi_terms.specs.declared.sort.Plain.TheVariants as plain
use Rattle.mbqi_terms.specs.declared.sort.Sort.{Sort}
use Rattle.mbqi_terms.specs.declared.sort.Sort.TheVariants.{Truth, Int, Elem, Array}
use Rattle.mbqi_terms.specs.declared.script.Function.{Function}
use Rattle.mbqi_terms.specs.declared.store.lists.Lists.{Lists}
use Rattle.mbqi_terms.specs.declared.arrays.SkolemSort.{SkolemSort}
use Rattle.mbqi_terms.specs.declared.term.MapOp.{MapOp}
use Rattle.mbqi_terms.specs.declared.term.MapOp.TheVariants.{Declared, And, Or, Not}
use Rattle.mbqi_terms.specs.declared.term.ArrayTerm.{ArrayTerm}
use Rattle.mbqi_terms.specs.declared.term.ArrayTerm.TheOpen.{ArrayTerm-F, Symbol-F, Term-F}
use Rattle.mbqi_terms.specs.declared.term.ArrayTerm.TheFolds.{fold-ArrayTerm}
use Rattle.mbqi_terms.specs.declared.term.Symbol.{Symbol, out-Symbol}
use Rattle.mbqi_terms.specs.declared.term.Term.{Term, out-Term}
use Rattle.mbqi_terms.specs.Sort.{plain_of, index_of, element_of}
use Rattle.mbqi_terms.specs.Tree.{Layer}

-- The result sort of a function by its number.
abbrev pub result_of : List Function → ℕ → Option Sort
result_of functions f = option_map (λ function. function.result) (slice_get functions f)

-- The sort of the elements that a pointwise map gives.
abbrev pub mapped : List Function → MapOp → Option Plain
mapped functions (Declared f) = option_and_then plain_of (result_of functions f)
mapped functions And = Some plain.Truth
mapped functions Or = Some plain.Truth
mapped functions Not = Some plain.Truth

abbrev pub with_element : Sort → Plain → Option Sort
with_element (Array i e) element = Some (Array i element)
with_element sort element = None

-- A map has the index sort of its first array.
abbrev pub map_sort : List Function → MapOp → List (Option Sort) → Option Sort
map_sort functions op [] = None
map_sort functions op (sort ∷ sorts) = option_and_then (λ s. option_and_then (with_element s) (mapped functions op)) sort

-- The sort of an array term: a name's is declared, a store has that of the array that it changes.
abbrev pub array_layer_sort : List Function → ArrayTerm-F (Option Sort) (Unit {0}) (Unit {0}) → Option Sort
array_layer_sort functions (ArrayTerm-F.Name f) = result_of functions f
array_layer_sort functions (ArrayTerm-F.Store a i v) = a
array_layer_sort functions (ArrayTerm-F.Const sort v) = Some sort
array_layer_sort functions (ArrayTerm-F.Map op sorts) = map_sort functions op sorts

abbrev pub array_sort : List Function → ArrayTerm → Option Sort
array_sort functions = fold-ArrayTerm (Option Sort) (Unit {0}) (Unit {0}) (array_layer_sort functions) (λ _. tt) (λ _. tt)

abbrev pub index_sort : Lists → ArrayTerm → Option Sort
index_sort l a = option_and_then index_of (array_sort l.functions a)

abbrev pub element_sort : Lists → ArrayTerm → Option Sort
element_sort l a = option_and_then element_of (array_sort l.functions a)

-- The Skolem symbol of an assertion and a place.
abbrev pub skolem_of : List SkolemSort → ℕ → ℕ → Option SkolemSort
skolem_of skolems assertion place = find (λ s. (s.assertion == assertion) && (s.place == place)) skolems

-- The sorts that a symbol's arguments have, and the sort of its result: none where the lists don't have it.
abbrev pub symbol_layer_places : Lists → Symbol-F ArrayTerm Symbol Term → Option (List Sort)
symbol_layer_places l (Symbol-F.Declared f) = option_map (λ function. function.args) (slice_get l.functions f)
symbol_layer_places l (Symbol-F.Skolem assertion place) = option_map (λ s. s.args) (skolem_of l.skolems assertion place)
symbol_layer_places l (Symbol-F.Seed s) = Some []
symbol_layer_places l Symbol-F.Far = Some []
symbol_layer_places l (Symbol-F.Diff a b) = option_map (λ _. []) (index_sort l a)

abbrev pub symbol_layer_sort : Lists → Symbol-F ArrayTerm Symbol Term → Option Sort
symbol_layer_sort l (Symbol-F.Declared f) = result_of l.functions f
symbol_layer_sort l (Symbol-F.Skolem assertion place) = option_map (λ s. s.result) (skolem_of l.skolems assertion place)
symbol_layer_sort l (Symbol-F.Seed s) = Some (Elem s)
symbol_layer_sort l Symbol-F.Far = Some Int
symbol_layer_sort l (Symbol-F.Diff a b) = index_sort l a

-- The sort of a term by the lists: none for a variable, whose binder has it, and for a variable plus a number.
abbrev pub layer_sort : Lists → Layer → Option Sort
layer_sort l (Term-F.Num n) = Some Int
layer_sort l (Term-F.Plus t n) = None
layer_sort l (Term-F.Var k) = None
layer_sort l (Term-F.Truth b) = Some Truth
layer_sort l (Term-F.Apply f ts) = symbol_layer_sort l (out-Symbol f)
layer_sort l (Term-F.Read a i) = element_sort l a
layer_sort l (Term-F.Default a) = element_sort l a

abbrev pub sum_sort : Lists → Layer → Option Sort
sum_sort l (Term-F.Plus t n) = layer_sort l (out-Term t)
sum_sort l layer = layer_sort l layer

abbrev pub sort_of_term : Lists → Term → Option Sort
sort_of_term l t = sum_sort l (out-Term t)
