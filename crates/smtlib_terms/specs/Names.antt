use Rattle.std.specs.Prelude.{ℕ, ◌+◌, Bool, false, List, [], ◌∷◌, codes, Option, None, Some, Result, Ok, Err, if◌then◌else◌}
use Rattle.std.specs.List.{position}
use Rattle.std.specs.Option.{option_map_or}
use Rattle.mbqi_values.specs.declared.fault.FaultKind.{FaultKind}
use Rattle.mbqi_values.specs.declared.fault.FaultKind.TheVariants.{BadForm, Unsupported, UnknownName}
use Rattle.mbqi_terms.specs.declared.script.Function.{Function}
use Rattle.mbqi_terms.specs.declared.sort.Plain.{Plain}
use Rattle.mbqi_terms.specs.declared.sort.Plain.TheVariants as plain
use Rattle.mbqi_terms.specs.declared.sort.Sort.{Sort}
use Rattle.mbqi_terms.specs.declared.sort.Sort.TheVariants as sort
use Rattle.sexpr_text.specs.declared.tree.Sexpr.{Sexpr, Row_of-Sexpr, end_of-Sexpr, more_of-Sexpr}
use Rattle.sexpr_text.specs.declared.tree.Sexpr.TheVariants as tree
use Rattle.sexpr_text.specs.Trees.{symbol_in}
use Rattle.smtlib_terms.specs.declared.meaning.Bound.{Bound}
use Rattle.smtlib_terms.specs.declared.meaning.Meaning.{Meaning}
use Rattle.smtlib_terms.specs.declared.names.Binding.{Binding}
use Rattle.smtlib_terms.specs.Words.{is_text}

infixl 10 ◌>>=◌
-- The next step of a reading, unless there is a fault.
abbrev pub ◌>>=◌ : {A B : Type 0} → Result A FaultKind → (A → Result B FaultKind) → Result B FaultKind
(Ok a) >>= next = next a
(Err kind) >>= next = Err kind

-- A macro as its application reads it: from the meanings of its arguments and the next place of a variable.
pub record Reader : Type 0 where
  pub name : List ℕ
  pub parameters : List Sort
  pub reads : List Meaning → ℕ → Result Meaning FaultKind

-- What the names of a script stand for (SMT-LIB 2.6, section 5.2.1: signatures).
pub record Signature : Type 0 where
  pub sorts : List (List ℕ)
  pub functions : List Function
  pub macros : List Reader

-- Where the name stands in a list, counted from 0.
abbrev pub place_of : List ℕ → List (List ℕ) → Option ℕ
place_of name names = position (λ other. is_text name other) names

-- The function of a name, with its number.
abbrev pub function_named : List ℕ → ℕ → List Function → Option (ℕ × Function)
function_named name at [] = None
function_named name at (f ∷ fs) = if is_text name f.name then Some (at, f) else function_named name (at + 1) fs

abbrev pub macro_named : List ℕ → List Reader → Option Reader
macro_named name [] = None
macro_named name (m ∷ ms) = if is_text name m.name then Some m else macro_named name ms

-- What a name stands for in a scope, whose innermost binding comes first.
abbrev pub bound_to : List ℕ → List Binding → Option Bound
bound_to name [] = None
bound_to name (b ∷ bs) = if is_text name b.name then Some b.bound else bound_to name bs

-- The sort of arrays (SMT-LIB 2.6, theory ArraysEx). Arrays over Bool, and arrays of arrays, are left out.
abbrev pub array_of_plain : Plain → Sort → Result Sort FaultKind
array_of_plain i sort.Truth = Ok (sort.Array i plain.Truth)
array_of_plain i sort.Int = Ok (sort.Array i plain.Int)
array_of_plain i (sort.Elem s) = Ok (sort.Array i (plain.Elem s))
array_of_plain i (sort.Array j e) = Err Unsupported

abbrev pub array_sort : Sort → Sort → Result Sort FaultKind
array_sort sort.Int e = array_of_plain plain.Int e
array_sort (sort.Elem s) e = array_of_plain (plain.Elem s) e
array_sort sort.Truth e = Err Unsupported
array_sort (sort.Array i f) e = Err Unsupported

abbrev pub found_sort : Option ℕ → Result Sort FaultKind
found_sort (Some s) = Ok (sort.Elem s)
found_sort None = Err UnknownName

abbrev pub sort_named : List (List ℕ) → List ℕ → Result Sort FaultKind
sort_named sorts name =
    if is_text name (codes "Bool") then Ok sort.Truth
    else (if is_text name (codes "Int") then Ok sort.Int
    else found_sort (place_of name sorts))

abbrev pub is_symbol : List ℕ → Sexpr → Bool
is_symbol name t = option_map_or (λ text. is_text text name) (symbol_in t) false

-- The sort that a tree names (SMT-LIB 2.6, section 3.5).
unfoldable mutual
  pub sort_meant : Sexpr → List (List ℕ) → Result Sort FaultKind
  sort_meant (tree.Symbol name) sorts = sort_named sorts name
  sort_meant (tree.List' n row) sorts = array_meant row sorts
  sort_meant other sorts = Err BadForm

  pub array_meant : {n : _} → Row_of-Sexpr n → List (List ℕ) → Result Sort FaultKind
  array_meant (more_of-Sexpr head (more_of-Sexpr i (more_of-Sexpr e end_of-Sexpr))) sorts =
      if is_symbol (codes "Array") head then sort_meant i sorts >>= (λ index. sort_meant e sorts >>= (λ element. array_sort index element))
      else Err BadForm
  array_meant row sorts = Err BadForm
