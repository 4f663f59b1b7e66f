-- What a reader leaves: trees in form.
use Rattle.std.proofs.Common.{◌≡◌, ◌≤◌, ◌<◌, ℕ, ◌+◌, false, List, [], ◌∷◌, length, Ok, Some, slice_get}
use Rattle.mbqi_terms.specs.declared.script.Function.{Function}
use Rattle.mbqi_terms.specs.declared.script.Script.{Script}
use Rattle.mbqi_terms.specs.declared.sort.Binder.{Binder}
use Rattle.mbqi_terms.specs.declared.sort.Plain.{Plain}
use Rattle.mbqi_terms.specs.declared.sort.Plain.TheVariants as plain
use Rattle.mbqi_terms.specs.declared.sort.Sort.{Sort}
use Rattle.mbqi_terms.specs.declared.term.ArrayTerm.{ArrayTerm}
use Rattle.mbqi_terms.specs.declared.term.Term.{Term}
use Rattle.smtlib_terms.specs.declared.meaning.Bound.{Bound}
use Rattle.smtlib_terms.specs.declared.meaning.Bound.TheVariants.{Variable, Value}
use Rattle.smtlib_terms.specs.declared.meaning.Meaning.{Meaning}
use Rattle.smtlib_terms.specs.declared.meaning.Meaning.TheVariants as meaning
use Rattle.smtlib_terms.specs.declared.meaning.Side.{Side}
use Rattle.smtlib_terms.specs.declared.meaning.Side.TheVariants.{Meant, Difference}
use Rattle.smtlib_terms.specs.declared.names.Binding.{Binding}
use Rattle.smtlib_terms.specs.declared.names.MacroBody.{MacroBody}
use Rattle.smtlib_terms.specs.declared.names.MacroBody.TheVariants as body
use Rattle.smtlib_terms.specs.Meaning.{depth_of, shifted_place, variables_of}
use Rattle.smtlib_terms.specs.Names.{Reader, Signature, bound_to, function_named, macro_named}
use Rattle.mbqi_terms.specs.HasSort.{IsIndexSort, IsPlainSort, sort_at}
use Rattle.mbqi_terms.specs.InForm.{IsRanked, IsVariableSort}
use Rattle.smtlib_terms.specs.InForm.{HasSort, IsArray, IsFormula}
use Rattle.mbqi_terms.specs.Varies.{varies}
use Rattle.mbqi_terms.specs.Sort.{plain_sort}

-- A term of a sort that an argument may have.
pub record IsTermOf (script : Script) (scope : List Binder) (s : Sort) (t : Term) : Type 0 where
  pub is : Plain
  pub sort : s ≡ plain_sort is
  pub index : IsIndexSort (length script.sorts) is
  pub term : HasSort script scope t is

-- An array term with these sorts, without variables.
pub record IsArrayOf (script : Script) (scope : List Binder) (i e : Plain) (a : ArrayTerm) : Type 0 where
  pub index : IsIndexSort (length script.sorts) i
  pub element : IsPlainSort (length script.sorts) e
  pub array : IsArray script scope a i e
  pub closed : varies a ≡ false

-- What a tree means, where `next` is the next place of a variable.
abbrev pub IsMeaning : Script → List Binder → ℕ → Meaning → Type 0
IsMeaning script scope next (meaning.Formula f) = IsFormula script scope next f
IsMeaning script scope next (meaning.Term s t) = IsTermOf script scope s t
IsMeaning script scope next (meaning.Array i e a) = IsArrayOf script scope i e a

-- The same within the limit of depth.
pub record IsRead (script : Script) (scope : List Binder) (next : ℕ) (m : Meaning) : Type 0 where
  pub meaning : IsMeaning script scope next m
  pub depth : depth_of m ≤ 1000

-- Meanings, each one's variables placed behind those of the meanings before it.
abbrev pub AreMeanings : Script → List Binder → ℕ → List Meaning → Type 0
AreMeanings script scope next [] = Unit {0}
AreMeanings script scope next (m ∷ ms) = IsMeaning script scope next m × AreMeanings script scope (next + variables_of m) ms

-- Values, each with its variables from the next place on.
abbrev pub AreValues : Script → List Binder → ℕ → List Meaning → Type 0
AreValues script scope next [] = Unit {0}
AreValues script scope next (m ∷ ms) = IsRead script scope next m × AreValues script scope next ms

-- The difference of two integers.
pub record IsDifference (script : Script) (scope : List Binder) (s t : Term) : Type 0 where
  pub first : HasSort script scope s plain.Int
  pub second : HasSort script scope t plain.Int

abbrev pub IsSideMeaning : Script → List Binder → ℕ → Side → Type 0
IsSideMeaning script scope next (Meant m) = IsMeaning script scope next m
IsSideMeaning script scope next (Difference s t) = IsDifference script scope s t

abbrev pub IsReadSide : Script → List Binder → ℕ → Side → Type 0
IsReadSide script scope next (Meant m) = IsRead script scope next m
IsReadSide script scope next (Difference s t) = IsDifference script scope s t

-- The variables of one scope are there in another; at moved places; and stand before a place.
abbrev pub Extends : List Binder → List Binder → Type 0
Extends scope other = (place : ℕ) (s : Sort) → sort_at scope place ≡ Some s → sort_at other place ≡ Some s

abbrev pub Moves : ℕ → ℕ → List Binder → List Binder → Type 0
Moves from by scope other = (place : ℕ) (s : Sort) → sort_at scope place ≡ Some s → sort_at other (shifted_place from by place) ≡ Some s

abbrev pub IsBelow : ℕ → List Binder → Type 0
IsBelow next scope = (place : ℕ) (s : Sort) → sort_at scope place ≡ Some s → place < next

-- A variable that is bound, or a value that was read in a scope outside.
pub record IsVariable (script : Script) (scope : List Binder) (place : ℕ) (s : Sort) : Type 0 where
  pub sort : IsVariableSort (length script.sorts) s
  pub bound : sort_at scope place ≡ Some s

pub record IsValue (script : Script) (scope : List Binder) (next : ℕ) (from : ℕ) (m : Meaning) : Type 0 where
  pub outside : List Binder
  pub before : from ≤ next
  pub below : IsBelow from outside
  pub extends : Extends outside scope
  pub read : IsRead script outside from m

abbrev pub IsBound : Script → List Binder → ℕ → Bound → Type 0
IsBound script scope next (Variable place s) = IsVariable script scope place s
IsBound script scope next (Value from m) = IsValue script scope next from m

-- What names stand for in a scope.
abbrev pub IsScope : Script → List Binder → ℕ → List Binding → Type 0
IsScope script scope next bindings = (name : List ℕ) (bound : Bound) → bound_to name bindings ≡ Some bound → IsBound script scope next bound

-- A function of the script.
pub record IsFunction (script : Script) (number : ℕ) (f : Function) : Type 0 where
  pub there : slice_get script.functions number ≡ Some f
  pub ranked : IsRanked (length script.sorts) f

-- A meaning that a macro keeps is in form.
abbrev pub IsKeptBody : Script → MacroBody → Type 0
IsKeptBody script (body.Meaning m) = IsRead script [] 0 m
IsKeptBody script (body.Tree t) = Unit {0}

-- A macro reads values as something in form.
abbrev pub IsReader : Script → Reader → Type 0
IsReader script m =
    (scope : List Binder) (next : ℕ) (args : List Meaning) (result : Meaning) → IsBelow next scope → AreValues script scope next args → m.reads args next ≡ Ok result → IsRead script scope next result

-- What names stand for, as far as a script was read.
pub record IsSignature (script : Script) (names : Signature) : Type 0 where
  pub sorts : length names.sorts ≤ length script.sorts
  pub functions : (name : List ℕ) (number : ℕ) (f : Function) → function_named name 0 names.functions ≡ Some (number, f) → IsFunction script number f
  pub macros : (name : List ℕ) (m : Reader) → macro_named name names.macros ≡ Some m → IsReader script m
