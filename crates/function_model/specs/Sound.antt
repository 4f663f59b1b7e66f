-- Sound tables and models: what a binary search and the values of terms in tables ask of a model (this project's own). Each model that fits
-- a script is sound, and gives values of the sorts of the script.
use Rattle.std.specs.Prelude.{◌≡◌, ℕ, true, List, [], ◌∷◌, All, Some, slice_get}
use Rattle.std.specs.Ordering.{is_lt}
use Rattle.mbqi_values.specs.Value.{rank_of}
use Rattle.mbqi_values.specs.declared.value.Value.{Value}
use Rattle.mbqi_terms.specs.declared.arrays.SkolemSort.{SkolemSort}
use Rattle.mbqi_terms.specs.declared.script.Function.{Function}
use Rattle.mbqi_terms.specs.declared.store.lists.Lists.{Lists}
use Rattle.mbqi_terms.specs.Lists.{skolem_of}
use Rattle.function_model.specs.Fits.{IsSmall, StandOn, values_of}
use Rattle.function_model.specs.Holds.{IsOf}
use Rattle.function_model.specs.Lookup.{given_by, is_declared, is_skolem}
use Rattle.function_model.specs.Rising.{RowsRise}
use Rattle.function_model.specs.declared.model.FunctionModel.{FunctionModel}
use Rattle.function_model.specs.declared.model.Row.{Row}
use Rattle.function_model.specs.declared.model.Table.{Table}
use Rattle.function_model.specs.declared.model.TableName.TheVariants.{Declared}

-- The knots of one argument: not empty, and each below the next.
abbrev pub KnotsRise : List Value → Type 0
KnotsRise [] = ⊥
KnotsRise (v ∷ []) = Unit {0}
KnotsRise (v ∷ w ∷ vs) = (is_lt (rank_of v w) ≡ true) × KnotsRise (w ∷ vs)

-- Knots and rows rise, each row stands on knots, and all numbers are absolutely below 2 ^ 124. Of sorts nothing is said.
pub record IsSoundTable (table : Table) : Type 0 where
  pub knots : All KnotsRise table.knots
  pub small_knots : All (All IsSmall) table.knots
  pub places : All (λ (row : Row). StandOn table.knots row.places) table.rows
  pub rise : RowsRise table.rows
  pub small_values : All (λ (row : Row). IsSmall row.value) table.rows
  pub small_default : IsSmall table.default

-- Each table is sound, and that of a declared function stands at the function's number.
pub record IsSound (model : FunctionModel) : Type 0 where
  pub tables : All IsSoundTable model.tables
  pub numbered : (at f : ℕ) (table : Table) → slice_get model.tables at ≡ Some table → table.name ≡ Declared f → at ≡ f

-- Whatever the arguments are, a declared function has a value of its result sort, an array constant one of its element sort, and a Skolem
-- symbol one of its variable's sort.
pub record GivesSorts (l : Lists) (model : FunctionModel) : Type 0 where
  pub functions : (f : ℕ) (function : Function) → slice_get l.functions f ≡ Some function
      → (args : List Value) → IsOf model.sizes (values_of function.result) (given_by (is_declared f) model args)
  pub skolems : (assertion place : ℕ) (skolem : SkolemSort) → skolem_of l.skolems assertion place ≡ Some skolem
      → (args : List Value) → IsOf model.sizes skolem.result (given_by (is_skolem assertion place) model args)
