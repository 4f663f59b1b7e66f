-- Points that binders and values make, and what terms are worth there.
use Rattle.std.specs.Prelude.{◌==◌, false, List, [], ◌∷◌, if◌then◌else◌}
use Rattle.mbqi_values.specs.Value.{is_true}
use Rattle.mbqi_values.specs.declared.value.Value.{Value}
use Rattle.mbqi_values.specs.declared.value.Value.TheVariants.{Truth}
use Rattle.mbqi_terms.specs.declared.sort.Binder.{Binder}
use Rattle.mbqi_terms.specs.Meanings.{Meanings}
use Rattle.function_model.specs.ValueOf.{Point, sameness_in, value_of}
use Rattle.function_model.specs.declared.model.FunctionModel.{FunctionModel}

-- The point at which the variable of each binder's place has the value of that binder, in the order of the lists. A place without a binder
-- or without a value has false.
abbrev pub point_of : List Binder → List Value → Point
point_of [] vs place = Truth false
point_of (b ∷ bs) [] place = Truth false
point_of (b ∷ bs) (v ∷ vs) place = if b.place == place then v else point_of bs vs place

-- The values of terms in a model at a point, and the truths of the equalities of its arrays.
abbrev pub values_at : FunctionModel → Point → Meanings
values_at model p = record { value = λ t. value_of model t p; same = λ a b. is_true (sameness_in model a b) }
