-- What is left of the parts decides.
use Rattle.std.proofs.Common.{◌≡◌, drop}
use Rattle.std.specs.List.{list_all, list_any}
use Rattle.mbqi_terms.specs.Meanings.{truth_of}
use Rattle.function_model.specs.Points.{point_of, values_at}
use Rattle.function_model.proofs.ground.+truth.Given as goal

abbrev pub invariant-are_true_at-loop-part : goal.invariant-are_true_at-loop-part
invariant-are_true_at-loop-part l =
    list_all (truth_of (values_at l.model (point_of l.binders l.point))) (drop l.part-index l.parts)
    ≡ list_all (truth_of (values_at l.model (point_of l.binders l.point))) l.parts

abbrev pub invariant-is_one_true_at-loop-part : goal.invariant-is_one_true_at-loop-part
invariant-is_one_true_at-loop-part l =
    list_any (truth_of (values_at l.model (point_of l.binders l.point))) (drop l.part-index l.parts)
    ≡ list_any (truth_of (values_at l.model (point_of l.binders l.point))) l.parts
