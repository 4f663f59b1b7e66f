use Rattle.std.proofs.Common.{sym, ◌∙◌}
use Rattle.mbqi_terms.specs.Meanings.{truth_of}
use Rattle.function_model.specs.Points.{point_of, values_at}
use Rattle.function_model.proofs.MatrixTruths.{matrix_holds}
use Rattle.function_model.proofs.model.FunctionModel.eval_ground.Goals as goal

pub returns-clause-holds : goal.returns-clause-holds
returns-clause-holds c g sorts matrix functions =
    let m = c.args.self.now in
    let f = c.args.f.now in
    matrix_holds functions m (point_of c.args.binders.now c.args.point.now) g c.args.binders.now sorts f matrix c.requires.formula
    c.truth_at.result (sym (c.truth_at.ensures ∙ (λ i. truth_of (values_at m (point_of (c.as_slice.ensures i) (c.as_slice-2.ensures i))) f)))
