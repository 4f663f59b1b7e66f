use Rattle.std.proofs.Common.{◌≡◌, arith, subst, sym}
use Rattle.std.proofs.lemmas.Int.{ints}
use mir.Val.{to_z, of_z}
use mir.Syntax.{w128}
use Rattle.mbqi_terms.specs.declared.term.Term.TheVariants as term
use Rattle.function_model.specs.Evaluable.{IsEvaluable}
use Rattle.function_model.proofs.EvaluableForms.{sum_is}
use Rattle.function_model.proofs.eval_tests.sum.Goals as goal

pub returns : goal.returns
returns c =
    let n = c.args.number in
    let back : to_z w128 (of_z w128 n) ≡ n = omega (arith, ints) in
    let same : term.Plus c.in_ok-new.field-0 (to_z w128 (of_z w128 n)) ≡ term.Plus c.args.base n = λ i. term.Plus (c.in_ok-new.ensures i) (back i) in
    subst IsEvaluable (sym same) (sum_is c.args.base n c.requires.base c.requires.number c.requires.term)
