use Rattle.std.proofs.Common.{◌≡◌, subst, sym}
use Rattle.mbqi_terms.specs.declared.term.ArrayTerm.TheVariants as array
use Rattle.mbqi_terms.specs.declared.term.Term.TheVariants as term
use Rattle.function_model.specs.Evaluable.{IsEvaluable}
use Rattle.function_model.proofs.EvaluableForms.{name_is, read_is}
use Rattle.function_model.proofs.eval_tests.read.Goals as goal

pub returns : goal.returns
returns c =
    let name = array.Name c.args.array in
    let same : term.Read c.in_ok-array.array c.in_ok-new.field-0 ≡ term.Read name c.args.index = λ i. term.Read (c.in_ok-array.ensures i) (c.in_ok-new.ensures i) in
    subst IsEvaluable (sym same) (read_is name c.args.index (name_is c.args.array) c.requires)
