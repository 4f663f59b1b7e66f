use Rattle.function_model.proofs.EvaluableForms.{formula_is, offset_small, term_is}
use Rattle.function_model.proofs.evaluable.form_is_evaluable.Goals as goal

pub returns-clause-terms : goal.returns-clause-terms
returns-clause-terms c g scope t s small has reads = term_is g scope small t s has reads

pub returns-clause-formulas : goal.returns-clause-formulas
returns-clause-formulas c g scope f small matrix reads = formula_is g scope small f matrix reads

pub returns-clause-scripts : goal.returns-clause-scripts
returns-clause-scripts c script = offset_small

pub returns-clause-rules : goal.returns-clause-rules
returns-clause-rules c script = offset_small
