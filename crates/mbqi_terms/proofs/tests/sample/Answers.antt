use Rattle.std.proofs.Common.{pos, negsuc}
use Rattle.mbqi_terms.proofs.SampleForms.{call_form, difference_form, read_form, default_form, variable_sum_form, skolem_sum_form, read_sum_form, in_result}
use Rattle.mbqi_terms.proofs.tests.sample.Goals as goal

pub returns-in-3 : goal.returns-in-3
returns-in-3 c = in_result c.call.result _ (call_form (negsuc 3)) c.call.ensures

pub returns-in-7 : goal.returns-in-7
returns-in-7 c = in_result c.difference.result _ difference_form c.difference.ensures

pub returns-in-8 : goal.returns-in-8
returns-in-8 c = in_result c.read.result _ (read_form (pos 7)) c.read.ensures

pub returns-in-9 : goal.returns-in-9
returns-in-9 c = in_result c.default_of.result _ default_form c.default_of.ensures

pub returns-in-10 : goal.returns-in-10
returns-in-10 c = in_result c.sum.result _ (variable_sum_form 3) c.sum.ensures

pub returns-in-11 : goal.returns-in-11
returns-in-11 c = in_result c.below_skolem.result _ skolem_sum_form c.below_skolem.ensures

pub returns-in_default : goal.returns-in_default
returns-in_default c = in_result c.read_below_skolem.result _ read_sum_form c.read_below_skolem.ensures
