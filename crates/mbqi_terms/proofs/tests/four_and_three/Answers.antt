use Rattle.mbqi_terms.proofs.SampleForms.{stored, numeral_suits, numeral_below}
use Rattle.mbqi_terms.specs.declared.term.Term.TheVariants as term
use Rattle.std.proofs.Common.{pos}
use Rattle.mbqi_terms.proofs.tests.four_and_three.Goals as goal

pub shift-requires-clause-stored : goal.shift-requires-clause-stored
shift-requires-clause-stored c = stored c.args.store.now c.args.four (term.Num (pos 4)) c.requires

pub shift-requires-clause-integer : goal.shift-requires-clause-integer
shift-requires-clause-integer c = λ t e. numeral_suits c.args.store.now c.args.four t c.requires e

pub shift-requires-clause-number : goal.shift-requires-clause-number
shift-requires-clause-number c = λ t e. numeral_below c.args.store.now c.args.four t c.requires e
