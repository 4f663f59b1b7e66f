use Rattle.std.proofs.Common.{length, refl}
use Rattle.std.proofs.lemmas.Option.{slice_get_read}
use Rattle.element_atoms.specs.Numbering.{IsNumberOf}
use Rattle.element_atoms.proofs.Numbers.{next_zip}
use Rattle.element_atoms.proofs.clauses.numbers_of.Goals as goal

pub loop-term-preserved : goal.loop-term-preserved
loop-term-preserved c =
    let terms = c.args.terms.now in
    let i = c.loop-term.term-index in
    let here = slice_get_read terms (length terms) i c.term-item.result refl c.loop-term-test.true c.term-item.is in
    rw (c.in_ok-push.ensures.ok)
    (next_zip (IsNumberOf c.args.pool.now.terms) c.loop-term.ids terms i c.number_of.result c.term-item.result here c.loop-term.invariant c.number_of.ensures.place)
