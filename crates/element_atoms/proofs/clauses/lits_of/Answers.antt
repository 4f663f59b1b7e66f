use Rattle.std.proofs.Common.{take, length, refl, sym, subst}
use Rattle.std.proofs.lemmas.Option.{slice_get_read}
use Rattle.element_atoms.specs.Numbering.{IsLitOf}
use Rattle.element_atoms.specs.Profile.{IsLiteral, IsGround}
use Rattle.element_atoms.proofs.Numbers.{next_zip, lits_grow, extends_trans}
use Rattle.element_atoms.proofs.clauses.lits_of.Goals as goal

pub literal_of-requires-clause-literal : goal.literal_of-requires-clause-literal
literal_of-requires-clause-literal c =
    subst (IsLiteral c.args.functions.now (IsGround c.args.functions.now)) (sym c.literal-item.is) (c.requires.literals c.loop-literal.literal-index c.literal-item.result c.loop-literal-test.true)

pub loop-literal-preserved : goal.loop-literal-preserved
loop-literal-preserved c =
    let terms = c.args.pool.now.terms in
    let before = c.loop-literal.table in
    let after = c.literal_of.new.table in
    let literals = c.args.literals.now in
    let i = c.loop-literal.literal-index in
    let here = slice_get_read literals (length literals) i c.literal-item.result refl c.loop-literal-test.true c.literal-item.is in
    let so_far = lits_grow terms before after c.literal_of.ensures.kept c.loop-literal.lits (take i literals) c.loop-literal.invariant.lits in
    record {
      lits = rw (c.in_ok-push.ensures.ok)
          (next_zip (IsLitOf terms after) c.loop-literal.lits literals i c.in_ok-lit.lit c.literal-item.result here so_far c.in_ok-lit.ensures.lit);
      over = c.literal_of.ensures.over;
      kept = extends_trans c.args.table.now before after c.loop-literal.invariant.kept c.literal_of.ensures.kept;
    }
