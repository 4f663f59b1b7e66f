use Rattle.std.proofs.Common.{All, sym, subst}
use Rattle.element_atoms.specs.Profile.{IsLiteral, IsGround}
use Rattle.element_atoms.proofs.Truths.{any_literals}
use Rattle.element_atoms.proofs.clauses.clause_of.Goals as goal

pub lits_of-requires-clause-literals : goal.lits_of-requires-clause-literals
lits_of-requires-clause-literals c =
    let literals = any_literals c.args.functions.now (IsGround c.args.functions.now) c.args.formula.now c.in-Any.literals c.requires.clause c.in-Any.is in
    subst (All (IsLiteral c.args.functions.now (IsGround c.args.functions.now))) (sym c.as_slice.ensures) literals
