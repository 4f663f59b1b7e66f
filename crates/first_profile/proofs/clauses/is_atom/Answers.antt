use Rattle.element_atoms.specs.Profile.{IsArgument}
use Rattle.first_profile.proofs.Deciding.{atom_parts}
use Rattle.first_profile.proofs.clauses.is_atom.Goals as goal

pub returns-then-names_predicate : goal.returns-then-names_predicate
returns-then-names_predicate c =
    let argument = IsArgument c.args.functions.now c.args.variables in
    let parts = atom_parts c.args.functions.now argument c.args.t.now c.in-Some.number c.in-Some.args.now c.in-Some.ensures in (
      λ h. parts.1 (c.names_predicate.ensures.0 c.if-names_predicate.true, c.are_arguments.ensures.0 h),
      λ atom. c.are_arguments.ensures.1 (parts.0 atom).1,
    )

pub returns-else-names_predicate : goal.returns-else-names_predicate
returns-else-names_predicate c =
    let argument = IsArgument c.args.functions.now c.args.variables in
    let parts = atom_parts c.args.functions.now argument c.args.t.now c.in-Some.number c.in-Some.args.now c.in-Some.ensures in (
      λ h. let none : ⊥ = cc in absurd none,
      λ atom. c.names_predicate.ensures.1 (parts.0 atom).0,
    )
