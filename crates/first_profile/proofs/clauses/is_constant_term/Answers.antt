use Rattle.std.proofs.Common.{sym, ◌∙◌}
use Rattle.first_profile.proofs.Deciding.{no_constant}
use Rattle.first_profile.proofs.clauses.is_constant_term.Goals as goal

-- a constant has no arguments
pub returns-else-is_empty : goal.returns-else-is_empty
returns-else-is_empty c = (
  λ h. let none : ⊥ = cc in absurd none,
  λ constant.
      absurd (no_constant c.args.functions.now c.args.t.now c.in-Some.number c.in-Some.args.now c.in-Some.ensures (sym c.is_empty.ensures ∙ c.if-is_empty.false) constant),
)
