use Rattle.std.proofs.Common.{All, inr, refl}
use Rattle.std.proofs.lemmas.List.Elements.{All-nil, All-push}
use Rattle.element_atoms.specs.Profile.{IsGround, IsLiteral}
use Rattle.element_atoms.proofs.tests.disjunction.Goals as goal

pub returns : goal.returns
returns c =
    let P = IsLiteral c.args.functions.now (IsGround c.args.functions.now) in
    let none : All P c.new-literals.result = rw (c.new-literals.ensures) (All-nil P) in
    let one : All P c.push.new.self = rw (c.in_ok-push.ensures.ok) (All-push P c.new-literals.result c.in_ok-literal.field-0 none c.in_ok-literal.ensures) in
    let both : All P c.push-2.new.self = rw (c.in_ok-push-2.ensures.ok) (All-push P c.push.new.self c.in_ok-literal-2.field-0 one c.in_ok-literal-2.ensures) in
    inr (c.push-2.new.self, refl, both)
