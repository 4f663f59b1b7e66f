use Rattle.std.proofs.Common.{arith, sym}
use Rattle.function_model.proofs.SoundTests.{places_missing}
use Rattle.function_model.proofs.soundness.stands_on.Goals as goal

pub returns-then-knots-places : goal.returns-then-knots-places
returns-then-knots-places c = sym (places_missing c.args.knots.now c.args.places.now (λ same. omega (arith, same)))
