use Rattle.std.proofs.Common.{refl}
use Rattle.ground_form.specs.Digests.{mixed}
use Rattle.ground_form.proofs.digest.mixed.Goals as goal

pub returns : goal.returns
unfolding mixed
returns c = refl
