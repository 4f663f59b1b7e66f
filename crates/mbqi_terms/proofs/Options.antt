-- An option that is no value.
use Rattle.std.proofs.Common.{◌≡◌, Option, Some, None, refl}

pub none_of : {X : Type 0} (o : Option X) → ((x : X) → o ≡ Some x → ⊥) → o ≡ None
none_of None never = refl
none_of (Some x) never = absurd (never x refl)
