use Rattle.std.proofs.Common.{ℕ, ◌≤◌, List, [], ◌∷◌, ◌++◌, arith}
use Rattle.theory_trait.specs.Frames.{RiseFrom}

-- Frames that rise to the length of the content.

pub RiseFrom-higher : (low : ℕ) (frames : List ℕ) (high more : ℕ) → RiseFrom low frames high → high ≤ more → RiseFrom low frames more
RiseFrom-higher low [] high more rise above = omega arith
RiseFrom-higher low (frame ∷ frames) high more rise above = (rise.0, RiseFrom-higher frame frames high more rise.1 above)

-- One more is opened at the end.
pub RiseFrom-push : (low : ℕ) (frames : List ℕ) (high : ℕ) → RiseFrom low frames high → RiseFrom low (frames ++ high ∷ []) high
RiseFrom-push low [] high rise = (rise, omega arith)
RiseFrom-push low (frame ∷ frames) high rise = (rise.0, RiseFrom-push frame frames high rise.1)

-- The last one goes.
pub RiseFrom-pop : (low : ℕ) (frames : List ℕ) (last high : ℕ) → RiseFrom low (frames ++ last ∷ []) high → RiseFrom low frames last × (last ≤ high)
RiseFrom-pop low [] last high rise = rise
RiseFrom-pop low (frame ∷ frames) last high rise =
    let rest = RiseFrom-pop frame frames last high rise.1 in
    ((rise.0, rest.0), rest.1)
