-- The rest of a list, by the number of its first element in the whole.
use Rattle.std.proofs.Common.{◌≡◌, ℕ, suc, ◌+◌, List, ◌∷◌, refl, subst, arith}
use Rattle.std.specs.Prelude.{Some, slice_get}

-- the rest of a list, whose first element has number k in the whole
abbrev pub AtFrom : {X : Type 0} → List X → ℕ → List X → Type 0
AtFrom {X} whole k rest = (i : ℕ) (x : X) → slice_get rest i ≡ Some x → slice_get whole (k + i) ≡ Some x

pub from_next : {X : Type 0} (whole : List X) (k : ℕ) (x : X) (rest : List X) → AtFrom whole k (x ∷ rest) → AtFrom whole (k + 1) rest
from_next whole k x rest at i y e = let n : k + suc i ≡ k + 1 + i = omega arith in subst (λ j. slice_get whole j ≡ Some y) n (at (suc i) y e)

pub from_here : {X : Type 0} (whole : List X) (k : ℕ) (x : X) (rest : List X) → AtFrom whole k (x ∷ rest) → slice_get whole k ≡ Some x
from_here whole k x rest at = let n : k + 0 ≡ k = omega arith in subst (λ j. slice_get whole j ≡ Some x) n (at 0 x refl)

pub from_first : {X : Type 0} (whole : List X) → AtFrom whole 0 whole
from_first whole i x e = let n : i ≡ 0 + i = omega arith in subst (λ j. slice_get whole j ≡ Some x) n e
