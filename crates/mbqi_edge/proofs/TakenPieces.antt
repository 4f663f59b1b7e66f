use Rattle.std.proofs.Common.{ℕ, ◌≡◌, ◌+◌, List, take, drop, Option, Some, None, refl, arith}
use Rattle.std.proofs.lemmas.Grind.{common_steps}
use Rattle.std.proofs.Math.Seq.{take-add}
use Rattle.mbqi_edge.specs.Told.{with_more}

-- Two pieces taken one after the other are one piece.
pub with_more-take : (told : Option (List ℕ)) (piece : List ℕ) (i n : ℕ) → with_more (with_more told (take i piece)) (take n (drop i piece)) ≡ with_more told (take (i + n) piece)
with_more-take None piece i n = refl
with_more-take (Some told) piece i n = grind (arith, common_steps, take-add)
