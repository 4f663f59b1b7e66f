use Rattle.std.proofs.Common.{ℕ, zero, suc, ◌≡◌, ◌+◌, ◌<◌, ◌≤◌, true, false, cond, List, [], ◌∷◌, ◌++◌, length, arith}
use Rattle.clause_search.specs.Course.{is_chosen}
use Rattle.clause_search.specs.Rank.{power_of_three, rank_from}
use Rattle.clause_search.specs.declared.step.Step.{Step}

-- The rank of a trail.

pub power-positive : (places : ℕ) → 0 < power_of_three places
power-positive zero = omega arith
power-positive (suc places) = let more = power-positive places in omega arith

pub rank-below : (places : ℕ) (steps : List Step) → rank_from places steps < power_of_three places
rank-below zero steps = omega arith
rank-below (suc places) [] = let more = power-positive places in omega arith
rank-below (suc places) (step ∷ steps) =
    let rest = rank-below places steps in
    elim (is_chosen step.reason) as (λ b. cond b (power_of_three places) (power_of_three places + power_of_three places) + rank_from places
    steps < power_of_three places + power_of_three places + power_of_three places) [ true ↦ omega arith | false ↦ omega arith ]

-- More steps have no lower rank, and a higher one where there is room.
pub rank-append : (places : ℕ) (steps more : List Step) → rank_from places steps ≤ rank_from places (steps ++ more)
rank-append zero steps more = omega arith
rank-append (suc places) [] more = omega arith
rank-append (suc places) (step ∷ steps) more = let rest = rank-append places steps more in omega arith

rank-some : (places : ℕ) (step : Step) (steps : List Step) → 0 < rank_from (suc places) (step ∷ steps)
rank-some places step steps =
    let positive = power-positive places in
    elim (is_chosen step.reason) as (λ b. 0 < cond b (power_of_three places) (power_of_three places + power_of_three places) + rank_from
    places steps) [ true ↦ omega arith | false ↦ omega arith ]

pub rank-more : (places : ℕ) (steps more : List Step) → length steps < places → 0 < length more
    → rank_from places steps < rank_from places (steps ++ more)
rank-more zero steps more room some = absurd (omega arith)
rank-more (suc places) [] [] room some = absurd (omega arith)
rank-more (suc places) [] (step ∷ more) room some = rank-some places step more
rank-more (suc places) (step ∷ steps) more room some = let rest = rank-more places steps more (omega arith) some in omega arith

-- A choice that is turned has a higher rank, whatever stood behind it.
pub rank-turned : (places : ℕ) (steps : List Step) (chosen turned : Step) (rest : List Step) → length steps < places
    → is_chosen chosen.reason ≡ true → is_chosen turned.reason ≡ false
    → rank_from places (steps ++ chosen ∷ rest) < rank_from places (steps ++ turned ∷ [])
rank-turned zero steps chosen turned rest room is isnt = absurd (omega arith)
rank-turned (suc places) [] chosen turned rest room is isnt =
    let below = rank-below places rest in
    rw (is, isnt) (omega arith)
rank-turned (suc places) (step ∷ steps) chosen turned rest room is isnt =
    let more = rank-turned places steps chosen turned rest (omega arith) is isnt in omega arith
