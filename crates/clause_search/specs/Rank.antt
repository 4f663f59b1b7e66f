use Rattle.std.specs.Prelude.{ℕ, suc, zero, ◌+◌, if◌then◌else◌, List, [], ◌∷◌}
use Rattle.clause_search.specs.Course.{Course, is_chosen}
use Rattle.clause_search.specs.declared.step.Step.{Step}

-- Why the search ends (this project's own): the trail is read as a number of base 3 with a digit an atom, 1 for a
-- choice, 2 for an implied literal and 0 where the trail has ended. Each turn of the search raises it.

abbrev pub power_of_three : ℕ → ℕ
power_of_three zero = 1
power_of_three (suc n) = power_of_three n + power_of_three n + power_of_three n

abbrev pub rank_from : ℕ → List Step → ℕ
rank_from zero steps = 0
rank_from (suc places) [] = 0
rank_from (suc places) (step ∷ steps) =
    (if is_chosen step.reason then power_of_three places else power_of_three places + power_of_three places) + rank_from places steps

abbrev pub rank_of : Course → ℕ
rank_of trail = rank_from trail.atoms trail.steps
