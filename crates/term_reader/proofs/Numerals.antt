-- A numeral, digit by digit.
use Rattle.std.proofs.Common.{ℕ, ◌+◌, ◌*◌, ◌≤◌, List, [], ◌∷◌, arith}
use Rattle.std.specs.Char.{digit_value}
use Rattle.std.specs.Str.Parse.{digits_value_after}

-- further digits don't make a number less
pub at_least_value : (n : ℕ) (digits : List ℕ) → n ≤ digits_value_after 10 n digits
at_least_value n [] = omega arith
at_least_value n (d ∷ ds) = let more = at_least_value (n * 10 + digit_value d) ds in omega arith
