-- Places of which one has no more rank by their numbers.
use Rattle.std.proofs.Common.{◌≡◌, ℕ, ◌-◌, ◌<◌, List, [], ◌∷◌, length, min, drop, length-drop, arith}
use Rattle.std.specs.declared.cmp.Ordering.TheVariants.{Less, Equal, Greater}
use Rattle.std.specs.Ordering.{nat_cmp}
use Rattle.std.proofs.lemmas.Bool.Decides.{nat_tests}
use Rattle.mbqi_values.specs.declared.value.Value.{Value}
use Rattle.function_model.specs.Fits.{rank_of_places}

as_many : (a b : ℕ) → a ≡ b → nat_cmp a b ≡ Equal
as_many a b e = grind (arith, nat_tests)

fewer : (a b : ℕ) → a < b → nat_cmp a b ≡ Less
fewer a b l = grind (arith, nat_tests)

more : (a b : ℕ) → b < a → nat_cmp a b ≡ Greater
more a b l = grind (arith, nat_tests)

ended : (a b : ℕ) (xs ys : List Value) → length xs ≡ a - min a b → length ys ≡ b - min a b → nat_cmp a b ≡ rank_of_places xs ys
ended a b [] [] p q = as_many a b (omega (arith, p, q))
ended a b [] (y ∷ ys) p q = fewer a b (omega (arith, p, q))
ended a b (x ∷ xs) [] p q = more a b (omega (arith, p, q))
ended a b (x ∷ xs) (y ∷ ys) p q = absurd (omega (arith, p, q))

pub ranked_at_end : (n : ℕ) (vs ws : List Value) → n ≡ min (length vs) (length ws) → nat_cmp (length vs) (length ws) ≡ rank_of_places (drop n vs) (drop n ws)
ranked_at_end n vs ws e =
    ended (length vs) (length ws) (drop n vs) (drop n ws) (omega (arith, length-drop n vs, e)) (omega (arith, length-drop n ws, e))
