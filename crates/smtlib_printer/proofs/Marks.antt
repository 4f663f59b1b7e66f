-- The first number that isn't taken, as a loop comes to it.
use Rattle.std.proofs.Common.{◌≡◌, ◌<◌, ◌≤◌, ℕ, zero, suc, ◌+◌, ◌-◌, Bool, true, false, refl, ap, ◌∙◌, arith}
use Rattle.smtlib_printer.specs.Names.{first_free}

pub first_free_here : (is_taken : ℕ → Bool) (left at : ℕ) → is_taken at ≡ false → first_free is_taken left at ≡ at
first_free_here is_taken zero at e = refl
first_free_here is_taken (suc left) at e = rw e

pub first_free_next : (is_taken : ℕ → Bool) (end at : ℕ) → at < end → is_taken at ≡ true → first_free is_taken (end - at) at ≡ first_free is_taken (end - (at + 1)) (at + 1)
first_free_next is_taken end at below e =
    let one_more : end - at ≡ suc (end - (at + 1)) = omega arith in
    ap (λ (left : ℕ). first_free is_taken left at) one_more ∙ rw e

pub first_free_last : (is_taken : ℕ → Bool) (end at : ℕ) → end ≤ at → first_free is_taken (end - at) at ≡ at
first_free_last is_taken end at above =
    let none_left : end - at ≡ 0 = omega arith in
    ap (λ (left : ℕ). first_free is_taken left at) none_left
