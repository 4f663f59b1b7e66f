-- No name begins with as many question marks as the longest has bytes.
use Rattle.std.proofs.Common.{◌≡◌, ◌<◌, ◌≤◌, inl, inr, ℕ, zero, suc, ◌+◌, ◌-◌, max, Bool, true, false, ◌||◌, List, [], ◌∷◌, length, get_or, refl, ap, subst, ◌∙◌, arith, eq-or-lt_of_le, if◌then◌else◌}
use Rattle.std.specs.List.{fold, list_any}
use Rattle.mbqi_terms.specs.declared.script.Function.{Function}
use Rattle.mbqi_terms.specs.declared.script.Script.{Script}
use Rattle.smtlib_printer.specs.Names.{begins_with, first_free, is_begun, longest, longest_function, marks_of}

past : (name : List ℕ) (count : ℕ) → length name ≤ count → get_or name count 0 ≡ 0
past [] count short = refl
past (b ∷ name) zero short = absurd (omega arith)
past (b ∷ name) (suc count) short = past name count (omega arith)

begins_with-short : (count : ℕ) (name : List ℕ) → length name ≤ count → begins_with count name ≡ false
begins_with-short count name short = rw (past name count short)

fold-from : {A : Type 0} (name_of : A → List ℕ) (n : ℕ) (xs : List A) → n ≤ fold (λ m x. max m (length (name_of x))) n xs
fold-from name_of n [] = omega arith
fold-from name_of n (x ∷ xs) = let later = fold-from name_of (max n (length (name_of x))) xs in omega arith

none_begun : {A : Type 0} (name_of : A → List ℕ) (n count : ℕ) (xs : List A) → fold (λ m x. max m (length (name_of x))) n xs ≤ count → list_any (λ x. begins_with count (name_of x)) xs ≡ false
none_begun name_of n count [] short = refl
none_begun name_of n count (x ∷ xs) short =
    let within = fold-from name_of (max n (length (name_of x))) xs in
    ap (λ b. b || list_any (λ y. begins_with count (name_of y)) xs) (begins_with-short count (name_of x) (omega arith))
    ∙ none_begun name_of (max n (length (name_of x))) count xs short

not_begun : (script : Script) (count : ℕ) → max (longest script.sorts) (longest_function script.functions) ≤ count → is_begun script count ≡ false
unfolding is_begun
not_begun script count short =
    ap (λ b. b || list_any (λ (f : Function). begins_with count f.name) script.functions) (none_begun (λ (name : List ℕ). name) 0 count script.sorts (omega arith))
    ∙ none_begun (λ (f : Function). f.name) 0 count script.functions (omega arith)

-- the first free number is free, where all from the end on are
free_step : (is_taken : ℕ → Bool) (left at : ℕ) (taken : Bool) → is_taken at ≡ taken → is_taken (first_free is_taken left (at + 1)) ≡ false → is_taken (if taken then first_free is_taken left (at + 1) else at) ≡ false
free_step is_taken left at true e later = later
free_step is_taken left at false e later = e

first_free-free : (is_taken : ℕ → Bool) (left at : ℕ) → ((k : ℕ) → at + left ≤ k → is_taken k ≡ false) → is_taken (first_free is_taken left at) ≡ false
first_free-free is_taken zero at free = free at (omega arith)
first_free-free is_taken (suc left) at free =
    free_step is_taken left at (is_taken at) refl (first_free-free is_taken left (at + 1) (λ k above. free k (omega arith)))

-- and each before it is taken
from_here : (is_taken : ℕ → Bool) (at k : ℕ) → at ≤ k → is_taken at ≡ true → (at + 1 ≤ k → is_taken k ≡ true) → is_taken k ≡ true
from_here is_taken at k from e later =
    elim (eq-or-lt_of_le from) [ inl same ↦ subst (λ (j : ℕ). is_taken j ≡ true) same e | inr above ↦ later (omega arith) ]

taken_step : (is_taken : ℕ → Bool) (left at k : ℕ) (taken : Bool) → is_taken at ≡ taken → at ≤ k → k < (if taken then first_free is_taken left (at + 1) else at) → (at + 1 ≤ k → k < first_free is_taken left (at + 1) → is_taken k ≡ true) → is_taken k ≡ true
taken_step is_taken left at k true e from below later = from_here is_taken at k from e (λ above. later above below)
taken_step is_taken left at k false e from below later = absurd (omega arith)

first_free-taken : (is_taken : ℕ → Bool) (left at k : ℕ) → at ≤ k → k < first_free is_taken left at → is_taken k ≡ true
first_free-taken is_taken zero at k from below = absurd (omega arith)
first_free-taken is_taken (suc left) at k from below =
    taken_step is_taken left at k (is_taken at) refl from below (λ above under. first_free-taken is_taken left (at + 1) k above under)

from_step : (is_taken : ℕ → Bool) (left at : ℕ) (taken : Bool) → at + 1 ≤ first_free is_taken left (at + 1) → at ≤ (if taken then first_free is_taken left (at + 1) else at)
from_step is_taken left at true later = omega arith
from_step is_taken left at false later = omega arith

first_free-from : (is_taken : ℕ → Bool) (left at : ℕ) → at ≤ first_free is_taken left at
first_free-from is_taken zero at = omega arith
first_free-from is_taken (suc left) at = from_step is_taken left at (is_taken at) (first_free-from is_taken left (at + 1))

-- of the question marks of a script
pub some_marks : (script : Script) → 0 < marks_of script
unfolding marks_of
some_marks script =
    let from = first_free-from (is_begun script) (max (longest script.sorts) (longest_function script.functions) - 1) 1 in
    omega (arith, from)

pub marks_free : (script : Script) → is_begun script (marks_of script) ≡ false
unfolding marks_of
marks_free script =
    first_free-free (is_begun script) (max (longest script.sorts) (longest_function script.functions) - 1) 1
    (λ k above. not_begun script k (omega arith))

pub marks_fewest : (script : Script) (k : ℕ) → 0 < k → k < marks_of script → is_begun script k ≡ true
unfolding marks_of
marks_fewest script k from below =
    first_free-taken (is_begun script) (max (longest script.sorts) (longest_function script.functions) - 1) 1 k (omega arith) below
