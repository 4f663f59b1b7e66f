-- Every element as a knot.
use Rattle.std.proofs.Common.{◌≡◌, ℕ, zero, suc, ◌+◌, ◌-◌, ◌<◌, ◌≤◌, true, false, true≢false, ◌||◌, List, [], ◌∷◌, length, map, get_or, refl, sym, ap, subst, ◌∙◌, arith, rules}
use Rattle.std.specs.Prelude.{Contains, if◌then◌else◌}
use Rattle.std.specs.Ordering.{is_eq, nat_cmp}
use Rattle.std.specs.List.{AllByRecursion, list_any}
use Rattle.std.proofs.lemmas.Bool.{and_from, and_parts}
use Rattle.std.proofs.lemmas.Bool.Decides.{nat_tests}
use Rattle.mbqi_values.specs.declared.value.Value.{Value}
use Rattle.mbqi_values.specs.declared.value.Value.TheVariants as value
use Rattle.mbqi_terms.specs.declared.sort.Sort.{Sort}
use Rattle.mbqi_terms.specs.declared.term_id.TermId.{TermId}
use Rattle.function_model.specs.Fits.{RiseFrom, AreKnots, HaveKnots, StandOn}
use Rattle.function_model.specs.Lookup.{projected, is_at}
use Rattle.element_atoms.specs.Profile.{the_sort}
use Rattle.element_models.specs.Elements.{elements_from, knots_of}
use Rattle.element_models.specs.Rows.{element_of}
use Rattle.mbqi_values.specs.Value.{is_same}

-- the next element
pub elements_next : (e size : ℕ) → e < size → elements_from e (size - e) ≡ value.Elem e ∷ elements_from (e + 1) (size - (e + 1))
elements_next e size h = let k : size - e ≡ suc (size - (e + 1)) = omega arith in ap (elements_from e) k

-- elements rise
rise : (size e n : ℕ) → e + 1 + n ≤ size → RiseFrom (size ∷ []) the_sort (value.Elem e) (elements_from (e + 1) n)
rise size e zero h = tt
rise size e (suc n) h = ((omega arith, tt), search rules, rise size (e + 1) n (omega arith))

knots : (size : ℕ) → 0 < size → AreKnots (size ∷ []) the_sort (elements_from 0 size)
knots zero h = absurd (omega arith)
knots (suc n) h = ((h, tt), rise (suc n) 0 n (omega arith))

-- of each argument
pub have_knots : (size : ℕ) → 0 < size → (args : List Sort) → AllByRecursion (λ arg. arg ≡ the_sort) args → HaveKnots (size ∷ []) args (knots_of size args)
have_knots size h [] each = tt
have_knots size h (arg ∷ args) each = (
  let P : Sort → Type 0 = λ s. AreKnots (size ∷ []) s (elements_from 0 size) in subst P (sym each.0) (knots size h),
  have_knots size h args each.1,
)

-- an element is itself, and no other
same_number : (n e : ℕ) → n ≡ e → is_eq (nat_cmp n e) ≡ true
same_number n e is = grind (arith, nat_tests)

number_same : (n e : ℕ) → is_eq (nat_cmp n e) ≡ true → n ≡ e
number_same n e is = grind (arith, nat_tests)

has_element : (e m n : ℕ) → e ≤ n → n < e + m → list_any (is_same (value.Elem n)) (elements_from e m) ≡ true
has_element e zero n h k = absurd (omega arith)
has_element e (suc m) n h k =
    elim (is_eq (nat_cmp n e)) as (λ b. is_eq (nat_cmp n e) ≡ b → (b || list_any (is_same (value.Elem n)) (elements_from (e + 1) m)) ≡ true) [
      | true ↦ λ is. refl
      | false ↦ λ is.
          has_element (e + 1) m n (let other : n ≡ e → ⊥ = λ s. true≢false (sym (same_number n e s) ∙ is) in omega arith) (omega arith)
    ] refl

-- an element of the universe is its own knot
itself : (size n : ℕ) → n < size → projected (elements_from 0 size) (value.Elem n) ≡ value.Elem n
itself zero n h = absurd (omega arith)
itself (suc m) n h = ap (λ b. if b then value.Elem n else value.Elem 0) (has_element 0 (suc m) n (omega arith) (omega arith))

length_elements : (e m : ℕ) → length (elements_from e m) ≡ m
length_elements e zero = refl
length_elements e (suc m) = ap suc (length_elements (e + 1) m)

element_at : (e m k : ℕ) (d : Value) → k < m → get_or (elements_from e m) k d ≡ value.Elem (e + k)
element_at e zero k d h = absurd (omega arith)
element_at e (suc m) zero d h = let n : e ≡ e + 0 = omega arith in ap value.Elem n
element_at e (suc m) (suc k) d h = let n : e + 1 + k ≡ e + suc k = omega arith in element_at (e + 1) m k d (omega arith) ∙ ap value.Elem n

contains_element : (size n : ℕ) → n < size → Contains (elements_from 0 size) (value.Elem n)
contains_element size n h =
    let at : 0 + n ≡ n = omega arith in
    (n, omega (arith, length_elements 0 size), element_at 0 size n (value.Elem n) h ∙ ap value.Elem at)

-- elements of the universe stand on the knots
pub stand : (size : ℕ) (args : List Sort) (ids : List TermId) → length ids ≡ length args → AllByRecursion (λ id. id.0 < size) ids
    → StandOn (knots_of size args) (map element_of ids)
stand size [] [] many below = tt
stand size [] (id ∷ ids) many below = absurd (omega (arith, many))
stand size (arg ∷ args) [] many below = absurd (omega (arith, many))
stand size (arg ∷ args) (id ∷ ids) many below =
    (contains_element size id.0 below.0, stand size args ids (omega (arith, many)) below.1)

-- and are at their own places, and no others
pub at_itself : (size : ℕ) (args : List Sort) (ids : List TermId) → length ids ≡ length args → AllByRecursion (λ id. id.0 < size) ids
    → is_at (map element_of ids) (knots_of size args) (map element_of ids) ≡ true
at_itself size [] [] many below = refl
at_itself size [] (id ∷ ids) many below = absurd (omega (arith, many))
at_itself size (arg ∷ args) [] many below = absurd (omega (arith, many))
at_itself size (arg ∷ args) (id ∷ ids) many below =
    and_from (is_same (value.Elem id.0) (projected (elements_from 0 size) (value.Elem id.0))) (is_at (map element_of ids) (knots_of size args) (map element_of ids))
    (ap (is_same (value.Elem id.0)) (itself size id.0 below.0) ∙ same_number id.0 id.0 refl)
    (at_itself size args ids (omega (arith, many)) below.1)

same_element : (v : Value) (n : ℕ) → is_same v (value.Elem n) ≡ true → v ≡ value.Elem n
same_element (value.Num m) n e = absurd (true≢false (sym e))
same_element (value.Elem m) n e = ap value.Elem (number_same m n e)
same_element (value.Truth t) n e = absurd (true≢false (sym e))

pub at_only : (size : ℕ) (args : List Sort) (ids : List TermId) (places : List Value) → AllByRecursion (λ id. id.0 < size) ids
    → is_at places (knots_of size args) (map element_of ids) ≡ true → places ≡ map element_of ids
at_only size [] [] [] below e = refl
at_only size [] [] (p ∷ places) below e = absurd (true≢false (sym e))
at_only size [] (id ∷ ids) [] below e = absurd (true≢false (sym e))
at_only size [] (id ∷ ids) (p ∷ places) below e = absurd (true≢false (sym e))
at_only size (arg ∷ args) [] [] below e = absurd (true≢false (sym e))
at_only size (arg ∷ args) [] (p ∷ places) below e = absurd (true≢false (sym e))
at_only size (arg ∷ args) (id ∷ ids) [] below e = absurd (true≢false (sym e))
at_only size (arg ∷ args) (id ∷ ids) (p ∷ places) below e =
    let parts = and_parts (is_same p (projected (elements_from 0 size) (value.Elem id.0))) (is_at places (knots_of size args) (map element_of ids)) e in
    let first = same_element p id.0 (ap (is_same p) (sym (itself size id.0 below.0)) ∙ parts.0) in
    let later = at_only size args ids places below.1 parts.1 in
    λ i. first i ∷ later i
