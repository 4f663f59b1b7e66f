-- Tuples that pass a test.
use Rattle.std.proofs.Common.{◌≡◌, ℕ, zero, suc, ◌+◌, ◌<◌, Bool, true, false, List, [], ◌∷◌, ◌++◌, length, if◌then◌else◌, refl, sym, ap, subst, ◌∙◌, inl, inr, arith, append_assoc, append-nil, length-append}
use Rattle.std.specs.Prelude.{◌⊎◌, ◌-◌, ◌≤◌, All, Some, slice_get}
use Rattle.std.proofs.lemmas.List.Elements.{All-head, All-tail, All-nil, All-cons, All-append}
use Rattle.std.proofs.lemmas.Option.{slice_get_cases, slice_get_within, same_Some}
use Rattle.mbqi_terms.specs.Distinct.{AreDistinct}
use Rattle.mbqi_terms.proofs.Trees.{get_front, get_seam}
use Rattle.tuple_check.specs.Tuples.{joined_below, tuples_where}

-- what each list has, all of them joined have
all_joined : {X : Type 0} (P : X → Type 0) (f : ℕ → List X) (n : ℕ) → ((i : ℕ) → i < n → All P (f i)) → All P (joined_below f n)
all_joined P f zero each = All-nil P
all_joined P f (suc n) each = All-append P (joined_below f n) (f n) (all_joined P f n (λ i h. each i (omega (arith, h)))) (each n (omega arith))

-- lists of nothing
pub front_nothing : {X : Type 0} (xs ys : List X) → xs ++ ys ≡ [] → xs ≡ []
front_nothing [] ys e = refl
front_nothing (x ∷ xs) ys e = cc

pub rest_nothing : {X : Type 0} (xs ys : List X) → xs ++ ys ≡ [] → ys ≡ []
rest_nothing [] ys e = e
rest_nothing (x ∷ xs) ys e = cc

each_nothing : {X : Type 0} (f : ℕ → List X) (n i : ℕ) → joined_below f n ≡ [] → i < n → f i ≡ []
each_nothing f zero i e h = absurd (omega (arith, h))
each_nothing f (suc n) i e h =
    by (is_last i n h) (each_nothing f n i (front_nothing (joined_below f n) (f n) e))
  where
    is_last : (i n : ℕ) → i < suc n → (i ≡ n) ⊎ (i < n)
    is_last zero zero h = inl refl
    is_last zero (suc n) h = inr (omega arith)
    is_last (suc i) zero h = absurd (omega (arith, h))
    is_last (suc i) (suc n) h = elim (is_last i n (omega (arith, h))) [ inl e ↦ inl (ap suc e) | inr l ↦ inr (omega (arith, l)) ]

    by : (i ≡ n) ⊎ (i < n) → (i < n → f i ≡ []) → f i ≡ []
    by (inl last) before = ap f last ∙ rest_nothing (joined_below f n) (f n) e
    by (inr below) before = before below

-- a tuple has its front, as many more numbers, each below the size, and passes
pub record IsTuple (passes : List ℕ → Bool) (size n : ℕ) (front : List ℕ) (tuple : List ℕ) : Type 0 where
  pub long : length tuple ≡ length front + n
  pub within : All (λ i. i < size) tuple
  pub begins : (k x : ℕ) → slice_get front k ≡ Some x → slice_get tuple k ≡ Some x
  pub passing : passes tuple ≡ true

get_in_front : (xs ys : List ℕ) (k x : ℕ) → slice_get xs k ≡ Some x → slice_get (xs ++ ys) k ≡ Some x
get_in_front xs ys k x e = let within = slice_get_within xs k x e in get_front xs ys k within ∙ e

one_less : (passes : List ℕ → Bool) (size n i : ℕ) (front tuple : List ℕ) → IsTuple passes size n (front ++ i ∷ []) tuple → IsTuple passes size (suc n) front tuple
one_less passes size n i front tuple is = record {
  long = is.long ∙ (let e = length-append front (i ∷ []) in omega (arith, e));
  within = is.within;
  begins = λ k x e. is.begins k x (get_in_front front (i ∷ []) k x e);
  passing = is.passing;
}

all_less : (passes : List ℕ → Bool) (size n i : ℕ) (front : List ℕ) (tuples : List (List ℕ)) → All (IsTuple passes size n (front ++ i ∷ [])) tuples
    → All (IsTuple passes size (suc n) front) tuples
all_less passes size n i front [] all = All-nil (IsTuple passes size (suc n) front)
all_less passes size n i front (tuple ∷ tuples) all =
    All-cons (IsTuple passes size (suc n) front) tuple tuples
    (one_less passes size n i front tuple (All-head (IsTuple passes size n (front ++ i ∷ [])) tuple tuples all))
    (all_less passes size n i front tuples (All-tail (IsTuple passes size n (front ++ i ∷ [])) tuple tuples all))

all_push : (size i : ℕ) (front : List ℕ) → All (λ j. j < size) front → i < size → All (λ j. j < size) (front ++ i ∷ [])
all_push size i front all h = All-append (λ j. j < size) front (i ∷ []) all (All-cons (λ j. j < size) i [] h (All-nil (λ j. j < size)))

pub are_tuples : (passes : List ℕ → Bool) (size n : ℕ) (front : List ℕ) → All (λ i. i < size) front
    → All (IsTuple passes size n front) (tuples_where passes size n front)
are_tuples passes size zero front within = by (passes front) refl
  where
    by : (b : Bool) → passes front ≡ b → All (IsTuple passes size zero front) (if b then front ∷ [] else [])
    by true p =
        All-cons (IsTuple passes size zero front) front []
        (record { long = omega arith; within = within; begins = λ k x e. e; passing = p }) (All-nil (IsTuple passes size zero front))
    by false p = All-nil (IsTuple passes size zero front)
are_tuples passes size (suc n) front within =
    all_joined (IsTuple passes size (suc n) front) (λ i. tuples_where passes size n (front ++ i ∷ [])) size
    (λ i h. all_less passes size n i front (tuples_where passes size n (front ++ i ∷ []))
    (are_tuples passes size n (front ++ i ∷ []) (all_push size i front within h)))

-- no tuple stands twice: those of two next numbers differ in that number
pub distinct_nil : {X : Type 0} (xs : List X) → xs ≡ [] → AreDistinct xs
distinct_nil [] none i j x e f = cc
distinct_nil (y ∷ xs) none i j x e f = cc

pub distinct_one : {X : Type 0} (x : X) → AreDistinct (x ∷ [])
distinct_one x zero zero y e f = refl
distinct_one x zero (suc j) y e f = cc
distinct_one x (suc i) zero y e f = cc
distinct_one x (suc i) (suc j) y e f = cc

beyond : {X : Type 0} (xs ys : List X) (i : ℕ) → length xs ≤ i → slice_get (xs ++ ys) i ≡ slice_get ys (i - length xs)
beyond [] ys i h = let n : i ≡ i - 0 = omega arith in ap (slice_get ys) n
beyond (x ∷ xs) ys zero h = absurd (omega (arith, h))
beyond (x ∷ xs) ys (suc i) h =
    let n : i - length xs ≡ suc i - suc (length xs) = omega arith in
    beyond xs ys i (omega (arith, h)) ∙ ap (slice_get ys) n

pub distinct_append : {X : Type 0} (xs ys : List X) → AreDistinct xs → AreDistinct ys
    → ((i j : ℕ) (x : X) → slice_get xs i ≡ Some x → slice_get ys j ≡ Some x → ⊥) → AreDistinct (xs ++ ys)
distinct_append xs ys dx dy apart i j x e f = by (side i) (side j)
  where
    side : (k : ℕ) → (k < length xs) ⊎ (length xs ≤ k)
    side k = elim (slice_get_cases xs k).1 [ inl here ↦ inl here.1 | inr past ↦ inr past.0 ]

    by : (i < length xs) ⊎ (length xs ≤ i) → (j < length xs) ⊎ (length xs ≤ j) → i ≡ j
    by (inl p) (inl q) = dx i j x (sym (get_front xs ys i p) ∙ e) (sym (get_front xs ys j q) ∙ f)
    by (inl p) (inr q) = absurd (apart i (j - length xs) x (sym (get_front xs ys i p) ∙ e) (sym (beyond xs ys j q) ∙ f))
    by (inr p) (inl q) = absurd (apart j (i - length xs) x (sym (get_front xs ys j q) ∙ f) (sym (beyond xs ys i p) ∙ e))
    by (inr p) (inr q) =
        let same = dy (i - length xs) (j - length xs) x (sym (beyond xs ys i p) ∙ e) (sym (beyond xs ys j q) ∙ f) in
        omega (arith, same, p, q)

pub at_place : {X : Type 0} (P : X → Type 0) (xs : List X) (i : ℕ) (x : X) → All P xs → slice_get xs i ≡ Some x → P x
at_place P [] i x all e = cc
at_place P (y ∷ xs) zero x all e = let same : y ≡ x = cc in subst P same (All-head P y xs all)
at_place P (y ∷ xs) (suc i) x all e = at_place P xs i x (All-tail P y xs all) e

-- lists with a mark of their own are apart
distinct_joined : {X : Type 0} (Marked : ℕ → X → Type 0) (f : ℕ → List X) (n : ℕ) → ((i j : ℕ) (x : X) → Marked i x → Marked j x → i ≡ j)
    → ((i : ℕ) → i < n → AreDistinct (f i)) → ((i : ℕ) → i < n → All (Marked i) (f i)) → AreDistinct (joined_below f n)
distinct_joined {X = X} Marked f zero one each marked = distinct_nil (joined_below f zero) refl
distinct_joined {X = X} Marked f (suc n) one each marked =
    let before = distinct_joined Marked f n one (λ i h. each i (omega (arith, h))) (λ i h. marked i (omega (arith, h))) in
    let below : All (λ x. (i : ℕ) × (i < n) × Marked i x) (joined_below f n) =
    all_joined (λ x. (i : ℕ) × (i < n) × Marked i x) f n (λ i h. with_place i h (f i) (marked i (omega (arith, h)))) in
    distinct_append (joined_below f n) (f n) before (each n (omega arith))
    (λ i j x e g.
    let first = at_place (λ x. (i : ℕ) × (i < n) × Marked i x) (joined_below f n) i x below e in
    let same = one first.0 n x first.2 (at_place (Marked n) (f n) j x (marked n (omega arith)) g) in
    absurd (omega (arith, same, first.1)))
  where
    with_place : (i : ℕ) → i < n → (xs : List X) → All (Marked i) xs → All (λ x. (i : ℕ) × (i < n) × Marked i x) xs
    with_place i h [] all = All-nil (λ x. (i : ℕ) × (i < n) × Marked i x)
    with_place i h (x ∷ xs) all =
        All-cons (λ x. (i : ℕ) × (i < n) × Marked i x) x xs (i, h, All-head (Marked i) x xs all) (with_place i h xs (All-tail (Marked i) x xs all))

marked_tuples : (passes : List ℕ → Bool) (size n i : ℕ) (front : List ℕ) (tuples : List (List ℕ)) → All (IsTuple passes size n (front ++ i ∷ [])) tuples
    → All (λ tuple. slice_get tuple (length front) ≡ Some i) tuples
marked_tuples passes size n i front [] all = All-nil (λ tuple. slice_get tuple (length front) ≡ Some i)
marked_tuples passes size n i front (tuple ∷ tuples) all =
    All-cons (λ tuple. slice_get tuple (length front) ≡ Some i) tuple tuples
    ((All-head (IsTuple passes size n (front ++ i ∷ [])) tuple tuples all).begins (length front) i (get_seam front i []))
    (marked_tuples passes size n i front tuples (All-tail (IsTuple passes size n (front ++ i ∷ [])) tuple tuples all))

pub tuples_distinct : (passes : List ℕ → Bool) (size n : ℕ) (front : List ℕ) → All (λ i. i < size) front → AreDistinct (tuples_where passes size n front)
tuples_distinct passes size zero front within = by (passes front)
  where
    by : (b : Bool) → AreDistinct (if b then front ∷ [] else [])
    by true = distinct_one front
    by false = distinct_nil [] refl
tuples_distinct passes size (suc n) front within =
    distinct_joined (λ i tuple. slice_get tuple (length front) ≡ Some i) (λ i. tuples_where passes size n (front ++ i ∷ [])) size
    (λ i j tuple e f. same_Some i j (sym e ∙ f))
    (λ i h. tuples_distinct passes size n (front ++ i ∷ []) (all_push size i front within h))
    (λ i h. marked_tuples passes size n i front (tuples_where passes size n (front ++ i ∷ []))
    (are_tuples passes size n (front ++ i ∷ []) (all_push size i front within h)))

-- where there is no such tuple, no numbers below the size pass behind the front
pub none_passes : (passes : List ℕ → Bool) (size n : ℕ) (front more : List ℕ) → tuples_where passes size n front ≡ [] → length more ≡ n
    → All (λ i. i < size) more → passes (front ++ more) ≡ false
none_passes passes size zero front [] e l within = ap passes (append-nil front) ∙ by (passes front) refl e
  where
    by : (b : Bool) → passes front ≡ b → (if b then front ∷ [] else []) ≡ [] → passes front ≡ false
    by true p none = cc
    by false p none = p
none_passes passes size zero front (i ∷ more) e l within = cc
none_passes passes size (suc n) front [] e l within = cc
none_passes passes size (suc n) front (i ∷ more) e l within =
    ap passes (sym (append_assoc front (i ∷ []) more))
    ∙ none_passes passes size n (front ++ i ∷ []) more
    (each_nothing (λ j. tuples_where passes size n (front ++ j ∷ [])) size i e (All-head (λ j. j < size) i more within)) (omega (arith, l))
    (All-tail (λ j. j < size) i more within)

-- the tuples with at least one more number, by that number
pub one_more : (passes : List ℕ → Bool) (size more : ℕ) (front : List ℕ) → 0 < more
    → tuples_where passes size more front ≡ joined_below (λ i. tuples_where passes size (more - 1) (front ++ i ∷ [])) size
one_more passes size zero front h = absurd (omega (arith, h))
one_more passes size (suc n) front h =
    let e : n ≡ suc n - 1 = omega arith in
    ap (λ k. joined_below (λ i. tuples_where passes size k (front ++ i ∷ [])) size) e
