-- One list of items: which it has, and what stands before and behind each, also without one of them.
use Rattle.std.proofs.Common.{◌≡◌, ◌≢◌, ℕ, true, false, true≢false, ◌||◌, List, [], ◌∷◌, length, ◌+◌, Option, Some, None, slice_get, eqb, refl, sym, ap, ◌∙◌, inl, inr, arith}
use Rattle.std.proofs.lemmas.Bool.{or_cases, or_parts, or_right, eq-eqb, eqb-false, ne_eqb, false_from_ne_true}
use Rattle.std.proofs.lemmas.Bool.Decides.{eqb_tells}
use Rattle.index_lists.specs.Lists.{behind, has, IsOnce, without}
use Rattle.index_lists.specs.Links.{before}

-- an item that no list has is behind none
pub behind-none : (item : ℕ) (xs : List ℕ) → has item xs ≡ false → behind item xs ≡ []
behind-none item [] none = refl
behind-none item (x ∷ xs) none = elim (eqb_tells x item) [
  | inl same ↦ absurd (true≢false (rw same.0 at none))
  | inr other ↦ rw other.0 (behind-none item xs (rw other.0 at none))
]

-- what stands behind an item is in the list
pub has-behind : (x item : ℕ) (xs : List ℕ) → has x (behind item xs) ≡ true → has x xs ≡ true
has-behind x item [] at = at
has-behind x item (y ∷ ys) at = elim (eqb_tells y item) [
  | inl same ↦ or_right (eqb y x) (has x ys) (rw same.0 at at)
  | inr other ↦ or_right (eqb y x) (has x ys) (has-behind x item ys (rw other.0 at at))
]

-- the first item of a list is not among the others, which stand once
pub once-first : (x : ℕ) (xs : List ℕ) → IsOnce (x ∷ xs) → has x xs ≡ false
once-first x xs o = rw (eq-eqb x x refl) at (o.once x)

pub once-rest : (x : ℕ) (xs : List ℕ) → IsOnce (x ∷ xs) → IsOnce xs
once-rest x xs o = record { once = by }
  where
    by : (item : ℕ) → has item (behind item xs) ≡ false
    by item = elim (eqb_tells x item) [
      | inl same ↦
          let none : has item xs ≡ false = ap (λ y. has y xs) (sym same.1) ∙ once-first x xs o in
          rw (behind-none item xs none) refl
      | inr other ↦ rw other.0 at (o.once item)
    ]

-- another item is in a list without one where it is in the list
pub has-without : (x item : ℕ) (xs : List ℕ) → x ≢ item → has x (without item xs) ≡ has x xs
has-without x item [] differ = refl
has-without x item (y ∷ ys) differ = elim (eqb_tells y item) [
  | inl same ↦
      let not_x : eqb y x ≡ false = ne_eqb y x (λ e. differ (sym e ∙ same.1)) in
      rw (same.0, not_x) refl
  | inr other ↦ rw other.0 (ap (λ b. eqb y x || b) (has-without x item ys differ))
]

-- an item that stands once isn't in the list without it
pub has-without_same : (item : ℕ) (xs : List ℕ) → IsOnce xs → has item (without item xs) ≡ false
has-without_same item [] o = refl
has-without_same item (y ∷ ys) o = elim (eqb_tells y item) [
  | inl same ↦ rw same.0 (ap (λ z. has z ys) (sym same.1) ∙ once-first y ys o)
  | inr other ↦ rw (other.0, other.0) (has-without_same item ys (once-rest y ys o))
]

-- the items of a list without one are in the list
pub has-from_without : (y item : ℕ) (zs : List ℕ) → has y (without item zs) ≡ true → has y zs ≡ true
has-from_without y item [] at = at
has-from_without y item (w ∷ ws) at = elim (eqb_tells w item) [
  | inl same ↦ or_right (eqb w y) (has y ws) (rw same.0 at at)
  | inr other ↦ elim (or_cases (eqb w y) (has y (without item ws)) (rw other.0 at at)) [
    | inl here ↦ rw here refl
    | inr more ↦ or_right (eqb w y) (has y ws) (has-from_without y item ws more)
  ]
]

-- what stands behind an item in a list without another one stands behind it in the list
pub has-behind_without : (x y item : ℕ) (xs : List ℕ) → has y (behind x (without item xs)) ≡ true → has y (behind x xs) ≡ true
has-behind_without x y item [] at = at
has-behind_without x y item (z ∷ zs) at = elim (eqb_tells z item) [
  | inl same ↦ first (rw same.0 at at)
  | inr other ↦ later (has-behind_without x y item zs) (rw other.0 at at)
]
  where
    first : has y (behind x zs) ≡ true → has y (behind x (z ∷ zs)) ≡ true
    first there = elim (eqb_tells z x) [
      | inl same ↦ rw same.0 (has-behind y x zs there)
      | inr other ↦ rw other.0 there
    ]

    later : (has y (behind x (without item zs)) ≡ true → has y (behind x zs) ≡ true) → has y (behind x (z ∷ without item zs)) ≡ true → has y (behind x (z ∷ zs)) ≡ true
    later rest there = elim (eqb_tells z x) [
      | inl same ↦ rw same.0 (has-from_without y item zs (rw same.0 at there))
      | inr other ↦ rw other.0 (rest (rw other.0 at there))
    ]

-- items that stand once do so without one of them
pub once-without : (item : ℕ) (xs : List ℕ) → IsOnce xs → IsOnce (without item xs)
once-without item xs o = record { once = λ x. false_from_ne_true (has x (behind x (without item xs))) (λ at. true≢false (sym (has-behind_without x x item xs at) ∙ o.once x)) }

-- and with another one in front
pub once-more : (item : ℕ) (xs : List ℕ) → has item xs ≡ false → IsOnce xs → IsOnce (item ∷ xs)
once-more item xs none o = record { once = by }
  where
    by : (x : ℕ) → has x (behind x (item ∷ xs)) ≡ false
    by x = elim (eqb_tells item x) [
      | inl same ↦ rw same.0 (ap (λ y. has y xs) (sym same.1) ∙ none)
      | inr other ↦ rw other.0 (o.once x)
    ]

-- the first of a list is in it
pub has-first : (x : ℕ) (xs : List ℕ) → slice_get xs 0 ≡ Some x → has x xs ≡ true
has-first x [] e = cc
has-first x (z ∷ zs) e = let p : z ≡ x = cc in rw (eq-eqb z x p) refl

-- what stands before an item is in the list, or is what stands before the list
pub has-before : (front : Option ℕ) (x item : ℕ) (xs : List ℕ) → before front item xs ≡ Some x → front ≢ Some x → has x xs ≡ true
has-before front x item [] e differ = cc
has-before front x item (y ∷ ys) e differ = elim (eqb_tells y item) [
  | inl same ↦ absurd (differ (rw same.0 at e))
  | inr other ↦ elim (eqb_tells y x) [
    | inl here ↦ rw here.0 refl
    | inr there ↦ or_right (eqb y x) (has x ys) (has-before (Some y) x item ys (rw other.0 at e) (λ s. there.1 (cc)))
  ]
]

-- an item that a list has is the first of it, or has one before it
pub first-or_before : (item : ℕ) (x : ℕ) (xs : List ℕ) → has item xs ≡ true → before (Some x) item xs ≢ None
first-or_before item x [] at none = true≢false (sym at)
first-or_before item x (y ∷ ys) at none = elim (eqb_tells y item) [
  | inl same ↦ let p : Some x ≡ None = rw same.0 at none in cc
  | inr other ↦ first-or_before item y ys (rw other.0 at at) (rw other.0 at none)
]

-- the first of a list without an item
pub first-without_first : (item : ℕ) (xs : List ℕ) → has item xs ≡ true → before None item xs ≡ None
    → slice_get (without item xs) 0 ≡ slice_get (behind item xs) 0
first-without_first item [] at none = refl
first-without_first item (y ∷ ys) at none = elim (eqb_tells y item) [
  | inl same ↦ rw same.0 refl
  | inr other ↦ absurd (first-or_before item y ys (rw other.0 at at) (rw other.0 at none))
]

pub first-without_other : (item p : ℕ) (xs : List ℕ) → before None item xs ≡ Some p → slice_get (without item xs) 0 ≡ slice_get xs 0
first-without_other item p [] e = refl
first-without_other item p (y ∷ ys) e = elim (eqb_tells y item) [
  | inl same ↦ cc (rw same.0 at e)
  | inr other ↦ rw other.0 refl
]

-- behind the one that stood before an item now stands what stood behind the item
pub behind-without_before : (front : Option ℕ) (x item : ℕ) (xs : List ℕ) → IsOnce xs → before front item xs ≡ Some x → front ≢ Some x
    → slice_get (behind x (without item xs)) 0 ≡ slice_get (behind item xs) 0
behind-without_before front x item [] o e differ = refl
behind-without_before front x item (y ∷ ys) o e differ = elim (eqb_tells y item) [
  | inl same ↦ absurd (differ (rw same.0 at e))
  | inr other ↦ elim (eqb_tells y x) [
    | inl here ↦ rw (other.0, here.0) (next ys (once-first y ys o) here.1 (rw other.0 at e))
    | inr there ↦ rw (other.0, there.0) (behind-without_before (Some y) x item ys (once-rest y ys o) (rw other.0 at e) (λ s. there.1 (cc)))
  ]
]
  where
    next : (zs : List ℕ) → has y zs ≡ false → y ≡ x → before (Some y) item zs ≡ Some x → slice_get (without item zs) 0 ≡ slice_get (behind item zs) 0
    next [] none here e = refl
    next (z ∷ zs) none here e = elim (eqb_tells z item) [
      | inl same ↦ rw same.0 refl
      | inr other ↦
          let not_z : z ≢ x = λ s. eqb-false z y (or_parts (eqb z y) (has y zs) none).0 (s ∙ sym here) in
          let there : has x zs ≡ true = has-before (Some z) x item zs (rw other.0 at e) (λ s. not_z (cc)) in
          absurd (true≢false (sym there ∙ (ap (λ w. has w zs) (sym here) ∙ (or_parts (eqb z y) (has y zs) none).1)))
    ]

-- behind each other one stands what stood there
pub behind-without_other : (front : Option ℕ) (x item : ℕ) (xs : List ℕ) → before front item xs ≢ Some x → x ≢ item
    → slice_get (behind x (without item xs)) 0 ≡ slice_get (behind x xs) 0
behind-without_other front x item [] e differ = refl
behind-without_other front x item (y ∷ ys) e differ = elim (eqb_tells y item) [
  | inl same ↦ rw (same.0, ne_eqb y x (λ s. differ (sym s ∙ same.1))) refl
  | inr other ↦ elim (eqb_tells y x) [
    | inl here ↦ rw (other.0, here.0) (next ys here.1 (rw other.0 at e))
    | inr there ↦ rw (other.0, there.0) (behind-without_other (Some y) x item ys (rw other.0 at e) differ)
  ]
]
  where
    next : (zs : List ℕ) → y ≡ x → before (Some y) item zs ≢ Some x → slice_get (without item zs) 0 ≡ slice_get zs 0
    next [] here e = refl
    next (z ∷ zs) here e = elim (eqb_tells z item) [
      | inl same ↦ absurd ((rw same.0 at e) (ap Some here))
      | inr other ↦ rw other.0 refl
    ]

-- before the one that stood behind an item now stands what stood before the item
pub before-without_next : (front : Option ℕ) (x item : ℕ) (xs : List ℕ) → IsOnce xs → slice_get (behind item xs) 0 ≡ Some x
    → before front x (without item xs) ≡ before front item xs
before-without_next front x item [] o e = cc
before-without_next front x item (y ∷ ys) o e = elim (eqb_tells y item) [
  | inl same ↦ rw same.0 (next ys (rw same.0 at e))
  | inr other ↦
      let below : slice_get (behind item ys) 0 ≡ Some x = rw other.0 at e in
      let not_y : y ≢ x = λ s. true≢false (sym (has-behind x item ys (has-first x (behind item ys) below)) ∙ (ap (λ w. has w ys) (sym s) ∙ once-first y ys o)) in
      rw (other.0, ne_eqb y x not_y) (before-without_next (Some y) x item ys (once-rest y ys o) below)
]
  where
    next : (zs : List ℕ) → slice_get zs 0 ≡ Some x → before front x zs ≡ front
    next [] e = cc
    next (z ∷ zs) e = let p : z ≡ x = cc in rw (eq-eqb z x p) refl

-- before each other one stands what stood there
pub before-without_other : (front : Option ℕ) (x item : ℕ) (xs : List ℕ) → slice_get (behind item xs) 0 ≢ Some x → x ≢ item
    → before front x (without item xs) ≡ before front x xs
before-without_other front x item [] e differ = refl
before-without_other front x item (y ∷ ys) e differ = elim (eqb_tells y item) [
  | inl same ↦ rw (same.0, ne_eqb y x (λ s. differ (sym s ∙ same.1))) (next ys (rw same.0 at e))
  | inr other ↦ elim (eqb_tells y x) [
    | inl here ↦ rw (other.0, here.0) refl
    | inr there ↦ rw (other.0, there.0) (before-without_other (Some y) x item ys (rw other.0 at e) differ)
  ]
]
  where
    next : (zs : List ℕ) → slice_get zs 0 ≢ Some x → before front x zs ≡ before (Some y) x zs
    next [] e = refl
    next (z ∷ zs) e =
        let not_z : z ≢ x = λ s. e (ap Some s) in
        rw (ne_eqb z x not_z) refl

-- before the first of a list stands an item that is put in front, and before the others what stood there
pub before-more_first : (x item : ℕ) (xs : List ℕ) → slice_get xs 0 ≡ Some x → before (Some item) x xs ≡ Some item
before-more_first x item [] e = cc
before-more_first x item (z ∷ zs) e = let p : z ≡ x = cc in rw (eq-eqb z x p) refl

pub before-more_other : (x item : ℕ) (xs : List ℕ) → slice_get xs 0 ≢ Some x → before (Some item) x xs ≡ before None x xs
before-more_other x item [] e = refl
before-more_other x item (z ∷ zs) e =
    let not_z : z ≢ x = λ s. e (ap Some s) in
    rw (ne_eqb z x not_z) refl

-- one item fewer
pub length-without : (item : ℕ) (xs : List ℕ) → has item xs ≡ true → length (without item xs) + 1 ≡ length xs
length-without item [] at = absurd (true≢false (sym at))
length-without item (y ∷ ys) at = elim (eqb_tells y item) [
  | inl same ↦ rw same.0 (omega arith)
  | inr other ↦
      let rest = length-without item ys (rw other.0 at at) in
      rw other.0 (omega (arith, rest))
]

-- what stands behind the item that stands behind another
pub behind-next : (item y : ℕ) (ys xs : List ℕ) → IsOnce xs → behind item xs ≡ y ∷ ys → behind y xs ≡ ys
behind-next item y ys [] o e = cc
behind-next item y ys (z ∷ zs) o e = elim (eqb_tells z item) [
  | inl same ↦
      let rest : zs ≡ y ∷ ys = rw same.0 at e in
      rw (ne_eqb z y (not_first (rw rest (rw (eq-eqb y y refl) refl)))) (rw rest (rw (eq-eqb y y refl) refl))
  | inr other ↦
      let below : behind item zs ≡ y ∷ ys = rw other.0 at e in
      let there : has y (behind item zs) ≡ true = rw below (rw (eq-eqb y y refl) refl) in
      rw (ne_eqb z y (not_first (has-behind y item zs there))) (behind-next item y ys zs (once-rest z zs o) below)
]
  where
    not_first : has y zs ≡ true → z ≢ y
    not_first there s = true≢false (sym there ∙ (ap (λ w. has w zs) (sym s) ∙ once-first z zs o))
