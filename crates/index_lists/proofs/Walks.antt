-- What a walk still has before it, over lists with each item once in one of them.
use Rattle.std.proofs.Common.{◌≡◌, ◌<◌, ℕ, zero, suc, true, true≢false, List, [], ◌∷◌, Option, Some, None, slice_get, refl, sym, ap, ◌∙◌, inl, inr, arith}
use Rattle.std.specs.Option.{IfSome}
use Rattle.std.proofs.lemmas.Bool.{cases_Bool, eq-eqb}
use Rattle.index_lists.specs.Lists.{AreDisjoint, behind, has, item_count, items_behind, items_from, items_of, list_of}
use Rattle.index_lists.proofs.Items.{behind-next, has-behind, has-first}

-- a list that alone has an item is the item's
pub list_of-alone : (lists : List (List ℕ)) (item list : ℕ) → has item (items_of lists list) ≡ true
    → ((other : ℕ) → has item (items_of lists other) ≡ true → other ≡ list) → list_of lists item ≡ list
list_of-alone [] item list at alone = absurd (true≢false (sym at))
list_of-alone (xs ∷ lists) item zero at alone = rw at refl
list_of-alone (xs ∷ lists) item (suc list) at alone = elim (cases_Bool (has item xs)) [
  | inl here ↦ let zero_too : 0 ≡ suc list = alone 0 here in absurd (omega (arith, zero_too))
  | inr none ↦
      let below : (other : ℕ) → has item (items_of lists other) ≡ true → other ≡ list = λ other there. let e : suc other ≡ suc list = alone (suc other) there in omega (arith, e) in
      rw none (ap suc (list_of-alone lists item list at below))
]

-- walking begins with all items of the list
pub walk-first : (lists : List (List ℕ)) → AreDisjoint lists → (list : ℕ) → items_from lists (slice_get (items_of lists list) 0) ≡ items_of lists list
walk-first lists apart list = by (items_of lists list) refl
  where
    by : (xs : List ℕ) → items_of lists list ≡ xs → items_from lists (slice_get xs 0) ≡ xs
    by [] e = refl
    by (x ∷ xs) e =
        let here : has x (x ∷ xs) ≡ true = rw (eq-eqb x x refl) refl in
        let place : list_of lists x ≡ list = apart.alone list x (ap (has x) e ∙ here) in
        ap (λ ys. x ∷ ys) (ap (λ k. behind x (items_of lists k)) place ∙ (ap (behind x) e ∙ rw (eq-eqb x x refl) refl))

-- the first item of a list is in it
pub first-place : (lists : List (List ℕ)) → AreDisjoint lists → (list : ℕ) → IfSome (slice_get (items_of lists list) 0) (λ item. list_of lists item ≡ list)
first-place lists apart list = by (slice_get (items_of lists list) 0) refl
  where
    by : (o : Option ℕ) → slice_get (items_of lists list) 0 ≡ o → IfSome o (λ item. list_of lists item ≡ list)
    by None e = tt
    by (Some item) e = apart.alone list item (has-first item (items_of lists list) e)

pub first-within : (lists : List (List ℕ)) → AreDisjoint lists → (list : ℕ) → IfSome (slice_get (items_of lists list) 0) (λ item. item < item_count lists)
first-within lists apart list = by (slice_get (items_of lists list) 0) refl
  where
    by : (o : Option ℕ) → slice_get (items_of lists list) 0 ≡ o → IfSome o (λ item. item < item_count lists)
    by None e = tt
    by (Some item) e = apart.items list item (has-first item (items_of lists list) e)

-- a step of a walk leaves what stands behind the item
pub walk-next : (lists : List (List ℕ)) → AreDisjoint lists → (item : ℕ) → items_from lists (slice_get (items_behind lists item) 0) ≡ items_behind lists item
walk-next lists apart item = by (items_behind lists item) refl
  where
    by : (ys : List ℕ) → items_behind lists item ≡ ys → items_from lists (slice_get ys 0) ≡ ys
    by [] e = refl
    by (y ∷ ys) e =
        let list : ℕ = list_of lists item in
        let there : has y (y ∷ ys) ≡ true = rw (eq-eqb y y refl) refl in
        let place : list_of lists y ≡ list = apart.alone list y (has-behind y item (items_of lists list) (ap (has y) e ∙ there)) in
        ap (λ zs. y ∷ zs) (ap (λ k. behind y (items_of lists k)) place ∙ behind-next item y ys (items_of lists list) (apart.once list) e)

pub next-place : (lists : List (List ℕ)) → AreDisjoint lists → (item : ℕ) → IfSome (slice_get (items_behind lists item) 0) (λ other. list_of lists other ≡ list_of lists item)
next-place lists apart item = by (slice_get (items_behind lists item) 0) refl
  where
    by : (o : Option ℕ) → slice_get (items_behind lists item) 0 ≡ o → IfSome o (λ other. list_of lists other ≡ list_of lists item)
    by None e = tt
    by (Some y) e =
        let list : ℕ = list_of lists item in
        apart.alone list y (has-behind y item (items_of lists list) (has-first y (items_behind lists item) e))

pub next-within : (lists : List (List ℕ)) → AreDisjoint lists → (item : ℕ) → IfSome (slice_get (items_behind lists item) 0) (λ other. other < item_count lists)
next-within lists apart item = by (slice_get (items_behind lists item) 0) refl
  where
    by : (o : Option ℕ) → slice_get (items_behind lists item) 0 ≡ o → IfSome o (λ other. other < item_count lists)
    by None e = tt
    by (Some y) e =
        let list : ℕ = list_of lists item in
        apart.items list y (has-behind y item (items_of lists list) (has-first y (items_behind lists item) e))
