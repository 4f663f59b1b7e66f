use Rattle.std.proofs.Common.{◌≡◌, ℕ, ◌<◌, ◌≤◌, Bool, true, false, ◌||◌, eqb, List, [], ◌∷◌, ◌++◌, length, get_or, set, replicate, inl, inr, refl, sym, ◌∙◌, arith}
use Rattle.std.specs.List.{AllByRecursion, Contains, IsDistinct}
use Rattle.std.proofs.Math.Bool.{or-false}
use Rattle.std.proofs.lemmas.Bool.{cases_Bool, cases_eq, eq-eqb, ne_eqb, eqb-true, eqb-false, or_from, or_right}
use Rattle.std.specs.Cmp.{nat_eq_equiv}
use Rattle.std.proofs.lemmas.List.{append-nil, append_assoc, get_or-replicate, get_or-set_same, get_or-set_other, get_or_append_left, length-replicate, length-set, length_push}
use Rattle.std.proofs.lemmas.List.Elements.{All-append, All-cons, All-from_recursion, All-nil, All-push, All-contains, All-weaker, Contains-append_left, Contains-push}
use Rattle.std.proofs.lemmas.List.Folds.{list_any-append}
use Rattle.std.proofs.lemmas.Map.Keys.{IsDistinct-push}
use Rattle.std.proofs.lemmas.Map.Views.{Contains-from_any, list_any-from_Contains}
use Rattle.std.proofs.lemmas.Map.Steps.{length-le_from_distinct_below}
use Rattle.class_forest.specs.declared.merge.Merge.{Merge}
use Rattle.class_forest.specs.Joined.{GrowsBelow, IsLinked}
use Rattle.class_forest.specs.Joined.IsLinked.{equal, by_merge, back, along}
use Rattle.class_forest.specs.Marks.{is_mark, with_mark, AreMarks}

is_mark-push : (marks : List ℕ) (one number : ℕ) → is_mark (marks ++ one ∷ []) number ≡ (is_mark marks number || (eqb number one || false))
is_mark-push marks one number = list_any-append (eqb number) marks (one ∷ [])

-- no marks
pub AreMarks-none : (room : ℕ) → AreMarks (replicate room false) []
unfolding IsDistinct
AreMarks-none room = record {
  within = λ k d below. absurd (omega arith);
  flag_at = λ number within. get_or-replicate room number false false (rw length-replicate at within);
  once = tt;
}

-- one more mark
pub AreMarks-push : (flags : List Bool) (marks : List ℕ) (number : ℕ) → AreMarks flags marks → number < length flags → get_or flags number false ≡ false → AreMarks (set flags number true) (marks ++ number ∷ [])
AreMarks-push flags marks number marked within fresh = record {
  within = All-push (λ n. n < length (set flags number true)) marks number (rw length-set marked.within) (rw length-set within);
  flag_at = λ other below. elim (cases_eq other number) [
    | inl same ↦ rw same (get_or-set_same flags number true false within ∙ sym (is_mark-push marks number number ∙ rw (eq-eqb number number refl) (or_right (is_mark marks number) true refl)))
    | inr apart ↦ get_or-set_other flags number other true false apart ∙ (marked.flag_at other (rw length-set at below) ∙ sym (is_mark-push marks number other ∙ rw (ne_eqb other number apart) (or-false (is_mark marks other))))
  ];
  once = IsDistinct-push nat_eq_equiv marks number marked.once (sym (marked.flag_at number within) ∙ fresh);
}

front_all : (P : ℕ → Type 0) (marks : List ℕ) (number : ℕ) → AllByRecursion P (marks ++ number ∷ []) → AllByRecursion P marks
front_all P [] number all = tt
front_all P (mark ∷ marks) number all = (all.0, front_all P marks number all.1)

distinct-front : (marks : List ℕ) (number : ℕ) → IsDistinct eqb (marks ++ number ∷ []) → IsDistinct eqb marks × (is_mark marks number ≡ false)
unfolding IsDistinct
distinct-front [] number once = (tt, refl)
distinct-front (mark ∷ marks) number once =
    let rest = distinct-front marks number once.1 in
    let all = All-from_recursion (λ y. eqb mark y ≡ false) (marks ++ number ∷ []) once.0 in
    let last : eqb mark number ≡ false = All-contains (λ y. eqb mark y ≡ false) (marks ++ number ∷ []) number all (Contains-push marks number) in
    ((front_all (λ y. eqb mark y ≡ false) marks number once.0, rest.0), or_from (eqb number mark) (is_mark marks number) (ne_eqb number mark (λ same. eqb-false mark number last (sym same))) rest.1)

-- one mark fewer
pub AreMarks-pop : (flags : List Bool) (marks : List ℕ) (number : ℕ) → AreMarks flags (marks ++ number ∷ []) → AreMarks (set flags number false) marks
AreMarks-pop flags marks number marked =
    let parts = distinct-front marks number marked.once in
    let within : number < length flags = All-contains (λ n. n < length flags) (marks ++ number ∷ []) number marked.within (Contains-push marks number) in
    record {
      within = λ k d below. rw length-set (rw (get_or_append_left marks (number ∷ []) d k below) at (marked.within k d (rw length_push (omega arith))));
      flag_at = λ other below. elim (cases_eq other number) [
        | inl same ↦ rw same (get_or-set_same flags number false false within ∙ sym parts.1)
        | inr apart ↦ get_or-set_other flags number other false false apart ∙ (marked.flag_at other (rw length-set at below) ∙ (is_mark-push marks number other ∙ rw (ne_eqb other number apart) (or-false (is_mark marks other))))
      ];
      once = parts.0;
    }

-- there is room for all marks
pub length-AreMarks : (flags : List Bool) (marks : List ℕ) → AreMarks flags marks → length marks ≤ length flags
length-AreMarks flags marks marked = length-le_from_distinct_below marks (length flags) marked.once (λ number is. All-contains (λ n. n < length flags) marks number marked.within (Contains-from_any (λ x y. eqb-true x y) number marks is))

-- there is room for one more mark
pub room_for_mark : (flags : List Bool) (marks : List ℕ) (number : ℕ) → AreMarks flags marks → number < length flags → get_or flags number false ≡ false → length marks < length flags
room_for_mark flags marks number marked within fresh =
    let le = length-AreMarks (set flags number true) (marks ++ number ∷ []) (AreMarks-push flags marks number marked within fresh) in
    omega (arith, length_push marks number, length-set flags number true)

-- what the test of a mark means
pub is_mark-Contains : (marks : List ℕ) (number : ℕ) → is_mark marks number ≡ true → Contains marks number
is_mark-Contains marks number is = Contains-from_any (λ x y. eqb-true x y) number marks is

pub Contains-is_mark : (marks : List ℕ) (number : ℕ) → Contains marks number → is_mark marks number ≡ true
Contains-is_mark marks number among = list_any-from_Contains nat_eq_equiv number marks among

-- one more mark adds one at most
pub with_mark-grows : (marks : List ℕ) (number limit : ℕ) → number < limit → GrowsBelow limit marks (with_mark marks number)
with_mark-grows marks number limit below =
    elim (cases_Bool (is_mark marks number)) [
      | inl is ↦ rw is ([], sym (append-nil marks), λ k d in'. absurd (omega arith))
      | inr is ↦ rw is (number ∷ [], refl, All-cons (λ n. n < limit) number [] below (All-nil (λ n. n < limit)))
    ]

-- and is among them then
pub Contains-with_mark : (marks : List ℕ) (number : ℕ) → Contains (with_mark marks number) number
Contains-with_mark marks number =
    elim (cases_Bool (is_mark marks number)) [
      | inl is ↦ rw is (is_mark-Contains marks number is)
      | inr is ↦ rw is (Contains-push marks number)
    ]

-- marks that grew twice
pub GrowsBelow-twice : (limit : ℕ) (a b c : List ℕ) → GrowsBelow limit a b → GrowsBelow limit b c → GrowsBelow limit a c
GrowsBelow-twice limit a b c one other = (one.0 ++ other.0, other.1 ∙ (rw one.1 (append_assoc a one.0 other.0)), All-append (λ n. n < limit) one.0 other.0 one.2 other.2)

-- below a greater number
pub GrowsBelow-wider : (less more : ℕ) (old new : List ℕ) → less ≤ more → GrowsBelow less old new → GrowsBelow more old new
GrowsBelow-wider less more old new le grows = (grows.0, grows.1, All-weaker (λ n. n < less) (λ n. n < more) (λ n below. omega arith) grows.0 grows.2)

-- no mark more
pub GrowsBelow-none : (limit : ℕ) (marks : List ℕ) → GrowsBelow limit marks marks
GrowsBelow-none limit marks = ([], sym (append-nil marks), λ k d within. absurd (omega arith))

-- what marks link stays linked by more of them
pub IsLinked-grows : (log : List Merge) (limit : ℕ) (old new : List ℕ) (x y : ℕ) → GrowsBelow limit old new → IsLinked log old x y → IsLinked log new x y
IsLinked-grows log limit old new x y grows (equal e) = equal e
IsLinked-grows log limit old new x y grows (by_merge number merge marked is left right) = by_merge number merge (rw grows.1 (Contains-append_left old grows.0 number marked)) is left right
IsLinked-grows log limit old new x y grows (back linked) = back (IsLinked-grows log limit old new y x grows linked)
IsLinked-grows log limit old new x y grows (along z one other) = along z (IsLinked-grows log limit old new x z grows one) (IsLinked-grows log limit old new z y grows other)
