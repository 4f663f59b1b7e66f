-- Lists with one more item.
use Rattle.std.proofs.Common.{◌≡◌, ◌≢◌, ℕ, zero, suc, true, false, List, [], ◌∷◌, ◌++◌, length, All, Some, Option, slice_get, refl, sym, ap, ◌∙◌, subst, ◌⊎◌, inl, inr}
use Rattle.std.specs.List.{AllByRecursion}
use Rattle.std.proofs.lemmas.List.Elements.{All-from_recursion, recursion_from_All}
use Rattle.mbqi_terms.specs.Distinct.{AreDistinct}
use Rattle.mbqi_terms.specs.declared.script.Assertion.{Assertion}
use Rattle.smtlib_terms.specs.Words.{is_one_of, is_text}
use Rattle.smtlib_terms.proofs.Texts.{own_text}
use Rattle.smtlib_decls.specs.Labels.{is_labelled, is_taken}
use Rattle.mbqi_terms.specs.InForm.{DifferInLabels}
use Rattle.smtlib_terms.proofs.Tests.{none_passes}

-- What all items have.
each_more : {X : Type 0} (P : X → Type 0) (xs : List X) (x : X) → AllByRecursion P xs → P x → AllByRecursion P (xs ++ x ∷ [])
each_more P [] x all here = (here, tt)
each_more P (y ∷ xs) x all here = (all.0, each_more P xs x all.1 here)

pub all_more : {X : Type 0} (P : X → Type 0) (xs : List X) (x : X) → All P xs → P x → All P (xs ++ x ∷ [])
all_more P xs x all here = All-from_recursion P (xs ++ x ∷ []) (each_more P xs x (recursion_from_All P xs all) here)

-- An item by its place.
pub get_before : {X : Type 0} (xs : List X) (x : X) (i : ℕ) (y : X) → slice_get xs i ≡ Some y → slice_get (xs ++ x ∷ []) i ≡ Some y
get_before [] x i y e = cc
get_before (z ∷ xs) x zero y e = e
get_before (z ∷ xs) x (suc i) y e = get_before xs x i y e

get_more : {X : Type 0} (xs : List X) (x : X) (i : ℕ) (y : X) → slice_get (xs ++ x ∷ []) i ≡ Some y → (slice_get xs i ≡ Some y) ⊎ ((i ≡ length xs) × (x ≡ y))
get_more [] x zero y e = inr (refl, cc)
get_more [] x (suc i) y e = cc
get_more (z ∷ xs) x zero y e = inl e
get_more (z ∷ xs) x (suc i) y e = elim (get_more xs x i y e) [ inl before ↦ inl before | inr last ↦ inr (ap suc last.0, last.1) ]

-- Items of which no two are related, and a last one that is related to none of them.
apart_more : {X : Type 0} (R : X → X → Type 0) (xs : List X) (x : X) →
    ((i j : ℕ) (a b : X) → slice_get xs i ≡ Some a → slice_get xs j ≡ Some b → R a b → i ≡ j) →
    ((k : ℕ) (a : X) → slice_get xs k ≡ Some a → R a x → ⊥) → ((k : ℕ) (a : X) → slice_get xs k ≡ Some a → R x a → ⊥) →
    (i j : ℕ) (a b : X) → slice_get (xs ++ x ∷ []) i ≡ Some a → slice_get (xs ++ x ∷ []) j ≡ Some b → R a b → i ≡ j
apart_more R xs x apart before behind i j a b e f r =
    elim (get_more xs x i a e) [
      | inl first ↦ elim (get_more xs x j b f) [
        | inl second ↦ apart i j a b first second r
        | inr last ↦ absurd (before i a first (subst (λ y. R a y) (sym last.1) r))
      ]
      | inr last ↦ elim (get_more xs x j b f) [
        | inl second ↦ absurd (behind j b second (subst (λ y. R y b) (sym last.1) r))
        | inr other ↦ last.0 ∙ sym other.0
      ]
    ]

distinct_more : {X : Type 0} (xs : List X) (x : X) → AreDistinct xs → ((k : ℕ) → slice_get xs k ≢ Some x) → AreDistinct (xs ++ x ∷ [])
distinct_more xs x distinct new i j y e f =
    apart_more (λ a b. a ≡ b) xs x (λ i j a b e f same. distinct i j b (e ∙ ap Some same) f)
    (λ k a e same. new k (e ∙ ap Some same)) (λ k a e same. new k (e ∙ ap Some (sym same))) i j y y e f refl

-- Names.
name_absent : (names : List (List ℕ)) (name : List ℕ) → is_one_of names name ≡ false → (k : ℕ) → slice_get names k ≢ Some name
name_absent names name new k e =
    let other : is_text name name ≡ false = none_passes (λ (other : List ℕ). is_text other name) names k name new e in
    let own : is_text name name ≡ true = own_text name in cc

pub names_differ : (names : List (List ℕ)) (name : List ℕ) → AreDistinct names → is_one_of names name ≡ false → AreDistinct (names ++ name ∷ [])
names_differ names name distinct new = distinct_more names name distinct (name_absent names name new)

-- Labels.
abbrev HaveOneLabel : Assertion → Assertion → Type 0
HaveOneLabel a b = (label : List ℕ) × (a.label ≡ Some label) × (b.label ≡ Some label)

label_absent : (assertions : List Assertion) (a b : Assertion) (k : ℕ) → is_taken a.label assertions ≡ false → slice_get assertions k ≡ Some b → HaveOneLabel a b → ⊥
label_absent assertions a b k new e one =
    let label = one.0 in
    let free : is_taken (Some label) assertions ≡ false = subst (λ (l : Option (List ℕ)). is_taken l assertions ≡ false) one.1 new in
    let other : is_labelled label b.label ≡ false = none_passes (λ (c : Assertion). is_labelled label c.label) assertions k b free e in
    let differs : is_text label label ≡ false = subst (λ (l : Option (List ℕ)). is_labelled label l ≡ false) one.2 other in
    let own : is_text label label ≡ true = own_text label in cc

pub labels_differ : (assertions : List Assertion) (a : Assertion) → DifferInLabels assertions → is_taken a.label assertions ≡ false → DifferInLabels (assertions ++ a ∷ [])
labels_differ assertions a differ new i j x y label e f at_x at_y =
    apart_more HaveOneLabel assertions a (λ i j b c e f one. differ i j b c one.0 e f one.1 one.2)
    (λ k b e one. label_absent assertions a b k new e (one.0, one.2, one.1)) (λ k b e one. label_absent assertions a b k new e one)
    i j x y e f (label, at_x, at_y)
