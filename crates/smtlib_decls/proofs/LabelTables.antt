-- Labels of assertions, for looking up.
use Rattle.std.proofs.Common.{◌≡◌, ℕ, Bool, true, false, ◌||◌, List, [], ◌∷◌, ◌++◌, length, take, Option, None, Some, refl, sym, ap, subst, ◌∙◌}
use Rattle.std.specs.Prelude.{if◌then◌else◌}
use Rattle.std.specs.List.{list_any}
use Rattle.mbqi_terms.specs.declared.script.Assertion.{Assertion}
use Rattle.smtlib_terms.specs.Words.{is_one_of, is_text}
use Rattle.smtlib_terms.proofs.Texts.{same_text}
use Rattle.smtlib_names.proofs.Named.{or_false}
use Rattle.smtlib_decls.specs.Labels.{AreLabels, is_labelled, with_label}

-- the labels without the newest
front_of : (xs : List (List ℕ)) (x : List ℕ) → take (length xs) (xs ++ x ∷ []) ≡ xs
front_of [] x = refl
front_of (y ∷ ys) x = ap (λ zs. y ∷ zs) (front_of ys x)

own_front : (xs : List (List ℕ)) → take (length xs) xs ≡ xs
own_front [] = refl
own_front (x ∷ xs) = ap (λ ys. x ∷ ys) (own_front xs)

front_step : (labels : List (List ℕ)) (label : List ℕ) (there : Bool) → take (length labels) (if there then labels else labels ++ label ∷ []) ≡ labels
front_step labels label true = own_front labels
front_step labels label false = front_of labels label

pub front_of_labels : (labels : List (List ℕ)) (label : Option (List ℕ)) → take (length labels) (with_label labels label) ≡ labels
front_of_labels labels None = own_front labels
front_of_labels labels (Some label) = front_step labels label (is_one_of labels label)

-- one of a list and of one more
or_assoc : (a b c : Bool) → (a || (b || c)) ≡ ((a || b) || c)
or_assoc true b c = refl
or_assoc false b c = refl

any_more : {A : Type 0} (p : A → Bool) (xs : List A) (x : A) → list_any p (xs ++ x ∷ []) ≡ (list_any p xs || p x)
any_more p [] x = or_false (p x)
any_more p (y ∷ ys) x = ap (λ (b : Bool). p y || b) (any_more p ys x) ∙ or_assoc (p y) (list_any p ys) (p x)

-- a label among those with one more
covered : (labels : List (List ℕ)) (new label : List ℕ) → is_one_of labels new ≡ true → (same : Bool) → is_text new label ≡ same
    → is_one_of labels label ≡ (is_one_of labels label || same)
covered labels new label there false differs = sym (or_false (is_one_of labels label))
covered labels new label there true same =
    let found : is_one_of labels label ≡ true = subst (λ l. is_one_of labels l ≡ true) (same_text new label same) there in
    found ∙ sym (ap (λ (b : Bool). b || true) found)

among_step : (labels : List (List ℕ)) (new label : List ℕ) (there : Bool) → is_one_of labels new ≡ there
    → is_one_of (if there then labels else labels ++ new ∷ []) label ≡ (is_one_of labels label || is_text new label)
among_step labels new label true e = covered labels new label e (is_text new label) refl
among_step labels new label false e = any_more (λ other. is_text other label) labels new

with_one : (labels : List (List ℕ)) (o : Option (List ℕ)) (label : List ℕ) → is_one_of (with_label labels o) label ≡ (is_one_of labels label || is_labelled label o)
with_one labels None label = sym (or_false (is_one_of labels label))
with_one labels (Some new) label = among_step labels new label (is_one_of labels new) refl

pub labels_more : (labels : List (List ℕ)) (assertions : List Assertion) (a : Assertion) → AreLabels labels assertions → AreLabels (with_label labels a.label) (assertions ++ a ∷ [])
labels_more labels assertions a are label =
    with_one labels a.label label
    ∙ (ap (λ (b : Bool). b || is_labelled label a.label) (are label) ∙ sym (any_more (λ (a : Assertion). is_labelled label a.label) assertions a))
