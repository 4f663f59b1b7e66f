use Rattle.std.proofs.Common.{◌≡◌, ℕ, inl, inr, List, [], ◌∷◌, ◌++◌, refl, sym, ap, ◌∙◌, subst, arith}
use Rattle.std.specs.List.{Contains}
use Rattle.std.proofs.lemmas.Bool.{cases_eq}
use Rattle.std.proofs.lemmas.List.Elements.{Contains-append_left, Contains-push, Contains-push_cases}
use Rattle.class_forest.specs.declared.merge.Merge.{Merge}
use Rattle.class_forest.specs.Classes.{class_of, moved, IsLog, IsMerge}
use Rattle.class_forest.specs.Joined.{IsJoined}
use Rattle.class_forest.specs.Joined.IsJoined.{equal, by_merge, back, along}
use Rattle.class_forest.proofs.Logs.{by_last, class_of-push}
use Rattle.class_forest.proofs.Members.{moved_other, moved_went, Joins-IsMerge}

-- more merges join what fewer do
pub IsJoined-more : (log : List Merge) (merge : Merge) (x y : ℕ) → IsJoined log x y → IsJoined (log ++ merge ∷ []) x y
IsJoined-more log merge x y (equal e) = equal e
IsJoined-more log merge x y (by_merge m among left right) = by_merge m (Contains-append_left log (merge ∷ []) m among) left right
IsJoined-more log merge x y (back joined) = back (IsJoined-more log merge y x joined)
IsJoined-more log merge x y (along z one other) = along z (IsJoined-more log merge x z one) (IsJoined-more log merge z y other)

ends_more : (nodes : ℕ) (log : List Merge) (merge : Merge) → IsMerge nodes log merge → class_of (log ++ merge ∷ []) merge.left ≡ class_of (log ++ merge ∷ []) merge.right
ends_more nodes log merge joins =
    let now = class_of-push log merge in
    elim (Joins-IsMerge nodes log merge joins) [
      | inl way ↦ now merge.left ∙ (moved_went merge (class_of log merge.left) (sym way.went) ∙ (way.stayed ∙ sym (now merge.right ∙ moved_other merge (class_of log merge.right) (λ e. joins.apart (sym (e ∙ way.went))))))
      | inr way ↦ now merge.left ∙ (moved_other merge (class_of log merge.left) (λ e. joins.apart (e ∙ way.went)) ∙ sym (now merge.right ∙ (moved_went merge (class_of log merge.right) (sym way.went) ∙ way.stayed)))
    ]

-- the two nodes of each merge have one class
pub class_of-ends : (nodes : ℕ) (log : List Merge) → IsLog nodes log → (merge : Merge) → Contains log merge → class_of log merge.left ≡ class_of log merge.right
class_of-ends nodes log valid =
    by_last nodes (λ log. (merge : Merge) → Contains log merge → class_of log merge.left ≡ class_of log merge.right) (λ merge among. absurd (omega (arith, among.1))) (λ log last _ joins known merge among. elim (Contains-push_cases log last merge among) [
      | inl before ↦ class_of-push log last merge.left ∙ (ap (moved last) (known merge before) ∙ sym (class_of-push log last merge.right))
      | inr it ↦ subst (λ m. class_of (log ++ last ∷ []) m.left ≡ class_of (log ++ last ∷ []) m.right) it (ends_more nodes log last joins)
    ]) log valid

joined_class : (log : List Merge) → ((merge : Merge) → Contains log merge → class_of log merge.left ≡ class_of log merge.right) → (x y : ℕ) → IsJoined log x y → class_of log x ≡ class_of log y
joined_class log ends x y (equal e) = ap (class_of log) e
joined_class log ends x y (by_merge m among left right) = ap (class_of log) left ∙ (ends m among ∙ sym (ap (class_of log) right))
joined_class log ends x y (back joined) = sym (joined_class log ends y x joined)
joined_class log ends x y (along z one other) = joined_class log ends x z one ∙ joined_class log ends z y other

-- nodes that merges join have one class
pub class_of-joined : (nodes : ℕ) (log : List Merge) → IsLog nodes log → (x y : ℕ) → IsJoined log x y → class_of log x ≡ class_of log y
class_of-joined nodes log valid = joined_class log (class_of-ends nodes log valid)

joined_more : (nodes : ℕ) (log : List Merge) (merge : Merge) → IsMerge nodes log merge → ((x : ℕ) → IsJoined log x (class_of log x)) → (x : ℕ) → IsJoined (log ++ merge ∷ []) x (class_of (log ++ merge ∷ []) x)
joined_more nodes log merge joins known x =
    let all = λ (node : ℕ). IsJoined-more log merge node (class_of log node) (known node) in
    let last : IsJoined (log ++ merge ∷ []) merge.left merge.right = by_merge merge (Contains-push log merge) refl refl in
    let now = class_of-push log merge x in
    elim (cases_eq (class_of log x) merge.went) [
      | inl it ↦ rw (now ∙ moved_went merge (class_of log x) it) (elim (Joins-IsMerge nodes log merge joins) [
        | inl way ↦ along (class_of log x) (all x) (subst (λ c. IsJoined (log ++ merge ∷ []) c merge.stayed) (sym (it ∙ way.went)) (along merge.left (back (all merge.left)) (along merge.right last (subst (λ c. IsJoined (log ++ merge ∷ []) merge.right c) (sym way.stayed) (all merge.right)))))
        | inr way ↦ along (class_of log x) (all x) (subst (λ c. IsJoined (log ++ merge ∷ []) c merge.stayed) (sym (it ∙ way.went)) (along merge.right (back (all merge.right)) (along merge.left (back last) (subst (λ c. IsJoined (log ++ merge ∷ []) merge.left c) (sym way.stayed) (all merge.left)))))
      ])
      | inr it ↦ rw (now ∙ moved_other merge (class_of log x) it) (all x)
    ]

-- a node and its class are joined
pub IsJoined-class_of : (nodes : ℕ) (log : List Merge) → IsLog nodes log → (x : ℕ) → IsJoined log x (class_of log x)
IsJoined-class_of nodes log valid = by_last nodes (λ log. (x : ℕ) → IsJoined log x (class_of log x)) (λ x. equal refl) (λ log merge _ joins known. joined_more nodes log merge joins known) log valid

-- nodes of one class are joined
pub IsJoined-same_class : (nodes : ℕ) (log : List Merge) → IsLog nodes log → (x y : ℕ) → class_of log x ≡ class_of log y → IsJoined log x y
IsJoined-same_class nodes log valid x y one = along (class_of log x) (IsJoined-class_of nodes log valid x) (subst (λ c. IsJoined log c y) (sym one) (back (IsJoined-class_of nodes log valid y)))
