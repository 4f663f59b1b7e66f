use Rattle.std.proofs.Common.{◌≡◌, ◌≢◌, ℕ, ◌+◌, ◌<◌, ◌≤◌, true, false, cond, ◌||◌, eqb, ltb, ◌⊎◌, inl, inr, List, [], ◌∷◌, ◌++◌, length, reverse, refl, sym, ap, ◌∙◌, arith, length-append}
use Rattle.std.proofs.Math.Bool.{or-false}
use Rattle.std.proofs.lemmas.Bool.{cases_eq, cases_lt, eq-eqb, ne_eqb, lt-ltb, le-ltb, or_left, false≢true}
use Rattle.std.proofs.lemmas.Bool.Decides.{nat_tests}
use Rattle.std.proofs.lemmas.List.{length-reverse}
use Rattle.std.proofs.lemmas.List.Folds.{list_any-append}
use Rattle.std.proofs.lemmas.List.Sorted.{IsPermutation-reverse, list_any-IsPermutation}
use Rattle.index_lists.specs.Lists.{has}
use Rattle.class_forest.specs.declared.merge.Merge.{Merge}
use Rattle.class_forest.specs.Classes.{class_of, members, merge_of, merge_of_classes, moved, IsLog, IsMerge}
use Rattle.class_forest.specs.Kept.{kept_size, sizes_after, sizes_from}
use Rattle.class_forest.proofs.Logs.{by_last, class_of-push, members-push}

-- the merge moves one class into another, which is as large
pub record Joins (log : List Merge) (merge : Merge) (one other : ℕ) : Type 0 where
  pub went : merge.went ≡ one
  pub stayed : merge.stayed ≡ other
  pub sizes : length (members log one) ≤ length (members log other)

Joins-cases : (log : List Merge) (merge : Merge) (one other left right reason : ℕ) → merge ≡ merge_of_classes log one other left right reason → Joins log merge one other ⊎ Joins log merge other one
Joins-cases log merge one other left right reason is =
    elim (cases_lt (length (members log one)) (length (members log other))) [
      | inl less ↦ let e = rw (lt-ltb _ _ less) at is in inl (record { went = ap (λ m. m.went) e; stayed = ap (λ m. m.stayed) e; sizes = omega arith })
      | inr more ↦ let e = rw (le-ltb _ _ more) at is in inr (record { went = ap (λ m. m.went) e; stayed = ap (λ m. m.stayed) e; sizes = omega arith })
    ]

-- one of the two nodes' classes goes into the other's
pub Joins-IsMerge : (nodes : ℕ) (log : List Merge) (merge : Merge) → IsMerge nodes log merge → Joins log merge (class_of log merge.left) (class_of log merge.right) ⊎ Joins log merge (class_of log merge.right) (class_of log merge.left)
Joins-IsMerge nodes log merge joins = Joins-cases log merge _ _ _ _ _ joins.is

-- the two classes differ
pub went≢stayed : (nodes : ℕ) (log : List Merge) (merge : Merge) → IsMerge nodes log merge → merge.went ≢ merge.stayed
went≢stayed nodes log merge joins =
    elim (Joins-IsMerge nodes log merge joins) [ inl way ↦ λ same. joins.apart (sym way.went ∙ (same ∙ way.stayed)) | inr way ↦ λ same. joins.apart (sym way.stayed ∙ (sym same ∙ way.went)) ]

pub moved_went : (merge : Merge) (class : ℕ) → class ≡ merge.went → moved merge class ≡ merge.stayed
moved_went merge class same = ap (λ test. cond test merge.stayed class) (eq-eqb class merge.went same)

pub moved_other : (merge : Merge) (class : ℕ) → class ≢ merge.went → moved merge class ≡ class
moved_other merge class other = ap (λ test. cond test merge.stayed class) (ne_eqb class merge.went other)

-- what holds of the classes of nodes holds of the two that are merged
pub of_both : (nodes : ℕ) (P : ℕ → Type 0) (log : List Merge) (merge : Merge) → ((node : ℕ) → node < nodes → P (class_of log node)) → IsMerge nodes log merge → P merge.went × P merge.stayed
of_both nodes P log merge known joins =
    elim (Joins-IsMerge nodes log merge joins) [
      | inl way ↦ (rw way.went (known merge.left joins.left_in), rw way.stayed (known merge.right joins.right_in))
      | inr way ↦ (rw way.went (known merge.right joins.right_in), rw way.stayed (known merge.left joins.left_in))
    ]

within_more : (nodes : ℕ) (log : List Merge) (merge : Merge) → IsMerge nodes log merge → ((node : ℕ) → node < nodes → class_of log node < nodes) → (node : ℕ) → node < nodes → class_of (log ++ merge ∷ []) node < nodes
within_more nodes log merge joins known node within =
    elim (cases_eq (class_of log node) merge.went) [
      | inl same ↦ rw (class_of-push log merge node ∙ moved_went merge (class_of log node) same) (of_both nodes (λ class. class < nodes) log merge known joins).1
      | inr other ↦ rw (class_of-push log merge node ∙ moved_other merge (class_of log node) other) (known node within)
    ]

-- the class of a node is one of the nodes
pub class_of-within : (nodes : ℕ) (log : List Merge) → IsLog nodes log → (node : ℕ) → node < nodes → class_of log node < nodes
class_of-within nodes log valid =
    by_last nodes (λ log. (node : ℕ) → node < nodes → class_of log node < nodes) (λ node within. within) (λ log merge _ joins known. within_more nodes log merge joins known) log valid

stays_more : (nodes : ℕ) (log : List Merge) (merge : Merge) → IsMerge nodes log merge → ((node : ℕ) → class_of log (class_of log node) ≡ class_of log node) → (node : ℕ) → class_of (log ++ merge ∷ []) (class_of (log ++ merge ∷ []) node) ≡ class_of (log ++ merge ∷ []) node
stays_more nodes log merge joins known node =
    let apart = went≢stayed nodes log merge joins in
    let stayed : class_of log merge.stayed ≡ merge.stayed = (of_both nodes (λ class. class_of log class ≡ class) log merge (λ one _. known one) joins).1 in
    elim (cases_eq (class_of log node) merge.went) [
      | inl same ↦ rw (class_of-push log merge node ∙ moved_went merge (class_of log node) same) (class_of-push log merge merge.stayed ∙ (ap (moved merge) stayed ∙ moved_other merge merge.stayed (λ e. apart (sym e))))
      | inr other ↦ rw (class_of-push log merge node ∙ moved_other merge (class_of log node) other) (class_of-push log merge (class_of log node) ∙ (ap (moved merge) (known node) ∙ moved_other merge (class_of log node) other))
    ]

-- the class of a node is its own class
pub class_of-class_of : (nodes : ℕ) (log : List Merge) → IsLog nodes log → (node : ℕ) → class_of log (class_of log node) ≡ class_of log node
class_of-class_of nodes log valid =
    by_last nodes (λ log. (node : ℕ) → class_of log (class_of log node) ≡ class_of log node) (λ node. refl) (λ log merge _ joins known. stays_more nodes log merge joins known) log valid

-- the two that are merged are classes
pub both_are_classes : (nodes : ℕ) (log : List Merge) (merge : Merge) → IsLog nodes log → IsMerge nodes log merge → (class_of log merge.went ≡ merge.went) × (class_of log merge.stayed ≡ merge.stayed)
both_are_classes nodes log merge valid joins = of_both nodes (λ class. class_of log class ≡ class) log merge (λ one _. class_of-class_of nodes log valid one) joins

-- and nodes
pub both_within : (nodes : ℕ) (log : List Merge) (merge : Merge) → IsLog nodes log → IsMerge nodes log merge → (merge.went < nodes) × (merge.stayed < nodes)
both_within nodes log merge valid joins = of_both nodes (λ class. class < nodes) log merge (class_of-within nodes log valid) joins

-- the class that goes is no larger
pub went_smaller : (nodes : ℕ) (log : List Merge) (merge : Merge) → IsMerge nodes log merge → length (members log merge.went) ≤ length (members log merge.stayed)
went_smaller nodes log merge joins =
    elim (Joins-IsMerge nodes log merge joins) [ inl way ↦ rw (way.went, way.stayed) way.sizes | inr way ↦ rw (way.went, way.stayed) way.sizes ]

-- the members after a merge

pub members-push_went : (log : List Merge) (merge : Merge) → merge.went ≢ merge.stayed → members (log ++ merge ∷ []) merge.went ≡ []
members-push_went log merge apart = members-push log merge merge.went ∙ rw (ne_eqb merge.went merge.stayed apart, eq-eqb merge.went merge.went refl) refl

pub members-push_stayed : (log : List Merge) (merge : Merge) → members (log ++ merge ∷ []) merge.stayed ≡ reverse (members log merge.went) ++ members log merge.stayed
members-push_stayed log merge = members-push log merge merge.stayed ∙ rw (eq-eqb merge.stayed merge.stayed refl) refl

pub members-push_other : (log : List Merge) (merge : Merge) (class : ℕ) → class ≢ merge.went → class ≢ merge.stayed → members (log ++ merge ∷ []) class ≡ members log class
members-push_other log merge class went stayed = members-push log merge class ∙ rw (ne_eqb class merge.stayed stayed, ne_eqb class merge.went went) refl

has-reverse : (node : ℕ) (items : List ℕ) → has node (reverse items) ≡ has node items
has-reverse node items = sym (list_any-IsPermutation (λ x. eqb x node) items (reverse items) (IsPermutation-reverse items))

has-append : (node : ℕ) (items more : List ℕ) → has node (items ++ more) ≡ (has node items || has node more)
has-append node items more = list_any-append (λ x. eqb x node) items more

true_at : (a b c d : ℕ) → a ≢ b → (eqb a d || eqb b d) ≡ eqb b (cond (eqb d a) b d)
true_at a b c d apart = grind (arith, nat_tests)

has_more : (nodes : ℕ) (log : List Merge) (merge : Merge) → IsMerge nodes log merge → ((class node : ℕ) → has node (members log class) ≡ eqb class (class_of log node)) → (class node : ℕ) → has node (members (log ++ merge ∷ []) class) ≡ eqb class (class_of (log ++ merge ∷ []) node)
has_more nodes log merge joins known class node =
    let apart = went≢stayed nodes log merge joins in
    let now = class_of-push log merge node in
    elim (cases_eq class merge.stayed) [
      | inl same ↦ rw (same, members-push_stayed log merge, has-append node (reverse (members log merge.went)) (members log merge.stayed), has-reverse node (members log merge.went), known merge.went node, known merge.stayed node, now) (true_at merge.went merge.stayed class (class_of log node) apart)
      | inr stayed ↦ elim (cases_eq class merge.went) [
        | inl same ↦ rw (same, members-push_went log merge apart, now) (elim (cases_eq (class_of log node) merge.went) [
          | inl it ↦ rw (moved_went merge (class_of log node) it) (sym (ne_eqb merge.went merge.stayed apart))
          | inr it ↦ rw (moved_other merge (class_of log node) it) (sym (ne_eqb merge.went (class_of log node) (λ e. it (sym e))))
        ])
        | inr went ↦ rw (members-push_other log merge class went stayed, known class node, now) (elim (cases_eq (class_of log node) merge.went) [
          | inl it ↦ rw (moved_went merge (class_of log node) it) (ne_eqb class (class_of log node) (λ e. went (e ∙ it)) ∙ sym (ne_eqb class merge.stayed stayed))
          | inr it ↦ rw (moved_other merge (class_of log node) it) refl
        ])
      ]
    ]

-- the members of a class are the nodes whose class it is
pub has-members : (nodes : ℕ) (log : List Merge) → IsLog nodes log → (class node : ℕ) → has node (members log class) ≡ eqb class (class_of log node)
has-members nodes log valid =
    by_last nodes (λ log. (class node : ℕ) → has node (members log class) ≡ eqb class (class_of log node)) (λ class node. or-false (eqb class node)) (λ log merge _ joins known. has_more nodes log merge joins known) log valid

nil_from_has : (items : List ℕ) → ((item : ℕ) → has item items ≡ false) → items ≡ []
nil_from_has [] none = refl
nil_from_has (x ∷ items) none = absurd (false≢true (sym (none x) ∙ or_left (eqb x x) (has x items) (eq-eqb x x refl)))

-- a class that went has no members
pub members-gone : (nodes : ℕ) (log : List Merge) → IsLog nodes log → (class : ℕ) → class_of log class ≢ class → members log class ≡ []
members-gone nodes log valid class gone =
    nil_from_has (members log class) (λ node. has-members nodes log valid class node ∙ ne_eqb class (class_of log node) (λ e. gone (ap (class_of log) e ∙ (class_of-class_of nodes log valid node ∙ sym e))))

-- the sizes

sizes_from-push : (sizes : ℕ → ℕ) (log : List Merge) (merge : Merge) (class : ℕ) → sizes_from sizes (log ++ merge ∷ []) class ≡ sizes_after (sizes_from sizes log) merge class
sizes_from-push sizes [] merge class = refl
sizes_from-push sizes (m ∷ log) merge class = sizes_from-push (sizes_after sizes m) log merge class

pub kept_size-push_stayed : (log : List Merge) (merge : Merge) → kept_size (log ++ merge ∷ []) merge.stayed ≡ kept_size log merge.stayed + kept_size log merge.went
kept_size-push_stayed log merge = sizes_from-push (λ _. 1) log merge merge.stayed ∙ rw (eq-eqb merge.stayed merge.stayed refl) refl

pub kept_size-push_other : (log : List Merge) (merge : Merge) (class : ℕ) → class ≢ merge.stayed → kept_size (log ++ merge ∷ []) class ≡ kept_size log class
kept_size-push_other log merge class apart = sizes_from-push (λ _. 1) log merge class ∙ rw (ne_eqb class merge.stayed apart) refl

size_more : (nodes : ℕ) (log : List Merge) (merge : Merge) → IsLog nodes log → IsMerge nodes log merge → ((class : ℕ) → class_of log class ≡ class → length (members log class) ≡ kept_size log class) → (class : ℕ) → class_of (log ++ merge ∷ []) class ≡ class → length (members (log ++ merge ∷ []) class) ≡ kept_size (log ++ merge ∷ []) class
size_more nodes log merge valid joins known class is =
    let apart = went≢stayed nodes log merge joins in
    let both = both_are_classes nodes log merge valid joins in
    let now = sym (class_of-push log merge class) ∙ is in
    elim (cases_eq class merge.stayed) [
      | inl same ↦ rw (same, members-push_stayed log merge, kept_size-push_stayed log merge, length-append, length-reverse, known merge.went both.0, known merge.stayed both.1) (omega arith)
      | inr stayed ↦ elim (cases_eq (class_of log class) merge.went) [
        | inl it ↦ absurd (stayed (sym now ∙ moved_went merge (class_of log class) it))
        | inr it ↦
            let own : class_of log class ≡ class = sym (moved_other merge (class_of log class) it) ∙ now in
            rw (members-push_other log merge class (λ e. it (own ∙ e)) stayed, kept_size-push_other log merge class stayed) (known class own)
      ]
    ]

-- the size that is kept of a class is how many members it has
pub length-members : (nodes : ℕ) (log : List Merge) → IsLog nodes log → (class : ℕ) → class_of log class ≡ class → length (members log class) ≡ kept_size log class
length-members nodes log valid =
    by_last nodes (λ log. (class : ℕ) → class_of log class ≡ class → length (members log class) ≡ kept_size log class) (λ class _. refl) (λ log merge front joins known. size_more nodes log merge front joins known) log valid

left-merge_of : (log : List Merge) (one other left right reason : ℕ) → ((merge_of_classes log one other left right reason).left ≡ left) × ((merge_of_classes log one other left right reason).right ≡ right) × ((merge_of_classes log one other left right reason).reason ≡ reason)
left-merge_of log one other left right reason =
    elim (ltb (length (members log one)) (length (members log other))) as (λ test. let merge : Merge = cond test (record { left = left; right = right; went = one; stayed = other; reason = reason }) (record { left = left; right = right; went = other; stayed = one; reason = reason }) in (merge.left ≡ left) × (merge.right ≡ right) × (merge.reason ≡ reason)) [ true ↦ (refl, refl, refl) | false ↦ (refl, refl, refl) ]

-- the merge of two nodes that are apart can come
pub IsMerge-merge_of : (nodes : ℕ) (log : List Merge) (left right reason : ℕ) (merge : Merge) → left < nodes → right < nodes → class_of log left ≢ class_of log right → merge ≡ merge_of log left right reason → IsMerge nodes log merge
IsMerge-merge_of nodes log left right reason merge left_in right_in apart is =
    let parts = left-merge_of log (class_of log left) (class_of log right) left right reason in
    let left_is : merge.left ≡ left = ap (λ m. m.left) is ∙ parts.0 in
    let right_is : merge.right ≡ right = ap (λ m. m.right) is ∙ parts.1 in
    let reason_is : merge.reason ≡ reason = ap (λ m. m.reason) is ∙ parts.2 in
    record {
      left_in = rw left_is left_in;
      right_in = rw right_is right_in;
      apart = λ same. apart (ap (class_of log) (sym left_is) ∙ (same ∙ ap (class_of log) right_is));
      is = is ∙ (ap (λ node. merge_of log node right reason) (sym left_is) ∙ (ap (λ node. merge_of log merge.left node reason) (sym right_is) ∙ ap (λ number. merge_of log merge.left merge.right number) (sym reason_is)));
    }
