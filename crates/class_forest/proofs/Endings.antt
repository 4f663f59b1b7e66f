use Rattle.std.proofs.Common.{◌≡◌, ◌≢◌, ℕ, ◌+◌, ◌<◌, ◌≤◌, suc, zero, cond, ltb, inl, inr, List, None, Some, [], ◌∷◌, ◌++◌, length, take, refl, sym, ap, ◌∙◌, subst, arith}
use Rattle.std.proofs.lemmas.Bool.{cases_eq, cases_lt, eq-eqb, ne_eqb, lt-ltb, le-ltb}
use Rattle.std.proofs.lemmas.Bool.Decides.{nat_tests}
use Rattle.std.proofs.lemmas.List.{length_push, take_all}
use Rattle.class_forest.specs.declared.merge.Merge.{Merge}
use Rattle.class_forest.specs.Classes.{class_of, members, IsLog, IsMerge}
use Rattle.class_forest.specs.Kept.{end_of, gone_in}
use Rattle.class_forest.proofs.Logs.{by_last, class_of-push}
use Rattle.class_forest.proofs.Members.{both_are_classes, members-gone, moved_other, moved_went, went≢stayed}

-- when classes go

pub end_of-append : (before after : List Merge) (class : ℕ) → end_of (before ++ after) class ≡ cond (ltb (end_of before class) (length before)) (end_of before class) (length before + end_of after class)
end_of-append [] after class = grind (arith, nat_tests)
end_of-append (m ∷ before) after class =
    let known = end_of-append before after class in
    elim (cases_eq class m.went) [
      | inl same ↦ rw (eq-eqb class m.went same) (grind (arith, nat_tests))
      | inr other ↦ rw (ne_eqb class m.went other) (grind (arith, nat_tests))
    ]

pub end_of-le : (log : List Merge) (class : ℕ) → end_of log class ≤ length log
end_of-le [] class = omega arith
end_of-le (m ∷ log) class =
    let known = end_of-le log class in
    elim (cases_eq class m.went) [ inl same ↦ rw (eq-eqb class m.went same) (omega arith) | inr other ↦ rw (ne_eqb class m.went other) (omega arith) ]

-- a class that went before goes when it did
pub end_of-push_gone : (log : List Merge) (merge : Merge) (class : ℕ) → end_of log class < length log → end_of (log ++ merge ∷ []) class ≡ end_of log class
end_of-push_gone log merge class gone = end_of-append log (merge ∷ []) class ∙ rw (lt-ltb _ _ gone) refl

-- the class that goes in the last merge
pub end_of-push_went : (log : List Merge) (merge : Merge) → end_of log merge.went ≡ length log → end_of (log ++ merge ∷ []) merge.went ≡ length log
end_of-push_went log merge still = end_of-append log (merge ∷ []) merge.went ∙ rw (le-ltb (end_of log merge.went) (length log) (omega arith), eq-eqb merge.went merge.went refl) (omega arith)

-- a class that is still there after it
pub end_of-push_still : (log : List Merge) (merge : Merge) (class : ℕ) → end_of log class ≡ length log → class ≢ merge.went → end_of (log ++ merge ∷ []) class ≡ length log + 1
end_of-push_still log merge class still other = end_of-append log (merge ∷ []) class ∙ rw (le-ltb (end_of log class) (length log) (omega arith), ne_eqb class merge.went other) (omega arith)

-- until it goes, a class is its own
pub class_of-before_end : (log : List Merge) (class k : ℕ) → k ≤ end_of log class → class_of (take k log) class ≡ class
class_of-before_end log class zero before = refl
class_of-before_end [] class (suc k) before = refl
class_of-before_end (m ∷ log) class (suc k) before =
    elim (cases_eq class m.went) [
      | inl same ↦ absurd (let e = rw (eq-eqb class m.went same) at before in omega arith)
      | inr other ↦
          let e = rw (ne_eqb class m.went other) at before in
          ap (class_of (take k log)) (moved_other m class other) ∙ class_of-before_end log class k (omega arith)
    ]

pub class_of-still : (log : List Merge) (class : ℕ) → end_of log class ≡ length log → class_of log class ≡ class
class_of-still log class still = rw (take_all (length log) log (omega arith)) at (class_of-before_end log class (length log) (omega arith))

gone_more : (nodes : ℕ) (log : List Merge) (merge : Merge) → IsLog nodes log → IsMerge nodes log merge → ((class : ℕ) → end_of log class < length log → class_of log class ≢ class) → (class : ℕ) → end_of (log ++ merge ∷ []) class < length (log ++ merge ∷ []) → class_of (log ++ merge ∷ []) class ≢ class
gone_more nodes log merge valid joins known class gone same =
    let apart = went≢stayed nodes log merge joins in
    let both = both_are_classes nodes log merge valid joins in
    let now = sym (class_of-push log merge class) ∙ same in
    let le = end_of-le log class in
    elim (cases_lt (end_of log class) (length log)) [
      | inl before ↦ elim (cases_eq (class_of log class) merge.went) [
        | inl it ↦
            let own : merge.stayed ≡ class = sym (moved_went merge (class_of log class) it) ∙ now in
            known class before (subst (λ one. class_of log one ≡ one) own both.1)
        | inr it ↦ known class before (sym (moved_other merge (class_of log class) it) ∙ now)
      ]
      | inr after ↦ elim (cases_eq class merge.went) [
        | inl it ↦
            let own : class_of log class ≡ merge.went = class_of-still log class (omega arith) ∙ it in
            apart (sym it ∙ (sym now ∙ moved_went merge (class_of log class) own))
        | inr it ↦
            let e = end_of-push_still log merge class (omega arith) it in
            let l = length_push log merge in
            absurd (omega arith)
      ]
    ]

-- a class that went is no more
pub gone_is_no_class : (nodes : ℕ) (log : List Merge) → IsLog nodes log → (class : ℕ) → end_of log class < length log → class_of log class ≢ class
gone_is_no_class nodes log valid =
    by_last nodes (λ log. (class : ℕ) → end_of log class < length log → class_of log class ≢ class) (λ class gone. absurd (omega arith)) (λ log merge front joins known. gone_more nodes log merge front joins known) log valid

-- a class that is its own is still there
pub class_is_still : (nodes : ℕ) (log : List Merge) → IsLog nodes log → (class : ℕ) → class_of log class ≡ class → end_of log class ≡ length log
class_is_still nodes log valid class own =
    let le = end_of-le log class in
    elim (cases_lt (end_of log class) (length log)) [ inl gone ↦ absurd (gone_is_no_class nodes log valid class gone own) | inr still ↦ omega arith ]

gone_in_at : (log : List Merge) (class : ℕ) → end_of log class < length log → gone_in log class ≡ Some (end_of log class)
gone_in_at log class gone = rw (lt-ltb (end_of log class) (length log) gone) refl

pub gone_in_still : (log : List Merge) (class : ℕ) → end_of log class ≡ length log → gone_in log class ≡ None
gone_in_still log class still = rw (le-ltb (end_of log class) (length log) (omega arith)) refl

-- what is kept of when classes went, after a merge

pub gone_in-push_went : (nodes : ℕ) (log : List Merge) (merge : Merge) → IsLog nodes log → IsMerge nodes log merge → gone_in (log ++ merge ∷ []) merge.went ≡ Some (length log)
gone_in-push_went nodes log merge valid joins =
    let still = class_is_still nodes log valid merge.went (both_are_classes nodes log merge valid joins).0 in
    let e = end_of-push_went log merge still in
    let l = length_push log merge in
    gone_in_at (log ++ merge ∷ []) merge.went (omega arith) ∙ ap Some e

pub gone_in-push_other : (log : List Merge) (merge : Merge) (class : ℕ) → class ≢ merge.went → gone_in (log ++ merge ∷ []) class ≡ gone_in log class
gone_in-push_other log merge class other =
    let l = length_push log merge in
    let le = end_of-le log class in
    elim (cases_lt (end_of log class) (length log)) [
      | inl gone ↦ let e = end_of-push_gone log merge class gone in gone_in_at (log ++ merge ∷ []) class (omega arith) ∙ (ap Some e ∙ sym (gone_in_at log class gone))
      | inr still ↦ let e = end_of-push_still log merge class (omega arith) other in gone_in_still (log ++ merge ∷ []) class (omega arith) ∙ sym (gone_in_still log class (omega arith))
    ]

-- from what is kept of when a class went

pub members-gone_in : (nodes : ℕ) (log : List Merge) → IsLog nodes log → (class number : ℕ) → gone_in log class ≡ Some number → length (members log class) ≡ 0
members-gone_in nodes log valid class number is =
    let le = end_of-le log class in
    elim (cases_lt (end_of log class) (length log)) [
      | inl gone ↦ rw (members-gone nodes log valid class (gone_is_no_class nodes log valid class gone)) refl
      | inr still ↦ let e : None ≡ Some number = sym (gone_in_still log class (omega arith)) ∙ is in cc
    ]

pub class_of-gone_in : (log : List Merge) (class : ℕ) → gone_in log class ≡ None → class_of log class ≡ class
class_of-gone_in log class is =
    let le = end_of-le log class in
    elim (cases_lt (end_of log class) (length log)) [
      | inl gone ↦ let e : None ≡ Some (end_of log class) = sym is ∙ gone_in_at log class gone in cc
      | inr still ↦ class_of-still log class (omega arith)
    ]

pub end_of-gone_in : (log : List Merge) (class number : ℕ) → gone_in log class ≡ Some number → end_of log class ≡ number
end_of-gone_in log class number is =
    let le = end_of-le log class in
    elim (cases_lt (end_of log class) (length log)) [
      | inl gone ↦ let e : Some (end_of log class) ≡ Some number = sym (gone_in_at log class gone) ∙ is in cc
      | inr still ↦ let e : None ≡ Some number = sym (gone_in_still log class (omega arith)) ∙ is in cc
    ]

pub end_of-still_in : (log : List Merge) (class : ℕ) → gone_in log class ≡ None → end_of log class ≡ length log
end_of-still_in log class is =
    let le = end_of-le log class in
    elim (cases_lt (end_of log class) (length log)) [
      | inl gone ↦ let e : None ≡ Some (end_of log class) = sym is ∙ gone_in_at log class gone in cc
      | inr still ↦ omega arith
    ]
