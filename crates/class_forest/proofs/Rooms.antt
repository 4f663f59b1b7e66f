use Rattle.std.proofs.Common.{◌≡◌, ◌≢◌, ℕ, ◌+◌, ◌<◌, ◌≤◌, true, false, ◌||◌, eqb, inl, inr, List, [], ◌∷◌, ◌++◌, length, set, map, sym, ap, ◌∙◌, subst, arith}
use Rattle.std.specs.Cmp.{nat_eq_equiv}
use Rattle.std.specs.List.{IsDistinct, list_any}
use Rattle.std.proofs.lemmas.Bool.{cases_eq, eqb-true, false_from_ne_true, or_cases}
use Rattle.std.proofs.lemmas.List.{get_or-set_other, length-map, length-set, length_push, map-append}
use Rattle.std.proofs.lemmas.List.Folds.{list_any-append}
use Rattle.std.proofs.lemmas.List.Sums.{sum_by-set, sum_by_more_le}
use Rattle.std.proofs.lemmas.Map.Keys.{IsDistinct-push}
use Rattle.std.proofs.lemmas.Map.Steps.{length-le_from_distinct_below}
use Rattle.index_lists.specs.Lists.{item_count, items_of}
use Rattle.class_forest.specs.declared.merge.Merge.{Merge}
use Rattle.class_forest.specs.Classes.{class_of, IsLog, IsMerge}
use Rattle.class_forest.proofs.Logs.{by_last, class_of-push, IsLog-push}
use Rattle.class_forest.proofs.Members.{both_are_classes, both_within, moved_other, moved_went, went≢stayed}

-- the classes that went
abbrev went_of : List Merge → List ℕ
went_of log = map (λ merge. merge.went) log

-- they differ, and are nodes and no classes
record AreGone (nodes : ℕ) (log : List Merge) : Type 0 where
  once : IsDistinct eqb (went_of log)
  within : (class : ℕ) → list_any (eqb class) (went_of log) ≡ true → class < nodes
  gone : (class : ℕ) → list_any (eqb class) (went_of log) ≡ true → class_of log class ≢ class

went_of-push : (log : List Merge) (merge : Merge) → went_of (log ++ merge ∷ []) ≡ went_of log ++ merge.went ∷ []
went_of-push log merge = map-append (λ m. m.went) log (merge ∷ [])

went_cases : (log : List Merge) (merge : Merge) (P : ℕ → Type 0) → ((class : ℕ) → list_any (eqb class) (went_of log) ≡ true → P class) → P merge.went → (class : ℕ) → list_any (eqb class) (went_of (log ++ merge ∷ [])) ≡ true → P class
went_cases log merge P before last class is =
    let parts = sym (list_any-append (eqb class) (went_of log) (merge.went ∷ [])) ∙ (ap (list_any (eqb class)) (sym (went_of-push log merge)) ∙ is) in
    elim (or_cases (list_any (eqb class) (went_of log)) (eqb class merge.went || false) parts) [
      | inl known ↦ before class known
      | inr it ↦ elim (or_cases (eqb class merge.went) false it) [ inl same ↦ subst P (sym (eqb-true class merge.went same)) last | inr never ↦ cc ]
    ]

gone_after : (nodes : ℕ) (log : List Merge) (merge : Merge) → IsLog nodes log → IsMerge nodes log merge → (class : ℕ) → class_of log class ≢ class → class_of (log ++ merge ∷ []) class ≢ class
gone_after nodes log merge valid joins class gone same =
    let both = both_are_classes nodes log merge valid joins in
    let now = sym (class_of-push log merge class) ∙ same in
    elim (cases_eq (class_of log class) merge.went) [
      | inl it ↦ gone (subst (λ one. class_of log one ≡ one) (sym (moved_went merge (class_of log class) it) ∙ now) both.1)
      | inr it ↦ gone (sym (moved_other merge (class_of log class) it) ∙ now)
    ]

AreGone-more : (nodes : ℕ) (log : List Merge) (merge : Merge) → IsLog nodes log → IsMerge nodes log merge → AreGone nodes log → AreGone nodes (log ++ merge ∷ [])
AreGone-more nodes log merge valid joins known =
    let both = both_are_classes nodes log merge valid joins in
    let apart = went≢stayed nodes log merge joins in
    record {
      once = rw (went_of-push log merge) (IsDistinct-push nat_eq_equiv (went_of log) merge.went known.once (false_from_ne_true _ (λ is. known.gone merge.went is both.0)));
      within = went_cases log merge (λ class. class < nodes) known.within (both_within nodes log merge valid joins).0;
      gone = went_cases log merge (λ class. class_of (log ++ merge ∷ []) class ≢ class) (λ class is. gone_after nodes log merge valid joins class (known.gone class is)) (λ same. apart (sym same ∙ (class_of-push log merge merge.went ∙ moved_went merge (class_of log merge.went) both.0)));
    }

AreGone-none : (nodes : ℕ) → AreGone nodes []
unfolding IsDistinct
AreGone-none nodes = record { once = tt; within = λ class is. cc; gone = λ class is. cc }

-- there are no more merges than nodes
pub length-log : (nodes : ℕ) (log : List Merge) → IsLog nodes log → length log ≤ nodes
length-log nodes log valid =
    let gone = by_last nodes (AreGone nodes) (AreGone-none nodes) (AreGone-more nodes) log valid in
    subst (λ n. n ≤ nodes) (length-map log (λ m. m.went)) (length-le_from_distinct_below (went_of log) nodes gone.once gone.within)

-- there is room for one more that can come
pub room_for_merge : (nodes : ℕ) (log : List Merge) (merge : Merge) → IsLog nodes log → IsMerge nodes log merge → length log < nodes
room_for_merge nodes log merge valid joins =
    let le = length-log nodes (log ++ merge ∷ []) (IsLog-push nodes log merge valid joins) in
    let l = length_push log merge in
    omega arith

-- two lists together have no more items than all
pub two_lists : (lists : List (List ℕ)) (one other : ℕ) → one < length lists → other < length lists → one ≢ other → length (items_of lists one) + length (items_of lists other) ≤ item_count lists
two_lists lists one other one_in other_in apart =
    let without = sum_by-set length lists one [] [] one_in in
    let part = sum_by_more_le length (set lists one []) other [] (rw length-set other_in) in
    let same = rw (get_or-set_other lists one other [] [] (λ e. apart (sym e))) at part in
    omega arith
