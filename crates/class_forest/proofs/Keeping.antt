use Rattle.std.proofs.Common.{replicate, ◌≡◌, ◌≢◌, ℕ, ◌+◌, ◌-◌, ◌<◌, ◌≤◌, suc, zero, true, false, cond, eqb, inl, inr, List, Option, None, Some, [], ◌∷◌, ◌++◌, length, get_or, set, take, drop, reverse, refl, sym, ap, ◌∙◌, arith, length-append}
use Rattle.std.proofs.lemmas.Bool.{cases_eq, eq-eqb, ne_eqb, false≢true}
use Rattle.std.proofs.lemmas.List.{append-nil, drop_all, drop_at, get_or-replicate, get_or-set_other, get_or-set_same, get_or_read, length-replicate, length-reverse, length-set, reverse-reverse, take_all, take_at}
use Rattle.std.proofs.lemmas.List.FromFn.{get_or-map-range_with_len}
use Rattle.index_lists.specs.Lists.{each_alone, has, item_count, items_of, list_of}
use Rattle.class_forest.specs.declared.merge.Merge.{Merge}
use Rattle.class_forest.specs.Classes.{class_of, members, IsLog, IsMerge}
use Rattle.class_forest.specs.Kept.{kept_size, IsKept}
use Rattle.class_forest.proofs.Endings.{class_is_still, gone_in_still, gone_in-push_other, gone_in-push_went}
use Rattle.class_forest.proofs.Logs.{IsLog-at, IsLog-front, IsLog-push}
use Rattle.class_forest.proofs.Members.{both_are_classes, both_within, class_of-class_of, class_of-within, has-members, kept_size-push_other, kept_size-push_stayed, length-members, members-push_other, members-push_stayed, members-push_went, went≢stayed}
use Rattle.class_forest.proofs.Rooms.{two_lists}
use Rattle.std.proofs.lemmas.List.Sums.{sum_by_more_le}

-- the first so many items of one list stand at the front of another, last to first
pub record Moves (count from to : ℕ) (old new : List (List ℕ)) : Type 0 where
  pub source : items_of new from ≡ drop count (items_of old from)
  pub target : items_of new to ≡ reverse (take count (items_of old from)) ++ items_of old to
  pub others : (list : ℕ) → list ≢ from → list ≢ to → items_of new list ≡ items_of old list
  pub list_count : length new ≡ length old
  pub item_count : item_count new ≡ item_count old

list_of-at : (lists : List (List ℕ)) (item class : ℕ) → has item (items_of lists class) ≡ true → ((list : ℕ) → list < class → has item (items_of lists list) ≡ false) → list_of lists item ≡ class
list_of-at [] item class is none = absurd (false≢true is)
list_of-at (xs ∷ lists) item zero is none = ap (λ test. cond test 0 (suc (list_of lists item))) is
list_of-at (xs ∷ lists) item (suc class) is none =
    ap (λ test. cond test 0 (suc (list_of lists item))) (none 0 (omega arith)) ∙ ap suc (list_of-at lists item class is (λ list before. none (suc list) (omega arith)))

-- the number of the list that a node is in is its class
pub list_of-kept : (nodes : ℕ) (log : List Merge) (lists : List (List ℕ)) (sizes : List ℕ) (gone : List (Option ℕ)) (node : ℕ) → IsKept nodes log lists sizes gone → node < nodes → list_of lists node ≡ class_of log node
list_of-kept nodes log lists sizes gone node kept within =
    let class_in = class_of-within nodes log kept.valid node within in
    let has_node : (class : ℕ) → class < nodes → has node (items_of lists class) ≡ eqb class (class_of log node) = λ class below. ap (has node) (kept.members_at class below) ∙ has-members nodes log kept.valid class node in
    list_of-at lists node (class_of log node) (has_node (class_of log node) class_in ∙ eq-eqb (class_of log node) (class_of log node) refl) (λ list before. has_node list (omega arith) ∙ ne_eqb list (class_of log node) (λ same. omega arith))

-- what is kept at the two classes of a merge that comes next
pub record Sides (nodes : ℕ) (log : List Merge) (lists : List (List ℕ)) (sizes : List ℕ) (merge : Merge) : Type 0 where
  pub went_in : merge.went < nodes
  pub stayed_in : merge.stayed < nodes
  pub went_list : merge.went < length lists
  pub stayed_list : merge.stayed < length lists
  pub apart : merge.went ≢ merge.stayed
  pub went_size : length (items_of lists merge.went) ≡ kept_size log merge.went
  pub stayed_size : length (items_of lists merge.stayed) ≡ kept_size log merge.stayed
  pub both_sizes : kept_size log merge.stayed + kept_size log merge.went ≤ nodes

pub Sides-kept : (nodes : ℕ) (log : List Merge) (lists : List (List ℕ)) (sizes : List ℕ) (gone : List (Option ℕ)) (merge : Merge) → IsKept nodes log lists sizes gone → IsMerge nodes log merge → Sides nodes log lists sizes merge
Sides-kept nodes log lists sizes gone merge kept joins =
    let within = both_within nodes log merge kept.valid joins in
    let classes = both_are_classes nodes log merge kept.valid joins in
    let count = kept.list_count in
    let went : length (items_of lists merge.went) ≡ kept_size log merge.went = ap length (kept.members_at merge.went within.0) ∙ length-members nodes log kept.valid merge.went classes.0 in
    let stayed : length (items_of lists merge.stayed) ≡ kept_size log merge.stayed = ap length (kept.members_at merge.stayed within.1) ∙ length-members nodes log kept.valid merge.stayed classes.1 in
    let apart = went≢stayed nodes log merge joins in
    let most = two_lists lists merge.stayed merge.went (omega arith) (omega arith) (λ same. apart (sym same)) in
    let all = kept.item_count in
    record {
      went_in = within.0;
      stayed_in = within.1;
      went_list = omega arith;
      stayed_list = omega arith;
      apart = apart;
      went_size = went;
      stayed_size = stayed;
      both_sizes = omega arith;
    }

-- what is kept after one more merge
pub IsKept-join : (nodes : ℕ) (log : List Merge) (lists new_lists : List (List ℕ)) (sizes : List ℕ) (gone : List (Option ℕ)) (merge : Merge) (went_size stayed_size number : ℕ) → IsKept nodes log lists sizes gone → IsMerge nodes log merge → went_size ≡ kept_size log merge.went → stayed_size ≡ kept_size log merge.stayed → number ≡ length log → Moves went_size merge.went merge.stayed lists new_lists → IsKept nodes (log ++ merge ∷ []) new_lists (set sizes merge.stayed (stayed_size + went_size)) (set gone merge.went (Some number))
IsKept-join nodes log lists new_lists sizes gone merge went_size stayed_size number kept joins went_is stayed_is number_is moves =
    let sides = Sides-kept nodes log lists sizes gone merge kept joins in
    let enough : length (items_of lists merge.went) ≤ went_size = omega (arith, sides.went_size) in
    record {
      valid = IsLog-push nodes log merge kept.valid joins;
      list_count = moves.list_count ∙ kept.list_count;
      item_count = moves.item_count ∙ kept.item_count;
      size_count = length-set sizes merge.stayed (stayed_size + went_size) ∙ kept.size_count;
      gone_count = length-set gone merge.went (Some number) ∙ kept.gone_count;
      members_at = λ class within. elim (cases_eq class merge.stayed) [
        | inl same ↦ rw (same, moves.target, members-push_stayed log merge, take_all went_size (items_of lists merge.went) enough, kept.members_at merge.went sides.went_in, kept.members_at merge.stayed sides.stayed_in) refl
        | inr stayed ↦ elim (cases_eq class merge.went) [
          | inl same ↦ rw (same, moves.source, members-push_went log merge sides.apart) (drop_all went_size (items_of lists merge.went) enough)
          | inr went ↦ moves.others class went stayed ∙ (kept.members_at class within ∙ sym (members-push_other log merge class went stayed))
        ]
      ];
      size_at = λ class within. elim (cases_eq class merge.stayed) [
        | inl same ↦ rw (same, kept_size-push_stayed log merge, ← went_is, ← stayed_is) (get_or-set_same sizes merge.stayed (stayed_size + went_size) 0 (rw kept.size_count sides.stayed_in))
        | inr stayed ↦ get_or-set_other sizes merge.stayed class (stayed_size + went_size) 0 stayed ∙ (kept.size_at class within ∙ sym (kept_size-push_other log merge class stayed))
      ];
      gone_at = λ class within. elim (cases_eq class merge.went) [
        | inl same ↦ rw (same, number_is) (get_or-set_same gone merge.went (Some (length log)) None (rw kept.gone_count sides.went_in) ∙ sym (gone_in-push_went nodes log merge kept.valid joins))
        | inr went ↦ get_or-set_other gone merge.went class (Some number) None went ∙ (kept.gone_at class within ∙ sym (gone_in-push_other log merge class went))
      ];
    }

-- what is kept at the two classes of the last merge
pub record LastSides (nodes : ℕ) (log : List Merge) (lists : List (List ℕ)) (merge : Merge) : Type 0 where
  pub valid : IsLog nodes log
  pub joins : IsMerge nodes log merge
  pub went_in : merge.went < nodes
  pub stayed_in : merge.stayed < nodes
  pub went_list : merge.went < length lists
  pub stayed_list : merge.stayed < length lists
  pub apart : merge.went ≢ merge.stayed
  pub went_items : items_of lists merge.went ≡ []
  pub stayed_items : items_of lists merge.stayed ≡ reverse (members log merge.went) ++ members log merge.stayed
  pub went_size : length (members log merge.went) ≡ kept_size log merge.went
  pub went_kept : kept_size (log ++ merge ∷ []) merge.went ≡ kept_size log merge.went
  pub stayed_kept : kept_size (log ++ merge ∷ []) merge.stayed ≡ kept_size log merge.stayed + kept_size log merge.went
  pub enough : kept_size log merge.went ≤ length (items_of lists merge.stayed)

pub LastSides-kept : (nodes : ℕ) (log : List Merge) (lists : List (List ℕ)) (sizes : List ℕ) (gone : List (Option ℕ)) (merge : Merge) → IsKept nodes (log ++ merge ∷ []) lists sizes gone → LastSides nodes log lists merge
LastSides-kept nodes log lists sizes gone merge kept =
    let valid = IsLog-front nodes log (merge ∷ []) kept.valid in
    let joins = IsLog-at nodes log [] merge kept.valid in
    let within = both_within nodes log merge valid joins in
    let classes = both_are_classes nodes log merge valid joins in
    let apart = went≢stayed nodes log merge joins in
    let count = kept.list_count in
    let size = length-members nodes log valid merge.went classes.0 in
    let items : items_of lists merge.stayed ≡ reverse (members log merge.went) ++ members log merge.stayed = kept.members_at merge.stayed within.1 ∙ members-push_stayed log merge in
    record {
      valid = valid;
      joins = joins;
      went_in = within.0;
      stayed_in = within.1;
      went_list = omega arith;
      stayed_list = omega arith;
      apart = apart;
      went_items = kept.members_at merge.went within.0 ∙ members-push_went log merge apart;
      stayed_items = items;
      went_size = size;
      went_kept = kept_size-push_other log merge merge.went apart;
      stayed_kept = kept_size-push_stayed log merge;
      enough = rw (items, length-append, length-reverse) (omega arith);
    }

-- what is kept after the last merge was taken back
pub IsKept-undo : (nodes : ℕ) (log : List Merge) (lists new_lists : List (List ℕ)) (sizes : List ℕ) (gone : List (Option ℕ)) (merge : Merge) (went_size stayed_size : ℕ) → IsKept nodes (log ++ merge ∷ []) lists sizes gone → went_size ≡ kept_size (log ++ merge ∷ []) merge.went → stayed_size ≡ kept_size (log ++ merge ∷ []) merge.stayed → Moves went_size merge.stayed merge.went lists new_lists → IsKept nodes log new_lists (set sizes merge.stayed (stayed_size - went_size)) (set gone merge.went None)
IsKept-undo nodes log lists new_lists sizes gone merge went_size stayed_size kept went_is stayed_is moves =
    let sides = LastSides-kept nodes log lists sizes gone merge kept in
    let long : length (reverse (members log merge.went)) ≡ went_size = length-reverse (members log merge.went) ∙ (sides.went_size ∙ (sym sides.went_kept ∙ sym went_is)) in
    record {
      valid = sides.valid;
      list_count = moves.list_count ∙ kept.list_count;
      item_count = moves.item_count ∙ kept.item_count;
      size_count = length-set sizes merge.stayed (stayed_size - went_size) ∙ kept.size_count;
      gone_count = length-set gone merge.went None ∙ kept.gone_count;
      members_at = λ class within. elim (cases_eq class merge.stayed) [
        | inl same ↦ rw (same, moves.source, sides.stayed_items) (drop_at (reverse (members log merge.went)) (members log merge.stayed) went_size long)
        | inr stayed ↦ elim (cases_eq class merge.went) [
          | inl same ↦ rw (same, moves.target, sides.stayed_items, sides.went_items, take_at (reverse (members log merge.went)) (members log merge.stayed) went_size long, reverse-reverse, append-nil) refl
          | inr went ↦ moves.others class stayed went ∙ (kept.members_at class within ∙ members-push_other log merge class went stayed)
        ]
      ];
      size_at = λ class within. elim (cases_eq class merge.stayed) [
        | inl same ↦ rw same (get_or-set_same sizes merge.stayed (stayed_size - went_size) 0 (rw kept.size_count sides.stayed_in) ∙ omega (arith, sides.stayed_kept, sides.went_kept))
        | inr stayed ↦ get_or-set_other sizes merge.stayed class (stayed_size - went_size) 0 stayed ∙ (kept.size_at class within ∙ kept_size-push_other log merge class stayed)
      ];
      gone_at = λ class within. elim (cases_eq class merge.went) [
        | inl same ↦ rw same (get_or-set_same gone merge.went None None (rw kept.gone_count sides.went_in) ∙ sym (gone_in_still log merge.went (class_is_still nodes log sides.valid merge.went (both_are_classes nodes log merge sides.valid sides.joins).0)))
        | inr went ↦ get_or-set_other gone merge.went class None None went ∙ (kept.gone_at class within ∙ gone_in-push_other log merge class went)
      ];
    }

-- a size that was read
pub size_read : (nodes : ℕ) (log : List Merge) (lists : List (List ℕ)) (sizes : List ℕ) (gone : List (Option ℕ)) (class size : ℕ) → IsKept nodes log lists sizes gone → class < nodes → size ≡ get_or sizes class size → size ≡ kept_size log class
size_read nodes log lists sizes gone class size kept within is = get_or_read sizes class size (rw kept.size_count within) is 0 ∙ kept.size_at class within

-- no class has more members than there are nodes
pub kept_size-le : (nodes : ℕ) (log : List Merge) (lists : List (List ℕ)) (sizes : List ℕ) (gone : List (Option ℕ)) (node : ℕ) → IsKept nodes log lists sizes gone → node < nodes → kept_size log (class_of log node) ≤ nodes
kept_size-le nodes log lists sizes gone node kept within =
    let class = class_of log node in
    let class_in = class_of-within nodes log kept.valid node within in
    let size = ap length (kept.members_at class class_in) ∙ length-members nodes log kept.valid class (class_of-class_of nodes log kept.valid node) in
    let part = sum_by_more_le length lists class [] (rw kept.list_count class_in) in
    let all = kept.item_count in
    omega arith

-- what is kept at the start
pub IsKept-start : (nodes : ℕ) (log : List Merge) (lists : List (List ℕ)) (sizes : List ℕ) (gone : List (Option ℕ)) → log ≡ [] → lists ≡ each_alone nodes → length lists ≡ nodes → item_count lists ≡ nodes → sizes ≡ replicate nodes 1 → gone ≡ replicate nodes None → IsKept nodes log lists sizes gone
IsKept-start nodes log lists sizes gone log_is lists_is list_count all sizes_is gone_is = record {
  valid = rw log_is tt;
  list_count = list_count;
  item_count = all;
  size_count = rw sizes_is (length-replicate nodes 1);
  gone_count = rw gone_is (length-replicate nodes None);
  members_at = λ class within. rw (log_is, lists_is) (get_or-map-range_with_len (λ item. item ∷ []) 0 nodes class class [] within (omega arith));
  size_at = λ class within. rw (log_is, sizes_is) (get_or-replicate nodes class 1 0 within);
  gone_at = λ class within. rw (log_is, gone_is) (get_or-replicate nodes class None None within);
}
