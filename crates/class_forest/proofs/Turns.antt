use Rattle.std.proofs.Common.{◌≡◌, ◌≢◌, ℕ, ◌+◌, ◌-◌, ◌^◌, ◌<◌, ◌≤◌, suc, ◌⊎◌, inl, inr, List, Some, [], ◌∷◌, ◌++◌, length, take, refl, sym, ap, ◌∙◌, subst, arith, add-one}
use Rattle.std.specs.Prelude.{slice_get}
use Rattle.std.specs.List.{Contains}
use Rattle.std.proofs.lemmas.Bool.{cases_eq, eq-eqb, ne_eqb}
use Rattle.std.proofs.lemmas.List.{take_all, take_more}
use Rattle.class_forest.specs.declared.merge.Merge.{Merge}
use Rattle.class_forest.specs.declared.path.Split.{Split}
use Rattle.class_forest.specs.Classes.{class_of, moved, IsLog, IsMerge}
use Rattle.class_forest.specs.Joined.{GrowsBelow, IsLinked}
use Rattle.class_forest.specs.Joined.IsLinked.{equal, by_merge, back, along}
use Rattle.class_forest.specs.Kept.{kept_size}
use Rattle.class_forest.specs.Path.{gone_end, joined_at, kept_end, split_of, IsWithin}
use Rattle.class_forest.specs.Marks.{with_mark}
use Rattle.std.proofs.lemmas.List.Elements.{Contains-append_left}
use Rattle.class_forest.proofs.Marking.{Contains-with_mark, GrowsBelow-twice, GrowsBelow-wider, IsLinked-grows, with_mark-grows}
use Rattle.class_forest.proofs.Logs.{class_of-push}
use Rattle.class_forest.proofs.Members.{both_are_classes, kept_size-push_stayed, length-members, moved_other, moved_went, went_smaller, Joins-IsMerge}
use Rattle.class_forest.proofs.Walks.{class_of-joined_at, get_or-slice_get, halves, joined_at-least, kept_size-positive, same_later, size_later, IsLog-take, IsMerge-at}

-- the nodes of a merge, the one in the class that went and the other
pub record Ends (nodes : ℕ) (front : List Merge) (merge : Merge) (gone kept : ℕ) : Type 0 where
  pub gone_in : gone < nodes
  pub kept_in : kept < nodes
  pub gone_class : class_of front gone ≡ merge.went
  pub kept_class : class_of front kept ≡ merge.stayed
  pub which : ((gone ≡ merge.left) × (kept ≡ merge.right)) ⊎ ((gone ≡ merge.right) × (kept ≡ merge.left))

pub Ends-of : (nodes : ℕ) (front : List Merge) (merge : Merge) → IsMerge nodes front merge → Ends nodes front merge (gone_end (class_of front merge.left) merge) (kept_end (class_of front merge.left) merge)
Ends-of nodes front merge joins =
    elim (Joins-IsMerge nodes front merge joins) [
      | inl way ↦ rw (eq-eqb (class_of front merge.left) merge.went (sym way.went)) (record { gone_in = joins.left_in; kept_in = joins.right_in; gone_class = sym way.went; kept_class = sym way.stayed; which = inl (refl, refl) })
      | inr way ↦ rw (ne_eqb (class_of front merge.left) merge.went (λ e. joins.apart (e ∙ way.went))) (record { gone_in = joins.right_in; kept_in = joins.left_in; gone_class = sym way.went; kept_class = sym way.stayed; which = inr (refl, refl) })
    ]

-- of two classes that a merge joins, one is the class that goes and the other the one that stays
sides : (merge : Merge) (a b : ℕ) → a ≢ b → moved merge a ≡ moved merge b → ((a ≡ merge.went) × (b ≡ merge.stayed)) ⊎ ((a ≢ merge.went) × (b ≡ merge.went) × (a ≡ merge.stayed))
sides merge a b apart one =
    elim (cases_eq a merge.went) [
      | inl it ↦ inl (it, sym (moved_other merge b (λ e. apart (it ∙ sym e))) ∙ (sym one ∙ moved_went merge a it))
      | inr it ↦ elim (cases_eq b merge.went) [
        | inl other ↦ inr (it, other, sym (moved_other merge a it) ∙ (one ∙ moved_went merge b other))
        | inr other ↦ absurd (apart (sym (moved_other merge a it) ∙ (one ∙ moved_other merge b other)))
      ]
    ]

linked_ends : (log : List Merge) (marks : List ℕ) (number : ℕ) (merge : Merge) (gone kept : ℕ) → slice_get log number ≡ Some merge → Contains marks number → ((gone ≡ merge.left) × (kept ≡ merge.right)) ⊎ ((gone ≡ merge.right) × (kept ≡ merge.left)) → IsLinked log marks gone kept
linked_ends log marks number merge gone kept is marked (inl way) = by_merge number merge marked is way.0 way.1
linked_ends log marks number merge gone kept is marked (inr way) = back (by_merge number merge marked is way.1 way.0)

-- what the way by a merge leaves: a part in the class that went and one in the class that stayed
pub record Turn (nodes : ℕ) (log : List Merge) (number : ℕ) (merge : Merge) (x y : ℕ) (split : Split) : Type 0 where
  pub from_in : split.from < nodes
  pub to_in : split.to < nodes
  pub x_in : split.x < nodes
  pub y_in : split.y < nodes
  pub from : class_of (take number log) split.from ≡ merge.went
  pub to : class_of (take number log) split.to ≡ merge.went
  pub x_class : class_of (take number log) split.x ≡ merge.stayed
  pub y_class : class_of (take number log) split.y ≡ merge.stayed
  pub links : (marks : List ℕ) → Contains marks number → IsLinked log marks split.from split.to → IsLinked log marks x split.x × IsLinked log marks split.y y

Turn-of : (nodes : ℕ) (log : List Merge) (number : ℕ) (merge : Merge) (x y : ℕ) (split : Split) → slice_get log number ≡ Some merge → IsMerge nodes (take number log) merge → x < nodes → y < nodes → ((class_of (take number log) x ≡ merge.went) × (class_of (take number log) y ≡ merge.stayed)) ⊎ ((class_of (take number log) x ≢ merge.went) × (class_of (take number log) y ≡ merge.went) × (class_of (take number log) x ≡ merge.stayed)) → split ≡ split_of log number merge x y → Turn nodes log number merge x y split
Turn-of nodes log number merge x y split is joins x_in y_in (inl way) split_is =
    let front = take number log in
    let gone = gone_end (class_of front merge.left) merge in
    let kept = kept_end (class_of front merge.left) merge in
    let ends = Ends-of nodes front merge joins in
    let at : split ≡ record { from = x; to = gone; x = kept; y = y } = split_is ∙ rw (eq-eqb (class_of front x) merge.went way.0) refl in
    rw at (record {
      from_in = x_in;
      to_in = ends.gone_in;
      x_in = ends.kept_in;
      y_in = y_in;
      from = way.0;
      to = ends.gone_class;
      x_class = ends.kept_class;
      y_class = way.1;
      links = λ marks marked part. (along gone part (linked_ends log marks number merge gone kept is marked ends.which), equal refl);
    })
Turn-of nodes log number merge x y split is joins x_in y_in (inr way) split_is =
    let front = take number log in
    let gone = gone_end (class_of front merge.left) merge in
    let kept = kept_end (class_of front merge.left) merge in
    let ends = Ends-of nodes front merge joins in
    let at : split ≡ record { from = y; to = gone; x = x; y = kept } = split_is ∙ rw (ne_eqb (class_of front x) merge.went way.0) refl in
    rw at (record {
      from_in = y_in;
      to_in = ends.gone_in;
      x_in = x_in;
      y_in = ends.kept_in;
      from = way.1;
      to = ends.gone_class;
      x_class = way.2;
      y_class = ends.kept_class;
      links = λ marks marked part. (equal refl, along gone (back (linked_ends log marks number merge gone kept is marked ends.which)) (back part));
    })

-- one turn of the way between two nodes, and what is left to be done
pub record Halved (nodes : ℕ) (log : List Merge) (number depth : ℕ) (merge : Merge) (x y : ℕ) (split : Split) : Type 0 where
  pub turn : Turn nodes log number merge x y split
  pub deep : 0 < depth
  pub part : IsWithin log (depth - 1) split.from split.to
  pub rest : IsWithin log depth split.x split.y
  pub part_before : joined_at log split.from split.to ≤ number
  pub rest_before : joined_at log split.x split.y ≤ number

-- the merges that join two nodes within a class join them in the end
pub joined_within : (nodes : ℕ) (log : List Merge) → IsLog nodes log → (depth x y : ℕ) → IsWithin log depth x y → class_of log x ≡ class_of log y
joined_within nodes log valid depth x y within = rw (take_all (length log) log (omega arith)) at (same_later nodes log valid within.limit (length log) x y within.front within.joined)

pub Halved-of : (nodes : ℕ) (log : List Merge) → IsLog nodes log → (number depth : ℕ) (merge : Merge) (x y : ℕ) (split : Split) → x < nodes → y < nodes → IsWithin log depth x y → suc number ≡ joined_at log x y → slice_get log number ≡ Some merge → split ≡ split_of log number merge x y → Halved nodes log number depth merge x y split
Halved-of nodes log valid number depth merge x y split x_in y_in within next is split_is =
    let joined = joined_within nodes log valid depth x y within in
    let at = get_or-slice_get log number merge is in
    let front = take number log in
    let valid_front = IsLog-take nodes log number valid in
    let joins = subst (IsMerge nodes front) at.1 (IsMerge-at nodes log number merge valid at.0) in
    let after : take (suc number) log ≡ front ++ merge ∷ [] = ap (λ n. take n log) (sym (add-one number)) ∙ (take_more log number merge at.0 ∙ ap (λ m. front ++ m ∷ []) at.1) in
    let apart : class_of front x ≢ class_of front y = λ e. let le = joined_at-least log number x y e in omega arith in
    let then : class_of (take (suc number) log) x ≡ class_of (take (suc number) log) y = rw next (class_of-joined_at log x y joined) in
    let now : (node : ℕ) → class_of (take (suc number) log) node ≡ moved merge (class_of front node) = λ node. ap (λ l. class_of l node) after ∙ class_of-push front merge node in
    let ways = sides merge (class_of front x) (class_of front y) apart (sym (now x) ∙ (then ∙ now y)) in
    let turn = Turn-of nodes log number merge x y split is joins x_in y_in ways split_is in
    let classes = both_are_classes nodes front merge valid_front joins in
    let stayed : class_of (take (suc number) log) x ≡ merge.stayed = now x ∙ elim ways [ inl way ↦ moved_went merge (class_of front x) way.0 | inr way ↦ moved_other merge (class_of front x) way.0 ∙ way.2 ] in
    let size : kept_size (take (suc number) log) merge.stayed ≡ kept_size front merge.stayed + kept_size front merge.went = ap (λ l. kept_size l merge.stayed) after ∙ kept_size-push_stayed front merge in
    let le = joined_at-least log within.limit x y within.joined in
    let grown : kept_size (take (suc number) log) merge.stayed ≤ kept_size (take within.limit log) (class_of (take within.limit log) x) = subst (λ c. kept_size (take (suc number) log) c ≤ kept_size (take within.limit log) (class_of (take within.limit log) x)) stayed (size_later log (suc number) within.limit x (omega arith)) in
    let went_size = length-members nodes front valid_front merge.went classes.0 in
    let stayed_size = length-members nodes front valid_front merge.stayed classes.1 in
    let smaller = went_smaller nodes front merge joins in
    let some = kept_size-positive front merge.went in
    let small = within.small in
    let half = halves depth (kept_size front merge.went) (kept_size front merge.stayed) some (omega arith) (omega arith) in
    record {
      turn = turn;
      deep = half.0;
      part = record { limit = number; front = omega (arith, at.0); joined = turn.from ∙ sym turn.to; small = rw turn.from half.1 };
      rest = record { limit = number; front = omega (arith, at.0); joined = turn.x_class ∙ sym turn.y_class; small = rw turn.x_class (omega arith) };
      part_before = joined_at-least log number split.from split.to (turn.from ∙ sym turn.to);
      rest_before = joined_at-least log number split.x split.y (turn.x_class ∙ sym turn.y_class);
    }

-- all merges join two nodes of one class
pub IsWithin-whole : (log : List Merge) (depth x y : ℕ) → class_of log x ≡ class_of log y → kept_size log (class_of log x) < 2 ^ depth → IsWithin log depth x y
IsWithin-whole log depth x y one small = record {
  limit = length log;
  front = omega arith;
  joined = rw (take_all (length log) log (omega arith)) one;
  small = rw (take_all (length log) log (omega arith)) small;
}

-- the marks after a turn
pub record Marking (log : List Merge) (limit : ℕ) (x from to y : ℕ) (old new : List ℕ) : Type 0 where
  pub grown : GrowsBelow limit old new
  pub front : IsLinked log new x from
  pub behind : IsLinked log new to y

pub Marking-turn : (nodes : ℕ) (log : List Merge) (number depth limit : ℕ) (merge : Merge) (x from to y : ℕ) (split : Split) (start old marked new : List ℕ) → Halved nodes log number depth merge from to split → number < limit → Marking log limit x from to y start old → marked ≡ with_mark old number → GrowsBelow (joined_at log split.from split.to) marked new → IsLinked log new split.from split.to → Marking log limit x split.x split.y y start new
Marking-turn nodes log number depth limit merge x from to y split start old marked new halved below known is grows part =
    let first : GrowsBelow limit old marked = rw is (with_mark-grows old number limit below) in
    let later : GrowsBelow limit marked new = GrowsBelow-wider (joined_at log split.from split.to) limit marked new (omega (arith, halved.part_before)) grows in
    let both = GrowsBelow-twice limit old marked new first later in
    let among : Contains marked number = rw is (Contains-with_mark old number) in
    let still : Contains new number = rw later.1 (Contains-append_left marked later.0 number among) in
    let links = halved.turn.links new still part in
    record {
      grown = GrowsBelow-twice limit start old new known.grown both;
      front = along from (IsLinked-grows log limit old new x from both known.front) links.0;
      behind = along to links.1 (IsLinked-grows log limit old new to y both known.behind);
    }

-- the left node of a merge that was read
pub left_within : (nodes : ℕ) (log : List Merge) → IsLog nodes log → (number : ℕ) (merge : Merge) → slice_get log number ≡ Some merge → merge.left < nodes
left_within nodes log valid number merge is =
    let read = get_or-slice_get log number merge is in
    (subst (IsMerge nodes (take number log)) read.1 (IsMerge-at nodes log number merge valid read.0)).left_in
