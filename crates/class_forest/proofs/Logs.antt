use Rattle.std.proofs.Common.{◌≡◌, ℕ, List, [], ◌∷◌, ◌++◌, refl, sym, subst, append-nil}
use Rattle.std.proofs.Math.Seq.{append_snoc}
use Rattle.class_forest.specs.declared.merge.Merge.{Merge}
use Rattle.class_forest.specs.Classes.{class_of, members, members_after, members_from, moved, IsLog, IsLogAfter, IsMerge}

-- one more merge

pub class_of-push : (log : List Merge) (merge : Merge) (node : ℕ) → class_of (log ++ merge ∷ []) node ≡ moved merge (class_of log node)
class_of-push [] merge node = refl
class_of-push (m ∷ log) merge node = class_of-push log merge (moved m node)

pub class_of-append : (before after : List Merge) (node : ℕ) → class_of (before ++ after) node ≡ class_of after (class_of before node)
class_of-append [] after node = refl
class_of-append (m ∷ before) after node = class_of-append before after (moved m node)

members_from-push : (lists : ℕ → List ℕ) (log : List Merge) (merge : Merge) (class : ℕ) → members_from lists (log ++ merge ∷ []) class ≡ members_after (members_from lists log) merge class
members_from-push lists [] merge class = refl
members_from-push lists (m ∷ log) merge class = members_from-push (members_after lists m) log merge class

pub members-push : (log : List Merge) (merge : Merge) (class : ℕ) → members (log ++ merge ∷ []) class ≡ members_after (members log) merge class
members-push log merge class = members_from-push (λ node. node ∷ []) log merge class

IsLogAfter-push : (nodes : ℕ) (before log : List Merge) (merge : Merge) → IsLogAfter nodes before log → IsMerge nodes (before ++ log) merge → IsLogAfter nodes before (log ++ merge ∷ [])
IsLogAfter-push nodes before [] merge valid more = (rw append-nil at more, tt)
IsLogAfter-push nodes before (m ∷ log) merge valid more = (valid.0, IsLogAfter-push nodes (before ++ m ∷ []) log merge valid.1 (subst (λ all. IsMerge nodes all merge) (sym (append_snoc before m log)) more))

-- a log with one more merge that can come after it
pub IsLog-push : (nodes : ℕ) (log : List Merge) (merge : Merge) → IsLog nodes log → IsMerge nodes log merge → IsLog nodes (log ++ merge ∷ [])
IsLog-push nodes log merge valid more = IsLogAfter-push nodes [] log merge valid more

IsLogAfter-front : (nodes : ℕ) (before log after : List Merge) → IsLogAfter nodes before (log ++ after) → IsLogAfter nodes before log
IsLogAfter-front nodes before [] after valid = tt
IsLogAfter-front nodes before (m ∷ log) after valid = (valid.0, IsLogAfter-front nodes (before ++ m ∷ []) log after valid.1)

-- a front of a log is one
pub IsLog-front : (nodes : ℕ) (log after : List Merge) → IsLog nodes (log ++ after) → IsLog nodes log
IsLog-front nodes log after valid = IsLogAfter-front nodes [] log after valid

IsLogAfter-at : (nodes : ℕ) (before log after : List Merge) (merge : Merge) → IsLogAfter nodes before (log ++ merge ∷ after) → IsMerge nodes (before ++ log) merge
IsLogAfter-at nodes before [] after merge valid = rw append-nil valid.0
IsLogAfter-at nodes before (m ∷ log) after merge valid = subst (λ all. IsMerge nodes all merge) (append_snoc before m log) (IsLogAfter-at nodes (before ++ m ∷ []) log after merge valid.1)

-- a merge of a log can come after those before it
pub IsLog-at : (nodes : ℕ) (log after : List Merge) (merge : Merge) → IsLog nodes (log ++ merge ∷ after) → IsMerge nodes log merge
IsLog-at nodes log after merge valid = IsLogAfter-at nodes [] log after merge valid

by_last_from : (nodes : ℕ) (P : List Merge → Type 0) → ((log : List Merge) (merge : Merge) → IsLog nodes log → IsMerge nodes log merge → P log → P (log ++ merge ∷ [])) → (before log : List Merge) → IsLog nodes before → IsLogAfter nodes before log → P before → P (before ++ log)
by_last_from nodes P step before [] front valid known = rw append-nil known
by_last_from nodes P step before (m ∷ log) front valid known = subst P (append_snoc before m log) (by_last_from nodes P step (before ++ m ∷ []) log (IsLog-push nodes before m front valid.0) valid.1 (step before m front valid.0 known))

-- what holds at the start, and after each merge that can come, holds after all
pub by_last : (nodes : ℕ) (P : List Merge → Type 0) → P [] → ((log : List Merge) (merge : Merge) → IsLog nodes log → IsMerge nodes log merge → P log → P (log ++ merge ∷ [])) → (log : List Merge) → IsLog nodes log → P log
by_last nodes P start step log valid = by_last_from nodes P step [] log tt valid start
