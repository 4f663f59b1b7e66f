use Rattle.std.proofs.Common.{◌≡◌, ◌≢◌, ℕ, ◌+◌, ◌-◌, ◌^◌, ◌<◌, ◌≤◌, suc, zero, cond, ltb, inl, inr, List, None, Some, [], ◌∷◌, ◌++◌, length, get_or, take, drop, sym, ap, ◌∙◌, subst, arith, add-one}
use Rattle.std.specs.Prelude.{slice_get}
use Rattle.std.proofs.Math.Nat.{pow-suc}
use Rattle.std.proofs.lemmas.Bool.{cases_eq, cases_lt, eq-eqb, le-ltb, ne_eqb}
use Rattle.std.proofs.lemmas.List.{append-nil, drop_more, length-take-le, take-append-drop, take-take, take_all, take_more}
use Rattle.std.proofs.Math.Seq.{append_snoc}
use Rattle.class_forest.specs.declared.merge.Merge.{Merge}
use Rattle.class_forest.specs.Classes.{class_of, moved, IsLog, IsMerge}
use Rattle.class_forest.specs.Kept.{end_of, kept_size, sizes_after, sizes_from}
use Rattle.class_forest.specs.Path.{joined_at}
use Rattle.class_forest.proofs.Endings.{class_is_still, class_of-before_end, class_of-still, end_of-append, end_of-le}
use Rattle.class_forest.proofs.Logs.{class_of-append, class_of-push, IsLog-at, IsLog-front}
use Rattle.class_forest.proofs.Members.{class_of-class_of, class_of-within, kept_size-push_other, kept_size-push_stayed, moved_other, moved_went}

-- the first merges of a log

pub IsLog-take : (nodes : ℕ) (log : List Merge) (count : ℕ) → IsLog nodes log → IsLog nodes (take count log)
IsLog-take nodes log count valid = IsLog-front nodes (take count log) (drop count log) (subst (IsLog nodes) (sym (take-append-drop count log)) valid)

-- the merge of a number can come after those before it
pub IsMerge-at : (nodes : ℕ) (log : List Merge) (number : ℕ) (merge : Merge) → IsLog nodes log → number < length log → IsMerge nodes (take number log) (get_or log number merge)
IsMerge-at nodes log number merge valid within =
    let split : log ≡ take number log ++ get_or log number merge ∷ drop (number + 1) log = sym (take-append-drop number log) ∙ ap (λ rest. take number log ++ rest) (drop_more log number merge within) in
    IsLog-at nodes (take number log) (drop (number + 1) log) (get_or log number merge) (subst (IsLog nodes) split valid)

class_of-take_rest : (log : List Merge) (before after node : ℕ) → before ≤ after → class_of (take after log) node ≡ class_of (drop before (take after log)) (class_of (take before log) node)
class_of-take_rest log before after node le =
    ap (λ l. class_of l node) (sym (take-append-drop before (take after log))) ∙ (class_of-append (take before (take after log)) (drop before (take after log)) node ∙ ap (λ l. class_of (drop before (take after log)) (class_of l node)) (take-take before after log le))

-- a node goes on as its class does
pub class_of-later : (nodes : ℕ) (log : List Merge) → IsLog nodes log → (before after node : ℕ) → before ≤ after → class_of (take after log) (class_of (take before log) node) ≡ class_of (take after log) node
class_of-later nodes log valid before after node le =
    class_of-take_rest log before after (class_of (take before log) node) le ∙ (ap (class_of (drop before (take after log))) (class_of-class_of nodes (take before log) (IsLog-take nodes log before valid) node) ∙ sym (class_of-take_rest log before after node le))

pub class_of-in_the_end : (nodes : ℕ) (log : List Merge) → IsLog nodes log → (before node : ℕ) → before ≤ length log → class_of log (class_of (take before log) node) ≡ class_of log node
class_of-in_the_end nodes log valid before node le = subst (λ l. class_of l (class_of (take before log) node) ≡ class_of l node) (take_all (length log) log (omega arith)) (class_of-later nodes log valid before (length log) node le)

-- nodes of one class stay together
pub same_later : (nodes : ℕ) (log : List Merge) → IsLog nodes log → (before after x y : ℕ) → before ≤ after → class_of (take before log) x ≡ class_of (take before log) y → class_of (take after log) x ≡ class_of (take after log) y
same_later nodes log valid before after x y le one = sym (class_of-later nodes log valid before after x le) ∙ (ap (class_of (take after log)) one ∙ class_of-later nodes log valid before after y le)

-- the class of a node after some merges goes in none of them
pub end_of-later : (nodes : ℕ) (log : List Merge) → IsLog nodes log → (count node : ℕ) → count ≤ length log → count ≤ end_of log (class_of (take count log) node)
end_of-later nodes log valid count node le =
    let front = take count log in
    let class = class_of front node in
    let valid_front = IsLog-take nodes log count valid in
    let still = class_is_still nodes front valid_front class (class_of-class_of nodes front valid_front node) in
    let long = length-take-le count log le in
    let ends : end_of log class ≡ cond (ltb (end_of front class) (length front)) (end_of front class) (length front + end_of (drop count log) class) = subst (λ l. end_of l class ≡ cond (ltb (end_of front class) (length front)) (end_of front class) (length front + end_of (drop count log) class)) (take-append-drop count log) (end_of-append front (drop count log) class) in
    let late : end_of log class ≡ length front + end_of (drop count log) class = rw (le-ltb (end_of front class) (length front) (omega arith)) at ends in
    omega arith

-- until its class goes, a node stays in it
pub class_of-until : (nodes : ℕ) (log : List Merge) → IsLog nodes log → (before after node : ℕ) → before ≤ after → after ≤ end_of log (class_of (take before log) node) → class_of (take after log) node ≡ class_of (take before log) node
class_of-until nodes log valid before after node le until = sym (class_of-later nodes log valid before after node le) ∙ class_of-before_end log (class_of (take before log) node) after until

-- the class that went in a merge
pub went_at : (log : List Merge) (class : ℕ) (merge : Merge) → end_of log class < length log → (get_or log (end_of log class) merge).went ≡ class
went_at [] class merge gone = absurd (omega arith)
went_at (m ∷ log) class merge gone =
    elim (cases_eq class m.went) [
      | inl it ↦ rw (eq-eqb class m.went it) (sym it)
      | inr it ↦ let less = rw (ne_eqb class m.went it) at gone in rw (ne_eqb class m.went it, add-one) (went_at log class merge (omega arith))
    ]

-- where a class goes
pub class_of-at_end : (log : List Merge) (class : ℕ) (merge : Merge) → end_of log class < length log → class_of (take (end_of log class + 1) log) class ≡ (get_or log (end_of log class) merge).stayed
class_of-at_end log class merge gone =
    let end = end_of log class in
    let it = get_or log end merge in
    ap (λ l. class_of l class) (take_more log end merge gone) ∙ (class_of-push (take end log) it class ∙ (ap (moved it) (class_of-before_end log class end (omega arith)) ∙ moved_went it class (sym (went_at log class merge gone))))

-- one step up from a class: where it went, which goes later
pub record Up (nodes : ℕ) (log : List Merge) (class up : ℕ) : Type 0 where
  pub within : up < nodes
  pub later : end_of log class < end_of log up
  pub same : (count : ℕ) → end_of log class < count → class_of (take count log) up ≡ class_of (take count log) class

pub Up-stayed : (nodes : ℕ) (log : List Merge) → IsLog nodes log → (class : ℕ) (merge : Merge) → class < nodes → end_of log class < length log → merge ≡ get_or log (end_of log class) merge → Up nodes log class merge.stayed
Up-stayed nodes log valid class merge within gone is =
    let next = end_of log class + 1 in
    let up : class_of (take next log) class ≡ merge.stayed = class_of-at_end log class merge gone ∙ ap (λ m. m.stayed) (sym is) in
    let late = end_of-later nodes log valid next class (omega arith) in
    record {
      within = subst (λ c. c < nodes) up (class_of-within nodes (take next log) (IsLog-take nodes log next valid) class within);
      later = subst (λ c. end_of log class < end_of log c) up (omega arith);
      same = λ count more. subst (λ c. class_of (take count log) c ≡ class_of (take count log) class) up (class_of-later nodes log valid next count class (omega arith));
    }

-- after how many merges two nodes have one class

pub joined_at-least : (log : List Merge) (count x y : ℕ) → class_of (take count log) x ≡ class_of (take count log) y → joined_at log x y ≤ count
joined_at-least [] count x y one = omega arith
joined_at-least (m ∷ log) zero x y one = rw (eq-eqb x y one) (omega arith)
joined_at-least (m ∷ log) (suc count) x y one =
    let rest = joined_at-least log count (moved m x) (moved m y) one in
    elim (cases_eq x y) [ inl it ↦ rw (eq-eqb x y it) (omega arith) | inr it ↦ rw (ne_eqb x y it) (omega arith) ]

pub class_of-joined_at : (log : List Merge) (x y : ℕ) → class_of log x ≡ class_of log y → class_of (take (joined_at log x y) log) x ≡ class_of (take (joined_at log x y) log) y
class_of-joined_at [] x y one = one
class_of-joined_at (m ∷ log) x y one =
    elim (cases_eq x y) [
      | inl it ↦ rw (eq-eqb x y it) it
      | inr it ↦ rw (ne_eqb x y it) (class_of-joined_at log (moved m x) (moved m y) one)
    ]

pub joined_at-length : (log : List Merge) (x y : ℕ) → class_of log x ≡ class_of log y → joined_at log x y ≤ length log
joined_at-length log x y one = joined_at-least log (length log) x y (rw (take_all (length log) log (omega arith)) one)

-- nodes that are apart are joined later
pub apart_before : (nodes : ℕ) (log : List Merge) → IsLog nodes log → (x y : ℕ) → class_of log x ≡ class_of log y → (count : ℕ) → class_of (take count log) x ≢ class_of (take count log) y → count < joined_at log x y
apart_before nodes log valid x y one count apart =
    elim (cases_lt count (joined_at log x y)) [
      | inl less ↦ less
      | inr more ↦ absurd (apart (same_later nodes log valid (joined_at log x y) count x y more (class_of-joined_at log x y one)))
    ]

-- where two classes that are still apart differ in when they go, the earlier goes up
pub record Step (log : List Merge) (x y limit end up other : ℕ) : Type 0 where
  pub goes : up ≡ class_of (take (end + 1) log) x
  pub stays : other ≡ class_of (take (end + 1) log) y
  pub more : end + 1 ≤ limit

pub Step-up : (nodes : ℕ) (log : List Merge) → IsLog nodes log → (x y limit count one other : ℕ) (merge : Merge) → ((k : ℕ) → class_of (take k log) x ≢ class_of (take k log) y → k < limit) → count ≤ length log → one ≡ class_of (take count log) x → other ≡ class_of (take count log) y → one ≢ other → end_of log one < end_of log other → merge ≡ get_or log (end_of log one) merge → Step log x y limit (end_of log one) merge.stayed other
Step-up nodes log valid x y limit count one other merge before within one_is other_is apart first is =
    let end = end_of log one in
    let most = end_of-le log other in
    let late : count ≤ end_of log one = subst (λ c. count ≤ end_of log c) (sym one_is) (end_of-later nodes log valid count x within) in
    let at_x : class_of (take end log) x ≡ one = class_of-until nodes log valid count end x late (subst (λ c. end ≤ end_of log c) one_is (omega arith)) ∙ sym one_is in
    let until : (k : ℕ) → count ≤ k → k ≤ end_of log other → class_of (take k log) y ≡ other = λ k more le. class_of-until nodes log valid count k y more (subst (λ c. k ≤ end_of log c) other_is le) ∙ sym other_is in
    let less = before end (λ e. apart (sym at_x ∙ (e ∙ until end late (omega arith)))) in
    record {
      goes = sym (ap (λ m. m.stayed) (sym is)) ∙ (sym (class_of-at_end log one merge (omega arith)) ∙ (ap (class_of (take (end + 1) log)) one_is ∙ class_of-later nodes log valid count (end + 1) x (omega arith)));
      stays = sym (until (end + 1) (omega arith) (omega arith));
      more = omega arith;
    }

-- of two classes that differ and will be one, one goes first
pub ends_differ : (nodes : ℕ) (log : List Merge) → IsLog nodes log → (count x y one other : ℕ) → count ≤ length log → class_of log x ≡ class_of log y → one ≡ class_of (take count log) x → other ≡ class_of (take count log) y → one ≢ other → end_of log one ≢ end_of log other
ends_differ nodes log valid count x y one other within joined one_is other_is apart ends =
    let le = end_of-le log one in
    elim (cases_lt (end_of log one) (length log)) [
      | inl gone ↦
          let merge : Merge = record { left = 0; right = 0; went = 0; stayed = 0; reason = 0 } in
          apart (sym (went_at log one merge gone) ∙ (ap (λ end. (get_or log end merge).went) ends ∙ went_at log other merge (omega arith)))
      | inr still ↦
          let at : (node class : ℕ) → class ≡ class_of (take count log) node → end_of log class ≡ length log → class ≡ class_of log node = λ node class is end. sym (class_of-still log class end) ∙ (ap (class_of log) is ∙ class_of-in_the_end nodes log valid count node within) in
          apart (at x one one_is (omega arith) ∙ (joined ∙ sym (at y other other_is (omega arith))))
    ]

-- sizes along a log

sizes_positive : (sizes : ℕ → ℕ) (log : List Merge) (class : ℕ) → ((c : ℕ) → 0 < sizes c) → 0 < sizes_from sizes log class
sizes_positive sizes [] class positive = positive class
sizes_positive sizes (m ∷ log) class positive =
    sizes_positive (sizes_after sizes m) log class (λ c. elim (cases_eq c m.stayed) [
      | inl it ↦ rw (eq-eqb c m.stayed it) (omega (arith, positive m.stayed))
      | inr it ↦ rw (ne_eqb c m.stayed it) (positive c)
    ])

pub kept_size-positive : (log : List Merge) (class : ℕ) → 0 < kept_size log class
kept_size-positive log class = sizes_positive (λ _. 1) log class (λ c. omega arith)

size_grows : (log : List Merge) (merge : Merge) (node : ℕ) → kept_size log (class_of log node) ≤ kept_size (log ++ merge ∷ []) (class_of (log ++ merge ∷ []) node)
size_grows log merge node =
    let class = class_of log node in
    let stayed = kept_size-push_stayed log merge in
    rw (class_of-push log merge node) (elim (cases_eq class merge.went) [
      | inl it ↦ rw (moved_went merge class it, it, stayed) (omega arith)
      | inr it ↦ rw (moved_other merge class it) (elim (cases_eq class merge.stayed) [
        | inl same ↦ rw (same, stayed) (omega arith)
        | inr other ↦ rw (kept_size-push_other log merge class other) (omega arith)
      ])
    ])

size_grows_more : (before after : List Merge) (node : ℕ) → kept_size before (class_of before node) ≤ kept_size (before ++ after) (class_of (before ++ after) node)
size_grows_more before [] node = rw append-nil (omega arith)
size_grows_more before (m ∷ after) node =
    let first = size_grows before m node in
    let rest = size_grows_more (before ++ m ∷ []) after node in
    let same = subst (λ l. kept_size (before ++ m ∷ []) (class_of (before ++ m ∷ []) node) ≤ kept_size l (class_of l node)) (append_snoc before m after) rest in
    omega arith

-- the class of a node grows with the merges
pub size_later : (log : List Merge) (before after node : ℕ) → before ≤ after → kept_size (take before log) (class_of (take before log) node) ≤ kept_size (take after log) (class_of (take after log) node)
size_later log before after node le =
    let whole : take before log ++ drop before (take after log) ≡ take after log = ap (λ l. l ++ drop before (take after log)) (sym (take-take before after log le)) ∙ take-append-drop before (take after log) in
    subst (λ l. kept_size (take before log) (class_of (take before log) node) ≤ kept_size l (class_of l node)) whole (size_grows_more (take before log) (drop before (take after log)) node)

-- of a class of fewer nodes than a power of two, the smaller part has fewer than the power before
pub halves : (depth part rest : ℕ) → 0 < part → part ≤ rest → rest + part < 2 ^ depth → (0 < depth) × (part < 2 ^ (depth - 1))
halves zero part rest some le small = absurd (omega arith)
halves (suc depth) part rest some le small =
    let e = rw pow-suc at small in
    let d : suc depth - 1 ≡ depth = omega arith in
    (omega arith, rw d (omega arith))

-- a merge that was read
pub get_or-slice_get : (log : List Merge) (number : ℕ) (merge : Merge) → slice_get log number ≡ Some merge → (number < length log) × (get_or log number merge ≡ merge)
get_or-slice_get [] number merge is = absurd (let e : None ≡ Some merge = is in cc)
get_or-slice_get (m ∷ log) zero merge is = let e : m ≡ merge = cc in (omega arith, e)
get_or-slice_get (m ∷ log) (suc number) merge is = let rest = get_or-slice_get log number merge is in (omega arith, rest.1)
