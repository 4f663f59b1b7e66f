use Rattle.std.proofs.Common.{ℕ, ◌≡◌, ◌+◌, ◌<◌, Bool, true, false, not, cond, if◌then◌else◌, List, [], ◌∷◌, length, find, set, All, Option}
use Rattle.std.proofs.Common.{None, Some, refl, ap, ◌∙◌, subst, arith}
use Rattle.std.specs.List.{count_by}
use Rattle.std.proofs.lemmas.Bool.{and_from, or_parts}
use Rattle.std.proofs.lemmas.List.Recursion.{is_count_by}
use Rattle.mbqi_values.specs.declared.lit.Lit.{Lit}
use Rattle.clause_search.specs.ClauseTruth.{IsUnit}
use Rattle.clause_search.specs.Truths.{atom_on, lit_on, is_true, is_false, is_free, true_on, false_on}
use Rattle.clause_search.proofs.FalseClauses.{is_false-from, find-All, free_lit-free, false_on-kept}
use Rattle.clause_search.proofs.TruthsAt.{lit_on-set_same, lit_on-kept, some-from_false}

-- Clauses of which one literal is free, and the others are false.

-- How many literals of the clause are free.
abbrev frees : List (Option Bool) → List Lit → ℕ
frees truths [] = 0
frees truths (lit ∷ clause) = cond (is_free (lit_on truths lit)) (1 + frees truths clause) (frees truths clause)

frees-count : (truths : List (Option Bool)) (clause : List Lit) → frees truths clause ≡ count_by (λ lit. is_free (lit_on truths lit)) clause
frees-count truths clause = is_count_by (frees truths) (λ (lit : Lit). is_free (lit_on truths lit)) refl (λ _ _. refl) clause

-- Where none is free and none is true, each is false.
no_frees : (truths : List (Option Bool)) (clause : List Lit) → frees truths clause ≡ 0 → true_on truths clause ≡ false
    → false_on truths clause ≡ true
no_frees truths [] none not_true = refl
no_frees truths (lit ∷ clause) none not_true =
    let parts = or_parts (is_true (lit_on truths lit)) (true_on truths clause) not_true in
    (elim (is_free (lit_on truths lit)) as (λ b. is_free (lit_on truths lit) ≡ b
    → cond b (1 + frees truths clause) (frees truths clause) ≡ 0 → false_on truths (lit ∷ clause) ≡ true) [
      | true ↦ λ is_free_ h. absurd (omega arith)
      | false ↦ λ not_free h. and_from _ _ (is_false-from (lit_on truths lit) parts.0 not_free) (no_frees truths clause h parts.1)
    ]) refl none

own_false : (yes : Bool) → not (if yes then not yes else not (not yes)) ≡ true
own_false true = refl
own_false false = refl

-- A literal is false once its negation is true.
pub false-negated : (truths : List (Option Bool)) (lit : Lit) → lit.atom < length truths
    → is_false (lit_on (set truths lit.atom (Some (not lit.yes))) lit) ≡ true
false-negated truths lit within =
    ap is_false (lit_on-set_same truths (not lit.yes) lit within) ∙ own_false lit.yes

unit_false : (truths : List (Option Bool)) (lit : Lit) → lit.atom < length truths → atom_on truths lit.atom ≡ None → (clause : List Lit)
    → true_on truths clause ≡ false → find (λ l. is_free (lit_on truths l)) clause ≡ Some lit → frees truths clause ≡ 1
    → false_on (set truths lit.atom (Some (not lit.yes))) clause ≡ true
unit_false truths lit within free [] not_true found one = cc
unit_false truths lit within free (l ∷ clause) not_true found one =
    let parts = or_parts (is_true (lit_on truths l)) (true_on truths clause) not_true in
    let after : List (Option Bool) = set truths lit.atom (Some (not lit.yes)) in
    (elim (is_free (lit_on truths l)) as (λ b. is_free (lit_on truths l) ≡ b
    → cond b (Some l) (find (λ (x : Lit). is_free (lit_on truths x)) clause) ≡ Some lit
    → cond b (1 + frees truths clause) (frees truths clause) ≡ 1 → false_on after (l ∷ clause) ≡ true) [
      | true ↦ λ is_free_ is count.
          let same : lit ≡ l = cc in
          let none : frees truths clause ≡ 0 = omega arith in
          let rest = false_on-kept truths lit.atom (Some (not lit.yes)) clause free (no_frees truths clause none parts.1) in
          and_from _ _ (subst (λ (x : Lit). is_false (lit_on after x) ≡ true) same (false-negated truths lit within)) rest
      | false ↦ λ not_free is count.
          let here = is_false-from (lit_on truths l) parts.0 not_free in
          and_from _ _ (ap is_false (lit_on-kept truths lit.atom (Some (not lit.yes)) l free (some-from_false (lit_on truths l) here))
          ∙ here) (unit_false truths lit within free clause parts.1 is count)
    ]) refl found one

-- A clause that isn't true, with one free literal.
pub unit_clause : (truths : List (Option Bool)) (clause : List Lit) (lit : Lit) → All (λ l. l.atom < length truths) clause
    → true_on truths clause ≡ false → find (λ l. is_free (lit_on truths l)) clause ≡ Some lit
    → count_by (λ l. is_free (lit_on truths l)) clause ≡ 1 → IsUnit truths clause lit
unit_clause truths clause lit below not_true found one =
    let IsBelow : Lit → Type 0 = λ l. l.atom < length truths in
    let within : lit.atom < length truths = find-All IsBelow (λ (l : Lit). is_free (lit_on truths l)) clause lit below found in
    let free = free_lit-free truths clause lit found in
    record {
      within = within;
      free = free;
      is_false =
          unit_false truths lit within free clause not_true found (frees-count truths clause ∙ one);
    }
