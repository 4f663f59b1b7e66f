-- What holds at each point whose values are those of terms of a pool holds for all values that such terms have.
use Rattle.std.proofs.Common.{◌≡◌, ℕ, zero, suc, ◌+◌, ◌<◌, ◌≤◌, ◌==◌, true, false, List, [], ◌∷◌, ◌++◌, length, sym, ap, subst, ◌∙◌, ⊎_elim, cond, arith, rules}
use Rattle.std.specs.Prelude.{All}
use Rattle.std.proofs.Math.Seq.{get_or-append_seam}
use Rattle.std.proofs.lemmas.Bool.{cases_lt}
use Rattle.std.proofs.lemmas.List.{get_or_append_left, length-append}
use Rattle.std.proofs.lemmas.List.Elements.{All-nil, All-cons, All-append}
use Rattle.mbqi_values.specs.declared.value.Value.{Value}
use Rattle.mbqi_terms.specs.declared.term.Term.{Term}
use Rattle.mbqi_terms.specs.declared.term.Term.TheVariants as term
use Rattle.function_model.specs.Holds.{ForAll, IsOf, with_value}
use Rattle.function_model.specs.ValueOf.{Point}
use Rattle.element_atoms.specs.Profile.{the_sort, variables_from}
use Rattle.rule_form.specs.Rules.{term_at}

module _ (value : Term → Value) where
  -- the first places of the point have the terms' values
  abbrev pub Names : List Term → Point → Type 0
  Names ts p = (place : ℕ) → place < length ts → p place ≡ value (term_at ts place)

  at_other : (p : Point) (place at : ℕ) (v : Value) → (at == place) ≡ false → with_value p place v at ≡ p at
  at_other p place at v other = ap (λ b. cond b v (p at)) other

  at_same : (p : Point) (place at : ℕ) (v : Value) → (at == place) ≡ true → with_value p place v at ≡ v
  at_same p place at v same = ap (λ b. cond b v (p at)) same

  one_more : (ts : List Term) (t : Term) (p : Point) (v : Value) → Names ts p → v ≡ value t → Names (ts ++ t ∷ []) (with_value p (length ts) v)
  one_more ts t p v names e place within =
      ⊎_elim
      (λ (front : place < length ts).
      let other : (place == length ts) ≡ false = search (rules, arith) in
      at_other p (length ts) place v other
      ∙ (names place front ∙ sym (ap value (get_or_append_left ts (t ∷ []) (term.Var place) place front))))
      (λ (past : length ts ≤ place).
      let last : place ≡ length ts = omega (arith, past, within, length-append ts (t ∷ [])) in
      let same : (place == length ts) ≡ true = search (rules, arith) in
      at_same p (length ts) place v same
      ∙ (e ∙ sym (ap (λ n. value (term_at (ts ++ t ∷ []) n)) last ∙ ap value (get_or-append_seam ts t [] (term.Var (length ts))))))
      (cases_lt place (length ts))

  -- each value of the sort is that of a term of the pool
  module _ (sizes : List ℕ) (InPool : Term → Type 0) (named : (v : Value) → IsOf sizes the_sort v → (t : Term) × InPool t × (v ≡ value t))
      (body : Point → Type 0) where
    for_more : (n : ℕ) (ts : List Term) (p : Point) → Names ts p → All InPool ts
        → ((all : List Term) (q : Point) → length all ≡ length ts + n → All InPool all → Names all q → body q)
        → ForAll sizes (variables_from (length ts) n) p body
    for_more zero ts p names within then = then ts p (omega arith) within names
    for_more (suc n) ts p names within then = λ v is.
        let (t, there, e) = named v is in
        let one : length (ts ++ t ∷ []) ≡ length ts + 1 = length-append ts (t ∷ []) in
        let P : ℕ → Type 0 = λ k. ForAll sizes (variables_from k n) (with_value p (length ts) v) body in
        subst P one
        (for_more n (ts ++ t ∷ []) (with_value p (length ts) v) (one_more ts t p v names e)
        (All-append InPool ts (t ∷ []) within (All-cons InPool t [] there (All-nil InPool)))
        (λ all q many. then all q (omega (arith, many, one))))

    pub for_each : (n : ℕ) (p : Point) → ((ts : List Term) (q : Point) → length ts ≡ n → All InPool ts → Names ts q → body q)
        → ForAll sizes (variables_from 0 n) p body
    for_each n p then = for_more n [] p (λ place none. absurd (omega (arith, none))) (All-nil InPool) (λ all q many. then all q (omega (arith, many)))
