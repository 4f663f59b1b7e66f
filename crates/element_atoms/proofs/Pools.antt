-- The pool made function by function is that of the functions.
use Rattle.std.proofs.Common.{◌≡◌, ℕ, ◌+◌, ◌<◌, ◌⊎◌, inl, inr, Bool, true, false, true≢false, List, [], ◌∷◌, ◌++◌, length, Some, slice_get, slice_index, if◌then◌else◌, refl, sym, ap, subst, ◌∙◌, arith, append_assoc, append-nil, length-append}
use Rattle.std.proofs.Math.ListN.{get_or-append}
use Rattle.std.proofs.Math.Seq.{get_or-append_seam}
use Rattle.std.proofs.lemmas.Option.{slice_get_within, slice_get_cases, same_Some}
use Rattle.mbqi_terms.specs.declared.script.Function.{Function}
use Rattle.mbqi_terms.specs.declared.term.Term.{Term}
use Rattle.mbqi_terms.proofs.Trees.{get_front, get_seam}
use Rattle.element_atoms.specs.Atoms.{IsPool}
use Rattle.element_atoms.specs.PoolSteps.{pool_with, pool_with_all, with_seed}
use Rattle.element_atoms.specs.Profile.{NamesConstant, IsConstant, constant, constants_of, constants_from, is_constant, is_element, seed}
use Rattle.element_atoms.specs.declared.pool.Pool.{Pool}

-- a pool before its seed
record IsConstantPool (functions : List Function) (pool : Pool) : Type 0 where
  terms : pool.terms ≡ constants_of functions
  numbers : length pool.numbers ≡ length functions
  places : (c : ℕ) → NamesConstant functions c → slice_get pool.terms (slice_index pool.numbers c) ≡ Some (constant c)

get-append : {X : Type 0} (xs ys : List X) (i : ℕ) (x : X) → slice_get xs i ≡ Some x → slice_get (xs ++ ys) i ≡ Some x
get-append xs ys i x e = let within = slice_get_within xs i x e in get_front xs ys i within ∙ e

-- the terms of functions with one more
one_more : ℕ → Function → List Term
one_more f function = if is_constant function then constant f ∷ [] else []

constants-push : (f : ℕ) (functions : List Function) (function : Function)
    → constants_from f (functions ++ function ∷ []) ≡ constants_from f functions ++ one_more (f + length functions) function
unfolding one_more
constants-push f [] function = by (is_constant function)
  where
    by : (b : Bool) → (if b then constant f ∷ [] else []) ≡ (if b then constant (f + 0) ∷ [] else [])
    by true = ap (λ n. constant n ∷ []) (omega arith)
    by false = refl
constants-push f (first ∷ functions) function =
    by (is_constant first) (constants-push (f + 1) functions function ∙ ap (λ n. constants_from (f + 1) functions ++ one_more n function) (omega arith))
  where
    by : (b : Bool) → constants_from (f + 1) (functions ++ function ∷ []) ≡ constants_from (f + 1) functions ++ one_more (f + length (first ∷ functions)) function
        → (if b then constant f ∷ constants_from (f + 1) (functions ++ function ∷ []) else constants_from (f + 1) (functions ++ function ∷ []))
        ≡ (if b then constant f ∷ constants_from (f + 1) functions else constants_from (f + 1) functions) ++ one_more (f + length (first ∷ functions)) function
    by true e = ap (λ terms. constant f ∷ terms) e
    by false e = e

module _ (before : List Function) (pool : Pool) (is : IsConstantPool before pool) (function : Function) where
  -- a constant among the functions before, or the next one
  names : (c : ℕ) → NamesConstant (before ++ function ∷ []) c → (NamesConstant before c × (c < length pool.numbers)) ⊎ ((c ≡ length pool.numbers) × IsConstant function)
  names c named =
      elim (slice_get_cases before c).1 [
        | inl here ↦
            let same : here.0 ≡ named.0 = same_Some here.0 named.0 (sym (get-append before (function ∷ []) c here.0 here.2) ∙ named.1) in
            let constant_is = subst IsConstant (sym same) named.2 in
            inl ((here.0, here.2, constant_is), omega (arith, is.numbers, here.1))
        | inr past ↦
            let within = slice_get_within (before ++ function ∷ []) c named.0 named.1 in
            let last : c ≡ length before = omega (arith, within, past.0, length-append before (function ∷ [])) in
            let same : function ≡ named.0 =
            same_Some function named.0 (sym (get_seam before function []) ∙ (ap (slice_get (before ++ function ∷ [])) (sym last) ∙ named.1)) in
            inr (last ∙ sym is.numbers, subst IsConstant (sym same) named.2)
      ]

  -- what stays of the places
  earlier : (more : List Term) (number c : ℕ) → NamesConstant before c → c < length pool.numbers
      → slice_get (pool.terms ++ more) (slice_index (pool.numbers ++ number ∷ []) c) ≡ Some (constant c)
  earlier more number c named within =
      ap (slice_get (pool.terms ++ more)) (get_or-append pool.numbers (number ∷ []) 0 c within)
      ∙ get-append pool.terms more (slice_index pool.numbers c) (constant c) (is.places c named)

  longer : (number : ℕ) → length (pool.numbers ++ number ∷ []) ≡ length (before ++ function ∷ [])
  longer number = omega (arith, is.numbers, length-append pool.numbers (number ∷ []), length-append before (function ∷ []))

  terms-push : (b : Bool) → is_constant function ≡ b
      → pool.terms ++ (if b then constant (length pool.numbers) ∷ [] else []) ≡ constants_of (before ++ function ∷ [])
  unfolding one_more
  terms-push b p =
      ap (λ ts. ts ++ (if b then constant (length pool.numbers) ∷ [] else [])) is.terms
      ∙ (ap (λ n. constants_of before ++ (if b then constant n ∷ [] else [])) number
      ∙ (ap (λ c. constants_of before ++ (if c then constant (0 + length before) ∷ [] else [])) (sym p) ∙ sym (constants-push 0 before function)))
    where
      number : length pool.numbers ≡ 0 + length before
      number = omega (arith, is.numbers)

  pool-with : IsConstantPool (before ++ function ∷ []) (pool_with pool function)
  pool-with = by (is_constant function) refl
    where
      place : (c : ℕ) → c ≡ length pool.numbers
          → slice_get (pool.terms ++ constant (length pool.numbers) ∷ []) (slice_index (pool.numbers ++ length pool.terms ∷ []) c) ≡ Some (constant c)
      place c e =
          ap (λ n. slice_get (pool.terms ++ constant (length pool.numbers) ∷ []) (slice_index (pool.numbers ++ length pool.terms ∷ []) n)) e
          ∙ (ap (slice_get (pool.terms ++ constant (length pool.numbers) ∷ [])) (get_or-append_seam pool.numbers (length pool.terms) [] 0)
          ∙ (get_seam pool.terms (constant (length pool.numbers)) [] ∙ ap (λ n. Some (constant n)) (sym e)))

      by : (b : Bool) → is_constant function ≡ b
          → IsConstantPool (before ++ function ∷ [])
          (if b then record { terms = pool.terms ++ constant (length pool.numbers) ∷ []; numbers = pool.numbers ++ length pool.terms ∷ [] }
          else record { terms = pool.terms; numbers = pool.numbers ++ 0 ∷ [] })
      by true p = record {
        terms = terms-push true p;
        numbers = longer (length pool.terms);
        places = λ c named. elim (names c named) [
          | inl before_it ↦ earlier (constant (length pool.numbers) ∷ []) (length pool.terms) c before_it.0 before_it.1
          | inr last ↦ place c last.0
        ];
      }
      by false p = record {
        terms = sym (append-nil pool.terms) ∙ terms-push false p;
        numbers = longer 0;
        places = λ c named. elim (names c named) [
          | inl before_it ↦
              ap (λ ts. slice_get ts (slice_index (pool.numbers ++ 0 ∷ []) c)) (sym (append-nil pool.terms)) ∙ earlier [] 0 c before_it.0 before_it.1
          | inr last ↦ absurd (true≢false (sym (ap is_element last.1.0) ∙ p))
        ];
      }

pools : (before functions : List Function) (pool : Pool) → IsConstantPool before pool → IsConstantPool (before ++ functions) (pool_with_all pool functions)
pools before [] pool is = subst (λ fs. IsConstantPool fs pool) (sym (append-nil before)) is
pools before (function ∷ functions) pool is =
    let rest = pools (before ++ function ∷ []) functions (pool_with pool function) (pool-with before pool is function) in
    subst (λ fs. IsConstantPool fs (pool_with_all pool (function ∷ functions))) (append_assoc before (function ∷ []) functions) rest

none : IsConstantPool [] (record { terms = []; numbers = [] })
none = record { terms = refl; numbers = refl; places = λ c named. absurd (none_there c named.0 named.1) }
  where
    none_there : (c : ℕ) (function : Function) → slice_get [] c ≡ Some function → ⊥
    none_there c function e = cc

pub pool_is : (functions : List Function) → IsPool functions (with_seed (pool_with_all (record { terms = []; numbers = [] }) functions))
pool_is functions =
    let pool = pool_with_all (record { terms = []; numbers = [] }) functions in
    let is = pools [] functions (record { terms = []; numbers = [] }) none in
    record {
      terms = ap (λ ts. ts ++ seed ∷ []) is.terms;
      numbers = is.numbers;
      places = λ c named. get-append pool.terms (seed ∷ []) (slice_index pool.numbers c) (constant c) (is.places c named);
    }
