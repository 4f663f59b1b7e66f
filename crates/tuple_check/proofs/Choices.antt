-- The choices at which rules fail.
use Rattle.std.proofs.Common.{◌≡◌, ℕ, zero, suc, ◌+◌, ◌<◌, Bool, true, false, List, [], ◌∷◌, length, map, cond, refl, sym, ap, ◌∙◌, arith}
use Rattle.std.specs.Prelude.{◌≤◌, All, Some, slice_get}
use Rattle.std.proofs.lemmas.List.Elements.{All-head, All-tail, All-nil, All-cons}
use Rattle.std.proofs.lemmas.Option.{same_Some}
use Rattle.mbqi_terms.specs.Distinct.{AreDistinct}
use Rattle.mbqi_terms.specs.declared.formula.Formula.{Formula}
use Rattle.mbqi_terms.specs.declared.script.Function.{Function}
use Rattle.mbqi_terms.specs.declared.term.ArrayTerm.TheOpen.{Symbol-F, Term-F}
use Rattle.mbqi_terms.specs.declared.term.Symbol.{out-Symbol}
use Rattle.mbqi_terms.specs.declared.term.Symbol.TheVariants as symbol
use Rattle.mbqi_terms.specs.declared.term.Term.{Term, out-Term}
use Rattle.mbqi_terms.proofs.Levels.{out-apply, out-declared, out-seed}
use Rattle.element_atoms.specs.Profile.{constant, constants_from, constants_of, is_constant, seed}
use Rattle.element_atoms.specs.declared.atoms.GroundAtom.{GroundAtom}
use Rattle.element_atoms.specs.declared.pool.Pool.{Pool}
use Rattle.element_atoms.proofs.Numbers.{same_declared}
use Rattle.rule_form.specs.Rules.{pool_terms}
use Rattle.tuple_check.specs.Failing.{choice_of, failing_of, fails_at}
use Rattle.tuple_check.specs.Tuples.{tuples_where}
use Rattle.tuple_check.proofs.TupleLists.{at_place, distinct_append, distinct_nil, distinct_one}

-- the failing choices of a rule with variables
pub failing_some : (pool : Pool) (atoms : List GroundAtom) (truths : List Bool) (rule n : ℕ) (f : Formula) → 0 < n
    → map (choice_of pool.terms rule) (tuples_where (fails_at pool atoms truths f) (length pool.terms) n []) ≡ failing_of pool atoms truths rule n f
failing_some pool atoms truths rule zero f h = absurd (omega (arith, h))
failing_some pool atoms truths rule (suc n) f h = refl

-- the terms of the pool differ
constant_is : (f : ℕ) (t : Term) → Type 0
constant_is f t = (c : ℕ) × (f ≤ c) × (t ≡ constant c)

are_constants : (f : ℕ) (functions : List Function) → All (constant_is f) (constants_from f functions)
unfolding constant_is
are_constants f [] = All-nil (constant_is f)
are_constants f (function ∷ functions) = by (is_constant function) (raise (constants_from (f + 1) functions) (are_constants (f + 1) functions))
  where
    raise : (ts : List Term) → All (constant_is (f + 1)) ts → All (constant_is f) ts
    raise [] all = All-nil (constant_is f)
    raise (t ∷ ts) all =
        let first = All-head (constant_is (f + 1)) t ts all in
        All-cons (constant_is f) t ts (first.0, omega (arith, first.1), first.2) (raise ts (All-tail (constant_is (f + 1)) t ts all))

    by : (b : Bool) → All (constant_is f) (constants_from (f + 1) functions)
        → All (constant_is f) (cond b (constant f ∷ constants_from (f + 1) functions) (constants_from (f + 1) functions))
    by true rest = All-cons (constant_is f) (constant f) (constants_from (f + 1) functions) (f, omega arith, refl) rest
    by false rest = rest

constants_distinct : (f : ℕ) (functions : List Function) → AreDistinct (constants_from f functions)
unfolding constant_is
constants_distinct f [] = distinct_nil [] refl
constants_distinct f (function ∷ functions) = by (is_constant function) (constants_distinct (f + 1) functions) (are_constants (f + 1) functions)
  where
    apart : All (constant_is (f + 1)) (constants_from (f + 1) functions)
        → (i j : ℕ) (t : Term) → slice_get (constant f ∷ []) i ≡ Some t → slice_get (constants_from (f + 1) functions) j ≡ Some t → ⊥
    apart all zero j t e g =
        let other = at_place (constant_is (f + 1)) (constants_from (f + 1) functions) j t all g in
        let first : constant f ≡ t = same_Some (constant f) t e in
        let same = same_declared f other.0 [] [] (first ∙ other.2) in
        absurd (omega (arith, same.0, other.1))
    apart all (suc i) j t e g = cc

    by : (b : Bool) → AreDistinct (constants_from (f + 1) functions) → All (constant_is (f + 1)) (constants_from (f + 1) functions)
        → AreDistinct (cond b (constant f ∷ constants_from (f + 1) functions) (constants_from (f + 1) functions))
    by true rest all = distinct_append (constant f ∷ []) (constants_from (f + 1) functions) (distinct_one (constant f)) rest (apart all)
    by false rest all = rest

seed_no_constant : (c : ℕ) → seed ≡ constant c → ⊥
seed_no_constant c e =
    let layers : Term-F.Apply (symbol.Seed 0) [] ≡ Term-F.Apply (symbol.Declared c) [] = sym (out-apply (symbol.Seed 0) []) ∙ (ap out-Term e ∙ out-apply (symbol.Declared c) []) in
    let symbols : symbol.Seed 0 ≡ symbol.Declared c = cc in
    let heads : Symbol-F.Seed 0 ≡ Symbol-F.Declared c = sym (out-seed 0) ∙ (ap out-Symbol symbols ∙ out-declared c) in
    cc

pub pool_distinct : (functions : List Function) → AreDistinct (pool_terms functions)
unfolding constant_is
pool_distinct functions =
    distinct_append (constants_of functions) (seed ∷ []) (constants_distinct 0 functions) (distinct_one seed) apart
  where
    apart : (i j : ℕ) (t : Term) → slice_get (constants_of functions) i ≡ Some t → slice_get (seed ∷ []) j ≡ Some t → ⊥
    apart i zero t e g =
        let named = at_place (constant_is 0) (constants_of functions) i t (are_constants 0 functions) e in
        let last : seed ≡ t = same_Some seed t g in
        seed_no_constant named.0 (last ∙ named.2)
    apart i (suc j) t e g = cc
