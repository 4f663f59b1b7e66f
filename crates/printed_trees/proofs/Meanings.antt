-- What operators make of what terms mean.
use Rattle.std.proofs.Common.{◌≡◌, ◌≢◌, zero, suc, ◌^◌, ℤ, pos, negsuc, Bool, true, false, cond, List, [], ◌∷◌, length, map, Some, None, Result, Ok, Err, refl, ap, ◌∙◌}
use Rattle.std.specs.Prelude.{not}
use Rattle.std.proofs.Math.IntN.{+ℤ_idl}
use Rattle.mbqi_values.specs.declared.fault.FaultKind.{FaultKind}
use Rattle.mbqi_values.specs.declared.fault.FaultKind.TheVariants.{OffsetTooWide}
use Rattle.mbqi_terms.specs.declared.formula.Formula.TheVariants as formula
use Rattle.mbqi_terms.specs.declared.script.Script.{Script}
use Rattle.mbqi_terms.specs.declared.sort.Binder.{Binder}
use Rattle.mbqi_terms.specs.declared.sort.Plain.{Plain}
use Rattle.mbqi_terms.specs.declared.sort.Plain.TheVariants as plain
use Rattle.mbqi_terms.specs.declared.sort.Sort.TheVariants as sort
use Rattle.mbqi_terms.specs.declared.term.ArrayTerm.{ArrayTerm}
use Rattle.mbqi_terms.specs.declared.term.ArrayTerm.TheBlock.{hidden-the_row-Term-1}
use Rattle.mbqi_terms.specs.declared.term.ArrayTerm.TheVariants as array
use Rattle.mbqi_terms.specs.declared.term.Term.{Term, out-Term}
use Rattle.mbqi_terms.specs.declared.term.Term.TheVariants as term
use Rattle.mbqi_terms.specs.Tree.{IsBase}
use denote.Hole.Carrier.{hidden}
use Rattle.smtlib_terms.specs.declared.meaning.Meaning.{Meaning}
use Rattle.smtlib_terms.specs.declared.meaning.Meaning.TheVariants as meaning
use Rattle.smtlib_terms.specs.Applying.{are_over, arrays_of, have_sorts, terms_of}
use Rattle.mbqi_terms.specs.Varies.{varies}
use Rattle.smtlib_terms.specs.Names.{◌>>=◌}
use Rattle.smtlib_terms.specs.Number.{Sum, plus_number, sum_of, sum_of_terms, summed}
use Rattle.smtlib_terms.specs.Operators.{addition, as_plain, constant, defaulting, integer_meant, selection, storing, term_meant, unbound, is_wide_term}
use Rattle.mbqi_terms.specs.HasSort.{AreArraysIn, HasSortIn, HaveSortsIn, IsIndexSort, IsNoTruth}
use Rattle.smtlib_terms.specs.InForm.{AreArrays, HasSort, HaveSorts}
use Rattle.mbqi_terms.specs.Depth.{depth_of_term}
use Rattle.smtlib_terms.specs.Meaning.{unless_deep}
use Rattle.printed_trees.proofs.Depths.{meant_sort}
use Rattle.printed_trees.proofs.ReadNames.{own_plain, own_sort}
use Rattle.mbqi_terms.specs.Sort.{plain_sort}
use Rattle.mbqi_terms.specs.Limits.{is_within}

-- the arguments of a function
abbrev pub meanings_of : List Term → List Plain → List Meaning
meanings_of [] ss = []
meanings_of (t ∷ ts) [] = []
meanings_of (t ∷ ts) (s ∷ ss) = term_meant s t ∷ meanings_of ts ss

pub meanings_count : (script : Script) (scope : List Binder) (ts : List Term) (ss : List Plain) → HaveSorts script scope ts ss → length (meanings_of ts ss) ≡ length (map plain_sort ss)
meanings_count script scope ts ss HaveSortsIn.no_terms = refl
meanings_count script scope ts ss (HaveSortsIn.more_terms t us s rs index h hs) = ap suc (meanings_count script scope us rs hs)

pub meanings_sorts : (script : Script) (scope : List Binder) (ts : List Term) (ss : List Plain) → HaveSorts script scope ts ss → have_sorts (map plain_sort ss) (meanings_of ts ss) ≡ true
meanings_sorts script scope ts ss HaveSortsIn.no_terms = refl
meanings_sorts script scope ts ss (HaveSortsIn.more_terms t us s rs index h hs) =
    rw (meant_sort s t, own_sort s) (meanings_sorts script scope us rs hs)

first_term : (script : Script) (s : Plain) (t : Term) (ms : List Meaning) → IsIndexSort (length script.sorts) s → terms_of (term_meant s t ∷ ms) ≡ terms_of ms >>= (λ ts. Ok (t ∷ ts))
first_term script plain.Truth t ms is = absurd is
first_term script plain.Int t ms is = refl
first_term script (plain.Elem s) t ms is = refl

pub meanings_terms : (script : Script) (scope : List Binder) (ts : List Term) (ss : List Plain) → HaveSorts script scope ts ss → terms_of (meanings_of ts ss) ≡ Ok ts
meanings_terms script scope ts ss HaveSortsIn.no_terms = refl
meanings_terms script scope ts ss (HaveSortsIn.more_terms t us s rs index h hs) =
    first_term script s t (meanings_of us rs) index ∙ ap (λ (r : Result (List Term) FaultKind). r >>= (λ (more : List Term). Ok (t ∷ more))) (meanings_terms script scope us rs hs)

-- a term in the place of its sort
pub index_plainly : (script : Script) (i : Plain) (t : Term) → IsIndexSort (length script.sorts) i → as_plain i (term_meant i t) ≡ Ok t
index_plainly script plain.Truth t is = absurd is
index_plainly script plain.Int t is = refl
index_plainly script (plain.Elem s) t is = rw (own_sort (plain.Elem s)) refl

term_plainly : (e : Plain) (t : Term) → as_plain e (term_meant e t) ≡ Ok t
term_plainly plain.Truth t = refl
term_plainly plain.Int t = refl
term_plainly (plain.Elem s) t = rw (own_sort (plain.Elem s)) refl

-- what a term in form means: a truth is a formula
abbrev pub own_meaning : (script : Script) (scope : List Binder) (t : Term) (s : Plain) → HasSort script scope t s → Meaning
own_meaning script scope t s (HasSortIn.truth b) = meaning.Formula (formula.Truth b)
own_meaning script scope t s h = term_meant s t

pub index_meaning : (script : Script) (scope : List Binder) (t : Term) (s : Plain) → IsIndexSort (length script.sorts) s → (h : HasSort script scope t s) → own_meaning script scope t s h ≡ term_meant s t
index_meaning script scope t s index (HasSortIn.truth b) = absurd index
index_meaning script scope t s index h = refl

pub other_meaning : (script : Script) (scope : List Binder) (t : Term) (s : Plain) → IsNoTruth t → (h : HasSort script scope t s) → own_meaning script scope t s h ≡ term_meant s t
other_meaning script scope t s other (HasSortIn.truth b) = absurd (other b refl)
other_meaning script scope t s other h = refl

pub own_plainly : (script : Script) (scope : List Binder) (v : Term) (e : Plain) (h : HasSort script scope v e) → as_plain e (own_meaning script scope v e h) ≡ Ok v
own_plainly script scope v e (HasSortIn.truth b) = refl
own_plainly script scope v e h = term_plainly e v

-- an array term without variables
pub unbound_ok : (i e : Plain) (a : ArrayTerm) → varies a ≡ false → unbound i e a ≡ Ok (meaning.Array i e a)
unbound_ok i e a is = rw is refl

pub selection_ok : (script : Script) (a : ArrayTerm) (t : Term) (i e : Plain) → IsIndexSort (length script.sorts) i → selection (meaning.Array i e a ∷ term_meant i t ∷ []) ≡ Ok (term_meant e (term.Read a t))
selection_ok script a t i e index = ap (λ (r : Result Term FaultKind). r >>= (λ (u : Term). Ok (term_meant e (term.Read a u)))) (index_plainly script i t index)

pub storing_ok : (script : Script) (scope : List Binder) (a : ArrayTerm) (t v : Term) (i e : Plain) (index : IsIndexSort (length script.sorts) i) (h : HasSort script scope v e) → varies (array.Store a t v) ≡ false →
    storing (meaning.Array i e a ∷ term_meant i t ∷ own_meaning script scope v e h ∷ []) ≡ Ok (meaning.Array i e (array.Store a t v))
storing_ok script scope a t v i e index h is =
    ap (λ (r : Result Term FaultKind). r >>= (λ (value : Term). as_plain i (term_meant i t) >>= (λ (u : Term). unbound i e (array.Store a u value)))) (own_plainly script scope v e h)
    ∙ (ap (λ (r : Result Term FaultKind). r >>= (λ (u : Term). unbound i e (array.Store a u v))) (index_plainly script i t index)
    ∙ unbound_ok i e (array.Store a t v) is)

pub constant_ok : (script : Script) (scope : List Binder) (v : Term) (i e : Plain) (h : HasSort script scope v e) → varies (array.Const (sort.Array i e) v) ≡ false →
    constant (sort.Array i e) (own_meaning script scope v e h ∷ []) ≡ Ok (meaning.Array i e (array.Const (sort.Array i e) v))
constant_ok script scope v i e h is =
    ap (λ (r : Result Term FaultKind). r >>= (λ (value : Term). unbound i e (array.Const (sort.Array i e) value))) (own_plainly script scope v e h)
    ∙ unbound_ok i e (array.Const (sort.Array i e) v) is

pub defaulting_ok : (a : ArrayTerm) (e : Plain) → varies a ≡ false → defaulting (meaning.Array plain.Int e a ∷ []) ≡ Ok (term_meant e (term.Default a))
defaulting_ok a e is = rw is refl

-- the arrays of a map
abbrev pub arrays_meant : List ArrayTerm → Plain → List Plain → List Meaning
arrays_meant [] i es = []
arrays_meant (a ∷ arrays) i [] = []
arrays_meant (a ∷ arrays) i (e ∷ es) = meaning.Array i e a ∷ arrays_meant arrays i es

pub arrays_count : (script : Script) (scope : List Binder) (arrays : List ArrayTerm) (i : Plain) (es : List Plain) → AreArrays script scope arrays i es → length (arrays_meant arrays i es) ≡ length (map plain_sort es)
arrays_count script scope arrays i es (AreArraysIn.no_arrays j) = refl
arrays_count script scope arrays i es (AreArraysIn.more_arrays a bs j e gs h hs) = ap suc (arrays_count script scope bs j gs hs)

pub arrays_over : (script : Script) (scope : List Binder) (arrays : List ArrayTerm) (i : Plain) (es : List Plain) → AreArrays script scope arrays i es → are_over i (map plain_sort es) (arrays_meant arrays i es) ≡ true
arrays_over script scope arrays i es (AreArraysIn.no_arrays j) = refl
arrays_over script scope arrays i es (AreArraysIn.more_arrays a bs j e gs h hs) =
    rw (own_plain j, own_sort e) (arrays_over script scope bs j gs hs)

pub arrays_terms : (script : Script) (scope : List Binder) (arrays : List ArrayTerm) (i : Plain) (es : List Plain) → AreArrays script scope arrays i es → arrays_of (arrays_meant arrays i es) ≡ arrays
arrays_terms script scope arrays i es (AreArraysIn.no_arrays j) = refl
arrays_terms script scope arrays i es (AreArraysIn.more_arrays a bs j e gs h hs) = ap (λ (more : List ArrayTerm). a ∷ more) (arrays_terms script scope bs j gs hs)

-- numbers within their limits
pub narrow_term : (script : Script) (scope : List Binder) (t : Term) (s : Plain) → HasSort script scope t s → is_wide_term t ≡ false
unfolding hidden-the_row-Term-1 hidden
narrow_term script scope t s (HasSortIn.number n within) = ap not within
narrow_term script scope t s (HasSortIn.sum u n h base some within) = ap not within
narrow_term script scope t s (HasSortIn.variable place e index found) = refl
narrow_term script scope t s (HasSortIn.application f ts args e d hs) = refl
narrow_term script scope t s (HasSortIn.reading a u i e h index g) = refl
narrow_term script scope t s (HasSortIn.last a e h closed) = refl
narrow_term script scope t s (HasSortIn.truth b) = refl
narrow_term script scope t s (HasSortIn.skolem assertion place ts args e hides d hs) = refl
narrow_term script scope t s (HasSortIn.seed k hides below) = refl
narrow_term script scope t s (HasSortIn.far hides) = refl
narrow_term script scope t s (HasSortIn.differing a b i e hides index ha hb) = refl

-- sums
base_sum : (script : Script) (scope : List Binder) (t : Term) (s : Plain) → HasSort script scope t s → IsBase (out-Term t) → sum_of t ≡ record { base = Some t; number = pos 0 }
unfolding hidden-the_row-Term-1 hidden out-Term denote.Hole.Carrier.out
base_sum script scope t s (HasSortIn.number n within) is = absurd is
base_sum script scope t s (HasSortIn.sum u n h base some within) is = absurd is
base_sum script scope t s (HasSortIn.variable place e index found) is = refl
base_sum script scope t s (HasSortIn.application f ts args e d hs) is = refl
base_sum script scope t s (HasSortIn.reading a u i e h index g) is = refl
base_sum script scope t s (HasSortIn.last a e h closed) is = refl
base_sum script scope t s (HasSortIn.truth b) is = refl
base_sum script scope t s (HasSortIn.skolem assertion place ts args e hides d hs) is = absurd cc
base_sum script scope t s (HasSortIn.seed k hides below) is = absurd cc
base_sum script scope t s (HasSortIn.far hides) is = absurd cc
base_sum script scope t s (HasSortIn.differing a b i e hides index ha hb) is = absurd cc

plus_some : (t : Term) (n : ℤ) → n ≢ pos 0 → plus_number t n ≡ term.Plus t n
plus_some t (pos zero) some = absurd (some refl)
plus_some t (pos (suc n)) some = refl
plus_some t (negsuc n) some = refl

pub addition_ok : (script : Script) (scope : List Binder) (t : Term) (n : ℤ) → HasSort script scope t plain.Int → IsBase (out-Term t) → n ≢ pos 0 → is_within (2 ^ 59) n ≡ true →
    addition (meaning.Term sort.Int t ∷ meaning.Term sort.Int (term.Num n) ∷ []) ≡ Ok (meaning.Term sort.Int (term.Plus t n))
addition_ok script scope t n h base some within =
    ap (λ (u : Sum). integer_meant (sum_of_terms (u ∷ record { base = None; number = n } ∷ []))) (base_sum script scope t plain.Int h base)
    ∙ (ap (λ (m : ℤ). integer_meant (summed (Some t) m)) (+ℤ_idl n)
    ∙ (ap (λ (b : Bool). integer_meant (cond b (Ok (plus_number t n)) (Err (unless_deep OffsetTooWide (depth_of_term (plus_number t n)))))) within
    ∙ ap (λ (u : Term). Ok (meaning.Term sort.Int u)) (plus_some t n some)))
