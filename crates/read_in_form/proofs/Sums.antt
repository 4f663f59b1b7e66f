-- Sums and differences of integers in form are in form.
use Rattle.std.proofs.Common.{◌≡◌, zero, suc, ◌+◌, ◌-◌, ◌^◌, ℕ, ℤ, pos, negsuc, neg_ℤ, ◌-ℤ◌, Bool, true, false, cond, List, [], ◌∷◌, ◌++◌, map, Option, None, Some, Result, Ok, Err, refl, sym, subst}
use Rattle.std.specs.Option.{option_to_list}
use Rattle.mbqi_values.specs.declared.fault.FaultKind.{FaultKind}
use Rattle.mbqi_values.specs.declared.fault.FaultKind.TheVariants.{WrongCount}
use Rattle.mbqi_terms.specs.declared.script.Script.{Script}
use Rattle.mbqi_terms.specs.declared.sort.Binder.{Binder}
use Rattle.mbqi_terms.specs.declared.sort.Plain.{Plain}
use Rattle.mbqi_terms.specs.declared.sort.Plain.TheVariants as plain
use Rattle.mbqi_terms.specs.declared.sort.Sort.TheVariants as sort
use Rattle.mbqi_terms.specs.declared.term.ArrayTerm.TheBlock.{hidden-the_row-Term-1}
use Rattle.mbqi_terms.specs.declared.term.Term.{Term, out-Term}
use Rattle.mbqi_terms.specs.declared.term.Term.TheVariants as term
use Rattle.mbqi_terms.specs.Tree.{IsBase}
use denote.Hole.Carrier.{hidden}
use Rattle.smtlib_terms.specs.declared.meaning.Meaning.{Meaning}
use Rattle.smtlib_terms.specs.declared.meaning.Meaning.TheVariants as meaning
use Rattle.smtlib_terms.specs.declared.meaning.Side.{Side}
use Rattle.smtlib_terms.specs.declared.meaning.Side.TheVariants.{Meant, Difference}
use Rattle.smtlib_terms.specs.Meaning.{variables_of}
use Rattle.smtlib_terms.specs.Number.{Sum, bases_of, difference, less, limit_of, negation, negation_of, plus_number, sum_of, sum_of_terms, summed, summed_beside, term_of, total_of}
use Rattle.smtlib_terms.specs.Operators.{addition, as_integer, as_integers, integer_meant, is_numeral, meant, subtracted, subtraction, is_wide_term}
use Rattle.mbqi_terms.specs.HasSort.{HasSortIn}
use Rattle.smtlib_terms.specs.InForm.{HasSort}
use Rattle.read_in_form.proofs.Placed.{AreMeanings, IsMeaning, IsSideMeaning, IsTermOf}
use Rattle.read_in_form.proofs.SameSorts.{one_plain}
use Rattle.read_in_form.proofs.Steps.{passed, same_ok, stepped, not_so}
use Rattle.mbqi_terms.specs.Limits.{is_within}

-- integers
abbrev pub AreIntegers : Script → List Binder → List Term → Type 0
AreIntegers script scope [] = Unit {0}
AreIntegers script scope (t ∷ ts) = HasSort script scope t plain.Int × AreIntegers script scope ts

int_term : (script : Script) (scope : List Binder) (t : Term) → IsTermOf script scope sort.Int t → HasSort script scope t plain.Int
int_term script scope t h = subst (λ (p : Plain). HasSort script scope t p) (one_plain h.is plain.Int (sym h.sort)) h.term

pub term_int : (script : Script) (scope : List Binder) (t : Term) → HasSort script scope t plain.Int → IsTermOf script scope sort.Int t
term_int script scope t h = record { is = plain.Int; sort = refl; index = tt; term = h }

integer_of : (script : Script) (scope : List Binder) (next : ℕ) (m : Meaning) (t : Term) → IsMeaning script scope next m → as_integer m ≡ Ok t → HasSort script scope t plain.Int
integer_of script scope next (meaning.Formula f) t h is = cc
integer_of script scope next (meaning.Array i e a) t h is = cc
integer_of script scope next (meaning.Term sort.Truth u) t h is = cc
integer_of script scope next (meaning.Term (sort.Elem s) u) t h is = cc
integer_of script scope next (meaning.Term (sort.Array i e) u) t h is = cc
integer_of script scope next (meaning.Term sort.Int u) t h is = subst (λ (v : Term). HasSort script scope v plain.Int) (same_ok u t is) (int_term script scope u h)

pub integers_of : (script : Script) (scope : List Binder) (next : ℕ) (ms : List Meaning) (ts : List Term) → AreMeanings script scope next ms → as_integers ms ≡ Ok ts → AreIntegers script scope ts
integers_of script scope next [] ts hs is = subst (AreIntegers script scope) (same_ok [] ts is) tt
integers_of script scope next (m ∷ ms) ts hs is =
    let head = stepped (as_integer m) _ ts is in
    let tail = stepped (as_integers ms) _ ts head.rest in
    subst (AreIntegers script scope) (same_ok (head.value ∷ tail.value) ts tail.rest)
    (integer_of script scope next m head.value hs.0 head.first, integers_of script scope (next + variables_of m) ms tail.value hs.1 tail.first)

-- the base of a sum
abbrev IsBaseOf : Script → List Binder → Option Term → Type 0
IsBaseOf script scope None = Unit {0}
IsBaseOf script scope (Some t) = HasSort script scope t plain.Int × IsBase (out-Term t)

base_has : (script : Script) (scope : List Binder) (t : Term) (s : Plain) → s ≡ plain.Int → HasSort script scope t s → IsBaseOf script scope (sum_of t).base
unfolding hidden-the_row-Term-1 hidden out-Term denote.Hole.Carrier.out
base_has script scope t s is (HasSortIn.number n within) = tt
base_has script scope t s is (HasSortIn.sum u n h base some within) = (h, base)
base_has script scope t s is (HasSortIn.variable place e index found) = (subst (HasSort script scope (term.Var place)) is (HasSortIn.variable place e index found), tt)
base_has script scope t s is (HasSortIn.application f ts args e d hs) = (subst (HasSort script scope t) is (HasSortIn.application f ts args e d hs), tt)
base_has script scope t s is (HasSortIn.reading a u i e h index g) = (subst (HasSort script scope t) is (HasSortIn.reading a u i e h index g), tt)
base_has script scope t s is (HasSortIn.last a e h closed) = (subst (HasSort script scope t) is (HasSortIn.last a e h closed), tt)
base_has script scope t s is (HasSortIn.truth b) = absurd cc
base_has script scope t s is (HasSortIn.skolem assertion place ts args e hides d hs) = absurd cc
base_has script scope t s is (HasSortIn.seed k hides below) = absurd cc
base_has script scope t s is (HasSortIn.far hides) = absurd cc
base_has script scope t s is (HasSortIn.differing a b i e hides index ha hb) = absurd cc

base_of : (script : Script) (scope : List Binder) (t : Term) → HasSort script scope t plain.Int → IsBaseOf script scope (sum_of t).base
base_of script scope t h = base_has script scope t plain.Int refl h

plus_has : (script : Script) (scope : List Binder) (t : Term) (n : ℤ) → HasSort script scope t plain.Int → IsBase (out-Term t) → is_within (2 ^ 59) n ≡ true → HasSort script scope (plus_number t n) plain.Int
plus_has script scope t (pos zero) h base within = h
plus_has script scope t (pos (suc n)) h base within = HasSortIn.sum t (pos (suc n)) h base (λ is. cc) within
plus_has script scope t (negsuc n) h base within = HasSortIn.sum t (negsuc n) h base (λ is. cc) within

term_has : (script : Script) (scope : List Binder) (base : Option Term) (n : ℤ) → IsBaseOf script scope base → is_within (limit_of base) n ≡ true → HasSort script scope (term_of base n) plain.Int
term_has script scope None n h within = HasSortIn.number n within
term_has script scope (Some t) n h within = plus_has script scope t n h.0 h.1 within

summed_has : (script : Script) (scope : List Binder) (base : Option Term) (n : ℤ) (t : Term) → IsBaseOf script scope base → summed base n ≡ Ok t → HasSort script scope t plain.Int
summed_has script scope base n t h is =
    let test = passed (is_within (limit_of base) n) (Ok (term_of base n)) _ t is in
    subst (λ (u : Term). HasSort script scope u plain.Int) (same_ok (term_of base n) t test.1) (term_has script scope base n h test.0)

-- a number that isn't past its limit
within_limit : (base : Option Term) (n : ℤ) → is_wide_term (term_of base n) ≡ false → is_within (limit_of base) n ≡ true
unfolding hidden-the_row-Term-1 hidden
within_limit None n is = not_so (is_within (2 ^ 63 - 1) n) is
within_limit (Some t) (pos zero) is = refl
within_limit (Some t) (pos (suc n)) is = not_so (is_within (2 ^ 59) (pos (suc n))) is
within_limit (Some t) (negsuc n) is = not_so (is_within (2 ^ 59) (negsuc n)) is

pub moved_has : (script : Script) (scope : List Binder) (t : Term) (n : ℤ) → HasSort script scope t plain.Int → is_wide_term (term_of (sum_of t).base n) ≡ false → HasSort script scope (term_of (sum_of t).base n) plain.Int
moved_has script scope t n h is = term_has script scope (sum_of t).base n (base_of script scope t h) (within_limit (sum_of t).base n is)

-- the bases of sums
abbrev AreBases : Script → List Binder → List Term → Type 0
AreBases script scope [] = Unit {0}
AreBases script scope (t ∷ ts) = IsBaseOf script scope (Some t) × AreBases script scope ts

more_bases : (script : Script) (scope : List Binder) (base : Option Term) (ts : List Term) → IsBaseOf script scope base → AreBases script scope ts → AreBases script scope (option_to_list base ++ ts)
more_bases script scope None ts h hs = hs
more_bases script scope (Some t) ts h hs = (h, hs)

bases_are : (script : Script) (scope : List Binder) (ts : List Term) → AreIntegers script scope ts → AreBases script scope (bases_of (map sum_of ts))
bases_are script scope [] hs = tt
bases_are script scope (t ∷ ts) hs = more_bases script scope (sum_of t).base (bases_of (map sum_of ts)) (base_of script scope t hs.0) (bases_are script scope ts hs.1)

beside_has : (script : Script) (scope : List Binder) (bases : List Term) (n : ℤ) (t : Term) → AreBases script scope bases → summed_beside bases n ≡ Ok t → HasSort script scope t plain.Int
beside_has script scope [] n t hs is = summed_has script scope None n t tt is
beside_has script scope (u ∷ []) n t hs is = summed_has script scope (Some u) n t hs.0 is
beside_has script scope (u ∷ v ∷ us) n t hs is = cc

-- the words of sums
integer_placed : (script : Script) (scope : List Binder) (next : ℕ) (r : Result Term FaultKind) (m : Meaning) → ((t : Term) → r ≡ Ok t → HasSort script scope t plain.Int) → integer_meant r ≡ Ok m → IsMeaning script scope next m
integer_placed script scope next (Err kind) m has is = cc
integer_placed script scope next (Ok t) m has is =
    subst (IsMeaning script scope next) (same_ok (meaning.Term sort.Int t) m is) (term_int script scope t (has t refl))

pub addition_placed : (script : Script) (scope : List Binder) (next : ℕ) (args : List Meaning) (m : Meaning) → AreMeanings script scope next args → addition args ≡ Ok m → IsMeaning script scope next m
addition_placed script scope next args m hs is =
    let some = passed _ _ WrongCount m is in
    let terms = stepped (as_integers args) _ m some.1 in
    let are = integers_of script scope next args terms.value hs terms.first in
    integer_placed script scope next (sum_of_terms (map sum_of terms.value)) m
    (λ t made. beside_has script scope (bases_of (map sum_of terms.value)) (total_of (map sum_of terms.value)) t (bases_are script scope terms.value are) made)
    terms.rest

less_has : (script : Script) (scope : List Binder) (s : Sum) (bases : List Term) (n : ℤ) (t : Term) → IsBaseOf script scope s.base → less s bases n ≡ Ok t → HasSort script scope t plain.Int
less_has script scope s [] n t h is = summed_has script scope s.base (s.number -ℤ n) t h is
less_has script scope s (u ∷ us) n t h is = cc

negation_has : (script : Script) (scope : List Binder) (base : Option Term) (n : ℤ) (t : Term) → negation_of base n ≡ Ok t → HasSort script scope t plain.Int
negation_has script scope None n t is = summed_has script scope None (neg_ℤ n) t tt is
negation_has script scope (Some u) n t is = cc

side_placed : (script : Script) (scope : List Binder) (next : ℕ) (r : Result Term FaultKind) (s : Side) → ((t : Term) → r ≡ Ok t → HasSort script scope t plain.Int) → meant (integer_meant r) ≡ Ok s → IsSideMeaning script scope next s
side_placed script scope next (Err kind) s has is = cc
side_placed script scope next (Ok t) s has is =
    subst (IsSideMeaning script scope next) (same_ok (Meant (meaning.Term sort.Int t)) s is) (term_int script scope t (has t refl))

two_placed : (script : Script) (scope : List Binder) (next : ℕ) (t u : Term) (numeral : Bool) (s : Side) → HasSort script scope t plain.Int → HasSort script scope u plain.Int →
    cond numeral (meant (integer_meant (difference (sum_of t) (sum_of u ∷ [])))) (Ok (Difference t u)) ≡ Ok s → IsSideMeaning script scope next s
two_placed script scope next t u true s ht hu is =
    side_placed script scope next (difference (sum_of t) (sum_of u ∷ [])) s (λ v made. less_has script scope (sum_of t) (bases_of (sum_of u ∷ [])) (total_of (sum_of u ∷ [])) v (base_of script scope t ht) made) is
two_placed script scope next t u false s ht hu is =
    subst (IsSideMeaning script scope next) (same_ok (Difference t u) s is) (record { first = ht; second = hu })

subtracted_placed : (script : Script) (scope : List Binder) (next : ℕ) (ts : List Term) (s : Side) → AreIntegers script scope ts → subtracted ts ≡ Ok s → IsSideMeaning script scope next s
subtracted_placed script scope next [] s hs is = cc
subtracted_placed script scope next (t ∷ []) s hs is =
    side_placed script scope next (negation (sum_of t)) s (λ v made. negation_has script scope (sum_of t).base (sum_of t).number v made) is
subtracted_placed script scope next (t ∷ u ∷ []) s hs is = two_placed script scope next t u (is_numeral u) s hs.0 hs.1.0 is
subtracted_placed script scope next (t ∷ u ∷ v ∷ ts) s hs is =
    let others = map sum_of (u ∷ v ∷ ts) in
    side_placed script scope next (difference (sum_of t) others) s (λ w made. less_has script scope (sum_of t) (bases_of others) (total_of others) w (base_of script scope t hs.0) made) is

pub subtraction_placed : (script : Script) (scope : List Binder) (next : ℕ) (args : List Meaning) (s : Side) → AreMeanings script scope next args → subtraction args ≡ Ok s → IsSideMeaning script scope next s
subtraction_placed script scope next args s hs is =
    let some = passed _ _ WrongCount s is in
    let terms = stepped (as_integers args) _ s some.1 in
    subtracted_placed script scope next terms.value s (integers_of script scope next args terms.value hs terms.first) terms.rest
