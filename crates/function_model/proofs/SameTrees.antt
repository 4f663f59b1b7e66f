-- Two array terms pass the test of being one tree exactly where they are.
use Rattle.std.proofs.Common.{◌≡◌, ◌↔◌, ℕ, ℤ, Bool, true, false, true≢false, ◌&&◌, IsTrue, List, [], ◌∷◌, map, not, if◌then◌else◌, eqb, refl, ap, sym, subst, ◌∙◌, eqb-true, eq-eqb}
use Rattle.std.specs.List.{AllByRecursion}
use Rattle.std.specs.Ordering.{int_cmp, is_eq}
use Rattle.std.proofs.lemmas.Bool.{and_from, and_parts}
use Rattle.std.proofs.lemmas.Cmp.{int_cmp_total, tied_itself}
use Rattle.std.proofs.lemmas.Map.Lookups.{exact_signed}
use Rattle.std.specs.declared.cmp.Ordering.{Ordering}
use Rattle.std.specs.declared.cmp.Ordering.TheVariants.{Less, Equal, Greater}
use Rattle.mbqi_terms.specs.declared.sort.Plain.{Plain}
use Rattle.mbqi_terms.specs.declared.sort.Plain.TheVariants as plain
use Rattle.mbqi_terms.specs.declared.sort.Sort.{Sort}
use Rattle.mbqi_terms.specs.declared.sort.Sort.TheVariants as sort
use Rattle.mbqi_terms.specs.declared.term.ArrayTerm.{ArrayTerm, out-ArrayTerm}
use Rattle.mbqi_terms.specs.declared.term.ArrayTerm.TheFolds.{fold-Symbol, fold-roll-ArrayTerm, fold-roll-Symbol, fold-roll-Term, map-ArrayTerm, map-Symbol, map-Term}
use Rattle.mbqi_terms.specs.declared.term.ArrayTerm.TheOpen.{ArrayTerm-F, Symbol-F, Term-F}
use Rattle.mbqi_terms.specs.declared.term.ArrayTerm.TheVariants as array
use Rattle.mbqi_terms.specs.declared.term.ArrayTerm.TheViews.{out-roll-ArrayTerm, out-roll-Symbol, out-roll-Term, roll-ArrayTerm, roll-Symbol, roll-Term, roll-out-ArrayTerm, roll-out-Symbol, roll-out-Term}
use Rattle.mbqi_terms.specs.declared.term.MapOp.{MapOp}
use Rattle.mbqi_terms.specs.declared.term.MapOp.TheVariants as op
use Rattle.mbqi_terms.specs.declared.term.Symbol.{Symbol, out-Symbol}
use Rattle.mbqi_terms.specs.declared.term.Symbol.TheVariants as symbol
use Rattle.mbqi_terms.specs.declared.term.Term.{Term, out-Term}
use Rattle.mbqi_terms.specs.declared.term.Term.TheVariants as term
use Rattle.mbqi_terms.specs.SameTree.{all_pass, array_test, same_array, same_operation, same_term, symbol_test, term_test}
use Rattle.mbqi_terms.specs.Sort.{is_plain, is_sort}
use Rattle.mbqi_terms.specs.Tree.{Layer}
use Rattle.function_model.proofs.Induction.{Cases, each_array}

-- the tests of a level's own data
never : {P : Type 0} → false ≡ true → P
never e = absurd (true≢false (sym e))

equal_from : (o : Ordering) → is_eq o ≡ true → o ≡ Equal
equal_from Less e = never e
equal_from Equal e = refl
equal_from Greater e = never e

number_is : (m n : ℤ) → is_eq (int_cmp m n) ≡ true → m ≡ n
number_is m n e = exact_signed m n (equal_from (int_cmp m n) e)

number_self : (n : ℤ) → is_eq (int_cmp n n) ≡ true
number_self n = ap is_eq (tied_itself int_cmp_total n)

truth_is : (b c : Bool) → (if b then c else not c) ≡ true → b ≡ c
truth_is true true e = refl
truth_is true false e = never e
truth_is false true e = never e
truth_is false false e = refl

truth_self : (b : Bool) → (if b then b else not b) ≡ true
truth_self true = refl
truth_self false = refl

operation_is : (f g : MapOp) → same_operation f g ≡ true → f ≡ g
operation_is (op.Declared f) (op.Declared g) e = ap op.Declared (eqb-true f g e)
operation_is (op.Declared f) op.And e = never e
operation_is (op.Declared f) op.Or e = never e
operation_is (op.Declared f) op.Not e = never e
operation_is op.And (op.Declared g) e = never e
operation_is op.And op.And e = refl
operation_is op.And op.Or e = never e
operation_is op.And op.Not e = never e
operation_is op.Or (op.Declared g) e = never e
operation_is op.Or op.And e = never e
operation_is op.Or op.Or e = refl
operation_is op.Or op.Not e = never e
operation_is op.Not (op.Declared g) e = never e
operation_is op.Not op.And e = never e
operation_is op.Not op.Or e = never e
operation_is op.Not op.Not e = refl

operation_self : (f : MapOp) → same_operation f f ≡ true
operation_self (op.Declared f) = eq-eqb f f refl
operation_self op.And = refl
operation_self op.Or = refl
operation_self op.Not = refl

plain_is : (p q : Plain) → is_plain p q ≡ true → p ≡ q
plain_is plain.Truth plain.Truth e = refl
plain_is plain.Truth plain.Int e = never e
plain_is plain.Truth (plain.Elem t) e = never e
plain_is plain.Int plain.Truth e = never e
plain_is plain.Int plain.Int e = refl
plain_is plain.Int (plain.Elem t) e = never e
plain_is (plain.Elem s) plain.Truth e = never e
plain_is (plain.Elem s) plain.Int e = never e
plain_is (plain.Elem s) (plain.Elem t) e = ap plain.Elem (eqb-true s t e)

plain_self : (p : Plain) → is_plain p p ≡ true
plain_self plain.Truth = refl
plain_self plain.Int = refl
plain_self (plain.Elem s) = eq-eqb s s refl

sort_is : (s t : Sort) → is_sort s t ≡ true → s ≡ t
sort_is sort.Truth sort.Truth e = refl
sort_is sort.Truth sort.Int e = never e
sort_is sort.Truth (sort.Elem t) e = never e
sort_is sort.Truth (sort.Array i f) e = never e
sort_is sort.Int sort.Truth e = never e
sort_is sort.Int sort.Int e = refl
sort_is sort.Int (sort.Elem t) e = never e
sort_is sort.Int (sort.Array i f) e = never e
sort_is (sort.Elem s) sort.Truth e = never e
sort_is (sort.Elem s) sort.Int e = never e
sort_is (sort.Elem s) (sort.Elem t) e = ap sort.Elem (eqb-true s t e)
sort_is (sort.Elem s) (sort.Array i f) e = never e
sort_is (sort.Array i f) sort.Truth e = never e
sort_is (sort.Array i f) sort.Int e = never e
sort_is (sort.Array i f) (sort.Elem t) e = never e
sort_is (sort.Array i f) (sort.Array j g) e =
    let both = and_parts (is_plain i j) (is_plain f g) e in
    let index = plain_is i j both.0 in
    let element = plain_is f g both.1 in
    λ k. sort.Array (index k) (element k)

sort_self : (s : Sort) → is_sort s s ≡ true
sort_self sort.Truth = refl
sort_self sort.Int = refl
sort_self (sort.Elem s) = eq-eqb s s refl
sort_self (sort.Array i f) = and_from (is_plain i i) (is_plain f f) (plain_self i) (plain_self f)

-- the test of a symbol
same_symbol : Symbol → Symbol → Bool
same_symbol = fold-Symbol (ArrayTerm → Bool) (Symbol → Bool) (Term → Bool)
    (λ layer a. array_test layer (out-ArrayTerm a)) (λ layer f. symbol_test layer (out-Symbol f)) (λ layer t. term_test layer (out-Term t))

-- the test of a level, by those of its parts
rolled_array : (layer : ArrayTerm-F ArrayTerm Symbol Term) (b : ArrayTerm) → same_array (roll-ArrayTerm layer) b
    ≡ array_test (map-ArrayTerm ArrayTerm Symbol Term (ArrayTerm → Bool) (Symbol → Bool) (Term → Bool) same_array same_symbol same_term layer) (out-ArrayTerm b)
unfolding same_array same_symbol same_term
rolled_array layer b =
    ap (λ test. test b) (fold-roll-ArrayTerm (ArrayTerm → Bool) (Symbol → Bool) (Term → Bool)
    (λ layer a. array_test layer (out-ArrayTerm a)) (λ layer f. symbol_test layer (out-Symbol f)) (λ layer t. term_test layer (out-Term t)) layer)

rolled_symbol : (layer : Symbol-F ArrayTerm Symbol Term) (g : Symbol) → same_symbol (roll-Symbol layer) g
    ≡ symbol_test (map-Symbol ArrayTerm Symbol Term (ArrayTerm → Bool) (Symbol → Bool) (Term → Bool) same_array same_symbol same_term layer) (out-Symbol g)
unfolding same_array same_symbol same_term
rolled_symbol layer g =
    ap (λ test. test g) (fold-roll-Symbol (ArrayTerm → Bool) (Symbol → Bool) (Term → Bool)
    (λ layer a. array_test layer (out-ArrayTerm a)) (λ layer f. symbol_test layer (out-Symbol f)) (λ layer t. term_test layer (out-Term t)) layer)

rolled_term : (layer : Layer) (u : Term) → same_term (roll-Term layer) u
    ≡ term_test (map-Term ArrayTerm Symbol Term (ArrayTerm → Bool) (Symbol → Bool) (Term → Bool) same_array same_symbol same_term layer) (out-Term u)
unfolding same_array same_symbol same_term
rolled_term layer u =
    ap (λ test. test u) (fold-roll-Term (ArrayTerm → Bool) (Symbol → Bool) (Term → Bool)
    (λ layer a. array_test layer (out-ArrayTerm a)) (λ layer f. symbol_test layer (out-Symbol f)) (λ layer t. term_test layer (out-Term t)) layer)

-- what passes is the tree
abbrev IsArray : ArrayTerm → Type 0
IsArray a = (b : ArrayTerm) → same_array a b ≡ true → a ≡ b

abbrev IsSymbol : Symbol → Type 0
IsSymbol f = (g : Symbol) → same_symbol f g ≡ true → f ≡ g

abbrev IsTerm : Term → Type 0
IsTerm t = (u : Term) → same_term t u ≡ true → t ≡ u

all_are : {X : Type 0} (same : X → X → Bool) (xs ys : List X) → AllByRecursion (λ x. (y : X) → same x y ≡ true → x ≡ y) xs
    → all_pass (map same xs) ys ≡ true → xs ≡ ys
all_are same [] [] each e = refl
all_are same [] (y ∷ ys) each e = never e
all_are same (x ∷ xs) [] each e = never e
all_are same (x ∷ xs) (y ∷ ys) each e =
    let both = and_parts (same x y) (all_pass (map same xs) ys) e in
    let first = each.0 y both.0 in
    let rest = all_are same xs ys each.1 both.1 in
    λ k. first k ∷ rest k

name_is : (f : ℕ) (y : ArrayTerm-F ArrayTerm Symbol Term) → array_test (ArrayTerm-F.Name f) y ≡ true → ArrayTerm-F.Name f ≡ y
name_is f (ArrayTerm-F.Name g) e = ap (λ n. ArrayTerm-F.Name n) (eqb-true f g e)
name_is f y e = never e

store_is : (a : ArrayTerm) (i v : Term) → IsArray a → IsTerm i → IsTerm v → (y : ArrayTerm-F ArrayTerm Symbol Term)
    → array_test (ArrayTerm-F.Store (same_array a) (same_term i) (same_term v)) y ≡ true → ArrayTerm-F.Store a i v ≡ y
store_is a i v left index worth (ArrayTerm-F.Store b j w) e =
    let both = and_parts (same_array a b) (same_term i j && same_term v w) e in
    let rest = and_parts (same_term i j) (same_term v w) both.1 in
    let changed = left b both.0 in
    let at = index j rest.0 in
    let stored = worth w rest.1 in
    λ k. ArrayTerm-F.Store (changed k) (at k) (stored k)
store_is a i v left index worth y e = never e

constant_is : (s : Sort) (v : Term) → IsTerm v → (y : ArrayTerm-F ArrayTerm Symbol Term)
    → array_test (ArrayTerm-F.Const s (same_term v)) y ≡ true → ArrayTerm-F.Const s v ≡ y
constant_is s v worth (ArrayTerm-F.Const t w) e =
    let both = and_parts (is_sort s t) (same_term v w) e in
    let sorts = sort_is s t both.0 in
    let values = worth w both.1 in
    λ k. ArrayTerm-F.Const (sorts k) (values k)
constant_is s v worth y e = never e

map_is : (f : MapOp) (parts : List ArrayTerm) → AllByRecursion IsArray parts → (y : ArrayTerm-F ArrayTerm Symbol Term)
    → array_test (ArrayTerm-F.Map f (map same_array parts)) y ≡ true → ArrayTerm-F.Map f parts ≡ y
map_is f parts all (ArrayTerm-F.Map g others) e =
    let both = and_parts (same_operation f g) (all_pass (map same_array parts) others) e in
    let operations = operation_is f g both.0 in
    let arrays = all_are same_array parts others all both.1 in
    λ k. ArrayTerm-F.Map (operations k) (arrays k)
map_is f parts all y e = never e

declared_is : (f : ℕ) (y : Symbol-F ArrayTerm Symbol Term) → symbol_test (Symbol-F.Declared f) y ≡ true → Symbol-F.Declared f ≡ y
declared_is f (Symbol-F.Declared g) e = ap (λ n. Symbol-F.Declared n) (eqb-true f g e)
declared_is f y e = never e

skolem_is : (assertion place : ℕ) (y : Symbol-F ArrayTerm Symbol Term) → symbol_test (Symbol-F.Skolem assertion place) y ≡ true → Symbol-F.Skolem assertion place ≡ y
skolem_is assertion place (Symbol-F.Skolem a p) e =
    let both = and_parts (eqb assertion a) (eqb place p) e in
    let assertions = eqb-true assertion a both.0 in
    let places = eqb-true place p both.1 in
    λ k. Symbol-F.Skolem (assertions k) (places k)
skolem_is assertion place y e = never e

seed_is : (s : ℕ) (y : Symbol-F ArrayTerm Symbol Term) → symbol_test (Symbol-F.Seed s) y ≡ true → Symbol-F.Seed s ≡ y
seed_is s (Symbol-F.Seed t) e = ap (λ n. Symbol-F.Seed n) (eqb-true s t e)
seed_is s y e = never e

far_is : (y : Symbol-F ArrayTerm Symbol Term) → symbol_test Symbol-F.Far y ≡ true → Symbol-F.Far ≡ y
far_is Symbol-F.Far e = refl
far_is y e = never e

difference_is : (a b : ArrayTerm) → IsArray a → IsArray b → (y : Symbol-F ArrayTerm Symbol Term)
    → symbol_test (Symbol-F.Diff (same_array a) (same_array b)) y ≡ true → Symbol-F.Diff a b ≡ y
difference_is a b left right (Symbol-F.Diff c d) e =
    let both = and_parts (same_array a c) (same_array b d) e in
    let first = left c both.0 in
    let second = right d both.1 in
    λ k. Symbol-F.Diff (first k) (second k)
difference_is a b left right y e = never e

numeral_is : (n : ℤ) (y : Layer) → term_test (Term-F.Num n) y ≡ true → Term-F.Num n ≡ y
numeral_is n (Term-F.Num m) e = ap (λ k. Term-F.Num k) (number_is n m e)
numeral_is n y e = never e

sum_is : (t : Term) (n : ℤ) → IsTerm t → (y : Layer) → term_test (Term-F.Plus (same_term t) n) y ≡ true → Term-F.Plus t n ≡ y
sum_is t n is (Term-F.Plus u m) e =
    let both = and_parts (same_term t u) (is_eq (int_cmp n m)) e in
    let base = is u both.0 in
    let number = number_is n m both.1 in
    λ k. Term-F.Plus (base k) (number k)
sum_is t n is y e = never e

variable_is : (place : ℕ) (y : Layer) → term_test (Term-F.Var place) y ≡ true → Term-F.Var place ≡ y
variable_is place (Term-F.Var p) e = ap (λ n. Term-F.Var n) (eqb-true place p e)
variable_is place y e = never e

truth_term_is : (b : Bool) (y : Layer) → term_test (Term-F.Truth b) y ≡ true → Term-F.Truth b ≡ y
truth_term_is b (Term-F.Truth c) e = ap (λ t. Term-F.Truth t) (truth_is b c e)
truth_term_is b y e = never e

application_is : (f : Symbol) (ts : List Term) → IsSymbol f → AllByRecursion IsTerm ts → (y : Layer)
    → term_test (Term-F.Apply (same_symbol f) (map same_term ts)) y ≡ true → Term-F.Apply f ts ≡ y
application_is f ts is all (Term-F.Apply g us) e =
    let both = and_parts (same_symbol f g) (all_pass (map same_term ts) us) e in
    let symbols = is g both.0 in
    let terms = all_are same_term ts us all both.1 in
    λ k. Term-F.Apply (symbols k) (terms k)
application_is f ts is all y e = never e

reading_is : (a : ArrayTerm) (i : Term) → IsArray a → IsTerm i → (y : Layer) → term_test (Term-F.Read (same_array a) (same_term i)) y ≡ true → Term-F.Read a i ≡ y
reading_is a i left index (Term-F.Read b j) e =
    let both = and_parts (same_array a b) (same_term i j) e in
    let inner = left b both.0 in
    let at = index j both.1 in
    λ k. Term-F.Read (inner k) (at k)
reading_is a i left index y e = never e

default_is : (a : ArrayTerm) → IsArray a → (y : Layer) → term_test (Term-F.Default (same_array a)) y ≡ true → Term-F.Default a ≡ y
default_is a is (Term-F.Default b) e = ap (λ c. Term-F.Default c) (is b e)
default_is a is y e = never e

-- from levels to trees
of_array : (layer : ArrayTerm-F ArrayTerm Symbol Term) (a : ArrayTerm) → roll-ArrayTerm layer ≡ a
    → ((y : ArrayTerm-F ArrayTerm Symbol Term) → array_test (map-ArrayTerm ArrayTerm Symbol Term (ArrayTerm → Bool) (Symbol → Bool) (Term → Bool) same_array same_symbol same_term layer) y ≡ true → layer ≡ y)
    → IsArray a
of_array layer a rolls is b e =
    sym rolls ∙ (ap roll-ArrayTerm (is (out-ArrayTerm b) (sym (rolled_array layer b) ∙ (ap (λ x. same_array x b) rolls ∙ e))) ∙ roll-out-ArrayTerm b)

of_symbol : (layer : Symbol-F ArrayTerm Symbol Term) (f : Symbol) → roll-Symbol layer ≡ f
    → ((y : Symbol-F ArrayTerm Symbol Term) → symbol_test (map-Symbol ArrayTerm Symbol Term (ArrayTerm → Bool) (Symbol → Bool) (Term → Bool) same_array same_symbol same_term layer) y ≡ true → layer ≡ y)
    → IsSymbol f
of_symbol layer f rolls is g e =
    sym rolls ∙ (ap roll-Symbol (is (out-Symbol g) (sym (rolled_symbol layer g) ∙ (ap (λ x. same_symbol x g) rolls ∙ e))) ∙ roll-out-Symbol g)

of_term : (layer : Layer) (t : Term) → roll-Term layer ≡ t
    → ((y : Layer) → term_test (map-Term ArrayTerm Symbol Term (ArrayTerm → Bool) (Symbol → Bool) (Term → Bool) same_array same_symbol same_term layer) y ≡ true → layer ≡ y)
    → IsTerm t
of_term layer t rolls is u e =
    sym rolls ∙ (ap roll-Term (is (out-Term u) (sym (rolled_term layer u) ∙ (ap (λ x. same_term x u) rolls ∙ e))) ∙ roll-out-Term u)

ones : Cases IsArray IsSymbol IsTerm
ones = record {
  name = λ f. of_array (ArrayTerm-F.Name f) (array.Name f) (array.rolls-Name f) (name_is f);
  store = λ a i v left index worth. of_array (ArrayTerm-F.Store a i v) (array.Store a i v) (array.rolls-Store a i v) (store_is a i v left index worth);
  constant = λ s v worth. of_array (ArrayTerm-F.Const s v) (array.Const s v) (array.rolls-Const s v) (constant_is s v worth);
  pointwise = λ f parts all. of_array (ArrayTerm-F.Map f parts) (array.Map f parts) (array.rolls-Map f parts) (map_is f parts all);
  declared = λ f. of_symbol (Symbol-F.Declared f) (symbol.Declared f) (symbol.rolls-Declared f) (declared_is f);
  skolem = λ assertion place. of_symbol (Symbol-F.Skolem assertion place) (symbol.Skolem assertion place) (symbol.rolls-Skolem assertion place) (skolem_is assertion place);
  seed = λ s. of_symbol (Symbol-F.Seed s) (symbol.Seed s) (symbol.rolls-Seed s) (seed_is s);
  far = of_symbol Symbol-F.Far symbol.Far symbol.rolls-Far far_is;
  difference = λ a b left right. of_symbol (Symbol-F.Diff a b) (symbol.Diff a b) (symbol.rolls-Diff a b) (difference_is a b left right);
  numeral = λ n. of_term (Term-F.Num n) (term.Num n) (term.rolls-Num n) (numeral_is n);
  sum = λ t n is. of_term (Term-F.Plus t n) (term.Plus t n) (term.rolls-Plus t n) (sum_is t n is);
  variable = λ place. of_term (Term-F.Var place) (term.Var place) (term.rolls-Var place) (variable_is place);
  truth = λ b. of_term (Term-F.Truth b) (term.Truth b) (term.rolls-Truth b) (truth_term_is b);
  application = λ f ts is all. of_term (Term-F.Apply f ts) (term.Apply f ts) (term.rolls-Apply f ts) (application_is f ts is all);
  reading = λ a i left index. of_term (Term-F.Read a i) (term.Read a i) (term.rolls-Read a i) (reading_is a i left index);
  default = λ a is. of_term (Term-F.Default a) (term.Default a) (term.rolls-Default a) (default_is a is);
}

array_is : (a b : ArrayTerm) → same_array a b ≡ true → a ≡ b
array_is = each_array IsArray IsSymbol IsTerm ones

-- a tree passes its own test
abbrev PassesArray : ArrayTerm → Type 0
PassesArray a = same_array a a ≡ true

abbrev PassesSymbol : Symbol → Type 0
PassesSymbol f = same_symbol f f ≡ true

abbrev PassesTerm : Term → Type 0
PassesTerm t = same_term t t ≡ true

all_self : {X : Type 0} (same : X → X → Bool) (xs : List X) → AllByRecursion (λ x. same x x ≡ true) xs → all_pass (map same xs) xs ≡ true
all_self same [] each = refl
all_self same (x ∷ xs) each = and_from (same x x) (all_pass (map same xs) xs) each.0 (all_self same xs each.1)

array_self : (layer : ArrayTerm-F ArrayTerm Symbol Term) (a : ArrayTerm) → roll-ArrayTerm layer ≡ a
    → array_test (map-ArrayTerm ArrayTerm Symbol Term (ArrayTerm → Bool) (Symbol → Bool) (Term → Bool) same_array same_symbol same_term layer) layer ≡ true → PassesArray a
array_self layer a rolls e =
    let test = array_test (map-ArrayTerm ArrayTerm Symbol Term (ArrayTerm → Bool) (Symbol → Bool) (Term → Bool) same_array same_symbol same_term layer) in
    subst PassesArray rolls (rolled_array layer (roll-ArrayTerm layer) ∙ (ap test (out-roll-ArrayTerm layer) ∙ e))

symbol_self : (layer : Symbol-F ArrayTerm Symbol Term) (f : Symbol) → roll-Symbol layer ≡ f
    → symbol_test (map-Symbol ArrayTerm Symbol Term (ArrayTerm → Bool) (Symbol → Bool) (Term → Bool) same_array same_symbol same_term layer) layer ≡ true → PassesSymbol f
symbol_self layer f rolls e =
    let test = symbol_test (map-Symbol ArrayTerm Symbol Term (ArrayTerm → Bool) (Symbol → Bool) (Term → Bool) same_array same_symbol same_term layer) in
    subst PassesSymbol rolls (rolled_symbol layer (roll-Symbol layer) ∙ (ap test (out-roll-Symbol layer) ∙ e))

term_self : (layer : Layer) (t : Term) → roll-Term layer ≡ t
    → term_test (map-Term ArrayTerm Symbol Term (ArrayTerm → Bool) (Symbol → Bool) (Term → Bool) same_array same_symbol same_term layer) layer ≡ true → PassesTerm t
term_self layer t rolls e =
    let test = term_test (map-Term ArrayTerm Symbol Term (ArrayTerm → Bool) (Symbol → Bool) (Term → Bool) same_array same_symbol same_term layer) in
    subst PassesTerm rolls (rolled_term layer (roll-Term layer) ∙ (ap test (out-roll-Term layer) ∙ e))

selves : Cases PassesArray PassesSymbol PassesTerm
selves = record {
  name = λ f. array_self (ArrayTerm-F.Name f) (array.Name f) (array.rolls-Name f) (eq-eqb f f refl);
  store = λ a i v left index worth. array_self (ArrayTerm-F.Store a i v) (array.Store a i v) (array.rolls-Store a i v)
      (and_from (same_array a a) (same_term i i && same_term v v) left (and_from (same_term i i) (same_term v v) index worth));
  constant = λ s v worth. array_self (ArrayTerm-F.Const s v) (array.Const s v) (array.rolls-Const s v) (and_from (is_sort s s) (same_term v v) (sort_self s) worth);
  pointwise = λ f parts all. array_self (ArrayTerm-F.Map f parts) (array.Map f parts) (array.rolls-Map f parts)
      (and_from (same_operation f f) (all_pass (map same_array parts) parts) (operation_self f) (all_self same_array parts all));
  declared = λ f. symbol_self (Symbol-F.Declared f) (symbol.Declared f) (symbol.rolls-Declared f) (eq-eqb f f refl);
  skolem = λ assertion place. symbol_self (Symbol-F.Skolem assertion place) (symbol.Skolem assertion place) (symbol.rolls-Skolem assertion place)
      (and_from _ _ (eq-eqb assertion assertion refl) (eq-eqb place place refl));
  seed = λ s. symbol_self (Symbol-F.Seed s) (symbol.Seed s) (symbol.rolls-Seed s) (eq-eqb s s refl);
  far = symbol_self Symbol-F.Far symbol.Far symbol.rolls-Far refl;
  difference = λ a b left right. symbol_self (Symbol-F.Diff a b) (symbol.Diff a b) (symbol.rolls-Diff a b) (and_from (same_array a a) (same_array b b) left right);
  numeral = λ n. term_self (Term-F.Num n) (term.Num n) (term.rolls-Num n) (number_self n);
  sum = λ t n is. term_self (Term-F.Plus t n) (term.Plus t n) (term.rolls-Plus t n) (and_from (same_term t t) (is_eq (int_cmp n n)) is (number_self n));
  variable = λ place. term_self (Term-F.Var place) (term.Var place) (term.rolls-Var place) (eq-eqb place place refl);
  truth = λ b. term_self (Term-F.Truth b) (term.Truth b) (term.rolls-Truth b) (truth_self b);
  application = λ f ts is all. term_self (Term-F.Apply f ts) (term.Apply f ts) (term.rolls-Apply f ts)
      (and_from (same_symbol f f) (all_pass (map same_term ts) ts) is (all_self same_term ts all));
  reading = λ a i left index. term_self (Term-F.Read a i) (term.Read a i) (term.rolls-Read a i) (and_from (same_array a a) (same_term i i) left index);
  default = λ a is. term_self (Term-F.Default a) (term.Default a) (term.rolls-Default a) is;
}

array_passes : (a : ArrayTerm) → same_array a a ≡ true
array_passes = each_array PassesArray PassesSymbol PassesTerm selves

-- an answer that tells the same is the same
pub same_answer : (answer : Bool) (a b : ArrayTerm) → IsTrue answer ↔ (a ≡ b) → answer ≡ same_array a b
same_answer true a b tells = sym (ap (same_array a) (sym (tells.0 refl)) ∙ array_passes a)
same_answer false a b tells = by (same_array a b) refl
  where
    by : (test : Bool) → same_array a b ≡ test → false ≡ test
    by true passed = tells.1 (array_is a b passed)
    by false passed = refl
