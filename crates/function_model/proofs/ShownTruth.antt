-- The shown part of a model gives the terms and formulas that rest on shown tables the values and truths that the model gives them.
use Rattle.std.proofs.Common.{◌≡◌, ◌↔◌, ℕ, ℤ, Bool, true, false, not, ◌&&◌, List, [], ◌∷◌, inl, inr, ⊎_elim, map, refl, sym, ap, subst, ◌∙◌, rules}
use Rattle.std.specs.List.{AllByRecursion, list_all}
use Rattle.std.proofs.lemmas.Bool.{and_parts}
use Rattle.std.specs.Ordering.{is_le}
use Rattle.mbqi_values.specs.Value.{is_same, plus_number, rank_of}
use Rattle.mbqi_values.specs.declared.value.Value.{Value}
use Rattle.mbqi_terms.specs.declared.formula.Formula.{Formula}
use Rattle.mbqi_terms.specs.declared.formula.Formula.TheBlock.{hidden-the_row-Formula-0, hidden-the_row-Formula-1}
use Rattle.mbqi_terms.specs.declared.formula.Formula.TheFolds.{fold-roll-Formula, ind-Formula, map-Formula}
use Rattle.mbqi_terms.specs.declared.formula.Formula.TheOpen.{Formula-F}
use Rattle.mbqi_terms.specs.declared.formula.Formula.TheVariants as formula
use Rattle.mbqi_terms.specs.declared.formula.Formula.TheViews.{roll-Formula}
use denote.Hole.Carrier.{hidden}
use Rattle.mbqi_terms.specs.declared.script.Function.{Function}
use Rattle.mbqi_terms.specs.declared.sort.Binder.{Binder}
use Rattle.mbqi_terms.specs.declared.sort.Sort.{Sort}
use Rattle.mbqi_terms.specs.declared.term.ArrayTerm as arrays
use Rattle.mbqi_terms.specs.declared.term.ArrayTerm.{ArrayTerm}
use Rattle.mbqi_terms.specs.declared.term.ArrayTerm.TheFolds.{fold-ArrayTerm, fold-Symbol, fold-roll-ArrayTerm, fold-roll-Symbol, fold-roll-Term}
use Rattle.mbqi_terms.specs.declared.term.ArrayTerm.TheOpen.{ArrayTerm-F, Symbol-F, Term-F}
use Rattle.mbqi_terms.specs.declared.term.ArrayTerm.TheVariants as array
use Rattle.mbqi_terms.specs.declared.term.MapOp.{MapOp}
use Rattle.mbqi_terms.specs.declared.term.Symbol as symbols
use Rattle.mbqi_terms.specs.declared.term.Symbol.{Symbol}
use Rattle.mbqi_terms.specs.declared.term.Symbol.TheVariants as symbol
use Rattle.mbqi_terms.specs.declared.term.Term as terms
use Rattle.mbqi_terms.specs.declared.term.Term.{Term}
use Rattle.mbqi_terms.specs.declared.term.Term.TheVariants as term
use Rattle.function_model.specs.declared.model.FunctionModel.{FunctionModel}
use Rattle.function_model.specs.Lookup.{given_by, is_declared, is_skolem, looked_up}
use Rattle.function_model.specs.Holds.{ForAll, ForSome, HoldsAt, with_value}
use Rattle.function_model.specs.Shown.{array_rests, formula_rests, formula_rests_on_shown, rests_on_shown, shown_of, symbol_rests, term_rests}
use Rattle.function_model.specs.ValueOf.{Point, array_of, value_of}
use Rattle.function_model.proofs.HoldsLaws.{EachOf, SomeOf, fails_all, fails_any, holds_all, holds_any}
use Rattle.function_model.proofs.Induction.{Cases, each_term}
use Rattle.function_model.proofs.ShownParts.{shown_has_declared, shown_has_skolem}
use Rattle.function_model.proofs.Values.{meant_symbol, means_declared, means_skolem, read_name, value_number, value_read, value_sum, value_symbol, value_truth, value_variable}

abbrev array_rests_on : ArrayTerm → Bool
array_rests_on a = fold-ArrayTerm Bool Bool Bool array_rests symbol_rests term_rests a

abbrev symbol_rests_on : Symbol → Bool
symbol_rests_on f = fold-Symbol Bool Bool Bool array_rests symbol_rests term_rests f

-- what of a level rests on shown tables
rests_store : (a : ArrayTerm) (i v : Term) → array_rests_on (array.Store a i v) ≡ false
rests_store a i v = search (rules, arrays.the_lemmas, terms.the_lemmas)

rests_constant : (s : Sort) (v : Term) → array_rests_on (array.Const s v) ≡ false
rests_constant s v = search (rules, arrays.the_lemmas, terms.the_lemmas)

rests_map : (f : MapOp) (parts : List ArrayTerm) → array_rests_on (array.Map f parts) ≡ false
rests_map f parts = ap array_rests_on (sym (array.rolls-Map f parts)) ∙ fold-roll-ArrayTerm Bool Bool Bool array_rests symbol_rests term_rests (ArrayTerm-F.Map f parts)

rests_seed : (s : ℕ) → symbol_rests_on (symbol.Seed s) ≡ false
rests_seed s = search (rules, symbols.the_lemmas)

rests_far : symbol_rests_on symbol.Far ≡ false
rests_far = search (rules, symbols.the_lemmas)

rests_difference : (a b : ArrayTerm) → symbol_rests_on (symbol.Diff a b) ≡ false
rests_difference a b =
    ap symbol_rests_on (sym (symbol.rolls-Diff a b)) ∙ fold-roll-Symbol Bool Bool Bool array_rests symbol_rests term_rests (Symbol-F.Diff a b)

rests_sum : (t : Term) (n : ℤ) → rests_on_shown (term.Plus t n) ≡ rests_on_shown t
unfolding rests_on_shown
rests_sum t n = search (rules, terms.the_lemmas)

rests_apply : (f : Symbol) (ts : List Term) → rests_on_shown (term.Apply f ts) ≡ (symbol_rests_on f && list_all (λ b. b) (map rests_on_shown ts))
unfolding rests_on_shown
rests_apply f ts =
    ap rests_on_shown (sym (term.rolls-Apply f ts)) ∙ fold-roll-Term Bool Bool Bool array_rests symbol_rests term_rests (Term-F.Apply f ts)

rests_read : (a : ArrayTerm) (i : Term) → rests_on_shown (term.Read a i) ≡ (array_rests_on a && rests_on_shown i)
unfolding rests_on_shown
rests_read a i =
    ap rests_on_shown (sym (term.rolls-Read a i)) ∙ fold-roll-Term Bool Bool Bool array_rests symbol_rests term_rests (Term-F.Read a i)

rests_default : (a : ArrayTerm) → rests_on_shown (term.Default a) ≡ false
unfolding rests_on_shown
rests_default a =
    ap rests_on_shown (sym (term.rolls-Default a)) ∙ fold-roll-Term Bool Bool Bool array_rests symbol_rests term_rests (Term-F.Default a)

module _ (m : FunctionModel) (p : Point) where
  abbrev SameArrays : ArrayTerm → Type 0
  SameArrays a = array_rests_on a ≡ true → (j : Value) → (array_of (shown_of m) a p).read j ≡ (array_of m a p).read j

  abbrev SameSymbols : Symbol → Type 0
  SameSymbols f = symbol_rests_on f ≡ true → (vs : List Value) → (meant_symbol (shown_of m) p f).means vs ≡ (meant_symbol m p f).means vs

  abbrev SameTerms : Term → Type 0
  SameTerms t = rests_on_shown t ≡ true → value_of (shown_of m) t p ≡ value_of m t p

  declared_same : (f : ℕ) (vs : List Value) → given_by (is_declared f) (shown_of m) vs ≡ given_by (is_declared f) m vs
  declared_same f vs = ap (λ table. looked_up table vs) (shown_has_declared m f)

  skolem_same : (assertion place : ℕ) (vs : List Value) → given_by (is_skolem assertion place) (shown_of m) vs ≡ given_by (is_skolem assertion place) m vs
  skolem_same assertion place vs = ap (λ table. looked_up table vs) (shown_has_skolem m assertion place)

  arguments_same : (ts : List Term) → AllByRecursion SameTerms ts → list_all (λ b. b) (map rests_on_shown ts) ≡ true
      → map (λ t. value_of (shown_of m) t p) ts ≡ map (λ t. value_of m t p) ts
  arguments_same [] all rest = refl
  arguments_same (t ∷ ts) all rest =
      let parts = and_parts (rests_on_shown t) (list_all (λ b. b) (map rests_on_shown ts)) rest in
      λ k. all.0 parts.0 k ∷ arguments_same ts all.1 parts.1 k

  same_values : Cases SameArrays SameSymbols SameTerms
  same_values = record {
    name = λ f rest j. read_name (shown_of m) p f j ∙ (declared_same f (j ∷ []) ∙ sym (read_name m p f j));
    store = λ a i v left index worth rest. let none = rests_store a i v in cc;
    constant = λ s v worth rest. let none = rests_constant s v in cc;
    pointwise = λ f parts all rest. let none = rests_map f parts in cc;
    declared = λ f rest vs. means_declared (shown_of m) p f vs ∙ (declared_same f vs ∙ sym (means_declared m p f vs));
    skolem = λ assertion place rest vs.
        means_skolem (shown_of m) p assertion place vs ∙ (skolem_same assertion place vs ∙ sym (means_skolem m p assertion place vs));
    seed = λ s rest. let none = rests_seed s in cc;
    far = λ rest. let none = rests_far in cc;
    difference = λ a b left right rest. let none = rests_difference a b in cc;
    numeral = λ n rest. value_number (shown_of m) p n ∙ sym (value_number m p n);
    sum = λ t n same rest.
        value_sum (shown_of m) p t n ∙ (ap (λ v. plus_number v n) (same (sym (rests_sum t n) ∙ rest)) ∙ sym (value_sum m p t n));
    variable = λ place rest. value_variable (shown_of m) p place ∙ sym (value_variable m p place);
    truth = λ b rest. value_truth (shown_of m) p b ∙ sym (value_truth m p b);
    application = λ f ts same all rest.
        let parts = and_parts (symbol_rests_on f) (list_all (λ b. b) (map rests_on_shown ts)) (sym (rests_apply f ts) ∙ rest) in
        value_symbol (shown_of m) p f ts
        ∙ (same parts.0 (map (λ t. value_of (shown_of m) t p) ts)
        ∙ (ap (meant_symbol m p f).means (arguments_same ts all parts.1) ∙ sym (value_symbol m p f ts)));
    reading = λ a i left index rest.
        let parts = and_parts (array_rests_on a) (rests_on_shown i) (sym (rests_read a i) ∙ rest) in
        value_read (shown_of m) p a i
        ∙ (left parts.0 (value_of (shown_of m) i p) ∙ (ap (array_of m a p).read (index parts.1) ∙ sym (value_read m p a i)));
    default = λ a same rest. let none = rests_default a in cc;
  }

  pub shown_value : (t : Term) → rests_on_shown t ≡ true → value_of (shown_of m) t p ≡ value_of m t p
  shown_value = each_term SameArrays SameSymbols SameTerms same_values

-- what of a formula does
abbrev rest_of : List Formula → Bool
rest_of fs = list_all (λ b. b) (map formula_rests_on_shown fs)

rolled_rests : (layer : Formula-F Formula) → formula_rests_on_shown (roll-Formula layer) ≡ formula_rests (map-Formula Formula Bool formula_rests_on_shown layer)
unfolding formula_rests_on_shown
rolled_rests layer = fold-roll-Formula Bool formula_rests layer

for_all_alike : (sizes : List ℕ) (bs : List Binder) (p : Point) (P Q : Point → Type 0) → ((q : Point) → P q ↔ Q q) → ForAll sizes bs p P ↔ ForAll sizes bs p Q
for_all_alike sizes [] p P Q alike = alike p
for_all_alike sizes (b ∷ bs) p P Q alike =
    let inner = λ (v : Value). for_all_alike sizes bs (with_value p b.place v) P Q alike in
    (λ all v is. (inner v).0 (all v is), λ all v is. (inner v).1 (all v is))

for_some_alike : (sizes : List ℕ) (bs : List Binder) (p : Point) (P Q : Point → Type 0) → ((q : Point) → P q ↔ Q q) → ForSome sizes bs p P ↔ ForSome sizes bs p Q
for_some_alike sizes [] p P Q alike = alike p
for_some_alike sizes (b ∷ bs) p P Q alike =
    let inner = λ (v : Value). for_some_alike sizes bs (with_value p b.place v) P Q alike in
    (λ some. (some.0, some.1, (inner some.0).0 some.2), λ some. (some.0, some.1, (inner some.0).1 some.2))

through : {A B C D : Type 0} → A ≡ B → C ≡ D → (B ↔ D) → A ↔ C
through {A} {B} {C} {D} left right both = subst (λ (X : Type 0). X ↔ C) (sym left) (subst (λ (X : Type 0). B ↔ X) (sym right) both)

module _ (gs : List Function) (m : FunctionModel) where
  abbrev HereAndThere : Formula → Type 0
  HereAndThere f = formula_rests_on_shown f ≡ true → (b : Bool) (p : Point) → HoldsAt gs (shown_of m) b f p ↔ HoldsAt gs m b f p

  each_alike : (fs : List Formula) → AllByRecursion HereAndThere fs → rest_of fs ≡ true → (b : Bool) (p : Point)
      → EachOf (λ f. HoldsAt gs (shown_of m) b f p) fs ↔ EachOf (λ f. HoldsAt gs m b f p) fs
  each_alike [] all rest b p = (λ each. each, λ each. each)
  each_alike (f ∷ fs) all rest b p =
      let parts = and_parts (formula_rests_on_shown f) (rest_of fs) rest in
      let first = all.0 parts.0 b p in
      let others = each_alike fs all.1 parts.1 b p in
      (λ each. (first.0 each.0, others.0 each.1), λ each. (first.1 each.0, others.1 each.1))

  some_alike : (fs : List Formula) → AllByRecursion HereAndThere fs → rest_of fs ≡ true → (b : Bool) (p : Point)
      → SomeOf (λ f. HoldsAt gs (shown_of m) b f p) fs ↔ SomeOf (λ f. HoldsAt gs m b f p) fs
  some_alike [] all rest b p = (λ some. some, λ some. some)
  some_alike (f ∷ fs) all rest b p =
      let parts = and_parts (formula_rests_on_shown f) (rest_of fs) rest in
      let first = all.0 parts.0 b p in
      let others = some_alike fs all.1 parts.1 b p in
      (⊎_elim (λ one. inl (first.0 one)) (λ some. inr (others.0 some)), ⊎_elim (λ one. inl (first.1 one)) (λ some. inr (others.1 some)))

  all_alike : (fs : List Formula) → AllByRecursion HereAndThere fs → rest_of fs ≡ true → (b : Bool) (p : Point)
      → HoldsAt gs (shown_of m) b (formula.All fs) p ↔ HoldsAt gs m b (formula.All fs) p
  all_alike fs all rest true p = through (holds_all gs (shown_of m) p fs) (holds_all gs m p fs) (each_alike fs all rest true p)
  all_alike fs all rest false p = through (fails_all gs (shown_of m) p fs) (fails_all gs m p fs) (some_alike fs all rest false p)

  any_alike : (fs : List Formula) → AllByRecursion HereAndThere fs → rest_of fs ≡ true → (b : Bool) (p : Point)
      → HoldsAt gs (shown_of m) b (formula.Any fs) p ↔ HoldsAt gs m b (formula.Any fs) p
  any_alike fs all rest true p = through (holds_any gs (shown_of m) p fs) (holds_any gs m p fs) (some_alike fs all rest true p)
  any_alike fs all rest false p = through (fails_any gs (shown_of m) p fs) (fails_any gs m p fs) (each_alike fs all rest false p)

  same_atoms : (t : Term) → rests_on_shown t ≡ true → (b : Bool) (p : Point)
      → HoldsAt gs (shown_of m) b (formula.Atom t) p ↔ HoldsAt gs m b (formula.Atom t) p
  unfolding HoldsAt
  same_atoms t rest b p = let same = shown_value m p t rest in (λ e. sym same ∙ e, λ e. same ∙ e)

  same_equals : (s t : Term) → rests_on_shown s ≡ true → rests_on_shown t ≡ true → (b : Bool) (p : Point)
      → HoldsAt gs (shown_of m) b (formula.Equal s t) p ↔ HoldsAt gs m b (formula.Equal s t) p
  unfolding HoldsAt
  same_equals s t first second b p =
      let same : is_same (value_of (shown_of m) s p) (value_of (shown_of m) t p) ≡ is_same (value_of m s p) (value_of m t p) =
      λ k. is_same (shown_value m p s first k) (shown_value m p t second k) in
      (λ e. sym same ∙ e, λ e. same ∙ e)

  same_orders : (s t : Term) → rests_on_shown s ≡ true → rests_on_shown t ≡ true → (b : Bool) (p : Point)
      → HoldsAt gs (shown_of m) b (formula.AtMost s t) p ↔ HoldsAt gs m b (formula.AtMost s t) p
  unfolding HoldsAt
  same_orders s t first second b p =
      let same : is_le (rank_of (value_of (shown_of m) s p) (value_of (shown_of m) t p)) ≡ is_le (rank_of (value_of m s p) (value_of m t p)) =
      λ k. is_le (rank_of (shown_value m p s first k) (shown_value m p t second k)) in
      (λ e. sym same ∙ e, λ e. same ∙ e)

  -- below one formula, and at its quantifier
  not_alike : (f : Formula) → HereAndThere f → formula_rests_on_shown f ≡ true → (b : Bool) (p : Point)
      → HoldsAt gs (shown_of m) b (formula.Not f) p ↔ HoldsAt gs m b (formula.Not f) p
  unfolding HoldsAt hidden-the_row-Formula-0 hidden hidden-the_row-Formula-1
  not_alike f same rest b p = same rest (not b) p

  iff_alike : (f g : Formula) → HereAndThere f → HereAndThere g → formula_rests_on_shown f ≡ true → formula_rests_on_shown g ≡ true → (b : Bool) (p : Point)
      → HoldsAt gs (shown_of m) b (formula.Iff f g) p ↔ HoldsAt gs m b (formula.Iff f g) p
  unfolding HoldsAt hidden-the_row-Formula-0 hidden hidden-the_row-Formula-1
  iff_alike f g left right first second b p =
      let holds = left first true p in
      let fails = left first false p in
      let same = right second b p in
      let other = right second (not b) p in (
        ⊎_elim (λ both. inl (holds.0 both.0, same.0 both.1)) (λ both. inr (fails.0 both.0, other.0 both.1)),
        ⊎_elim (λ both. inl (holds.1 both.0, same.1 both.1)) (λ both. inr (fails.1 both.0, other.1 both.1)),
      )

  choice_alike : (c f g : Formula) → HereAndThere c → HereAndThere f → HereAndThere g
      → formula_rests_on_shown c ≡ true → formula_rests_on_shown f ≡ true → formula_rests_on_shown g ≡ true → (b : Bool) (p : Point)
      → HoldsAt gs (shown_of m) b (formula.Choose c f g) p ↔ HoldsAt gs m b (formula.Choose c f g) p
  unfolding HoldsAt hidden-the_row-Formula-0 hidden hidden-the_row-Formula-1
  choice_alike c f g condition left right first second third b p =
      let holds = condition first true p in
      let fails = condition first false p in
      let chosen = left second b p in
      let other = right third b p in (
        ⊎_elim (λ both. inl (holds.0 both.0, chosen.0 both.1)) (λ both. inr (fails.0 both.0, other.0 both.1)),
        ⊎_elim (λ both. inl (holds.1 both.0, chosen.1 both.1)) (λ both. inr (fails.1 both.0, other.1 both.1)),
      )

  forall_alike : (bs : List Binder) (f : Formula) → HereAndThere f → formula_rests_on_shown f ≡ true → (b : Bool) (p : Point)
      → HoldsAt gs (shown_of m) b (formula.Forall bs f) p ↔ HoldsAt gs m b (formula.Forall bs f) p
  unfolding HoldsAt hidden-the_row-Formula-0 hidden hidden-the_row-Formula-1
  forall_alike bs f same rest true p = for_all_alike m.sizes bs p (HoldsAt gs (shown_of m) true f) (HoldsAt gs m true f) (same rest true)
  forall_alike bs f same rest false p = for_some_alike m.sizes bs p (HoldsAt gs (shown_of m) false f) (HoldsAt gs m false f) (same rest false)

  exists_alike : (bs : List Binder) (f : Formula) → HereAndThere f → formula_rests_on_shown f ≡ true → (b : Bool) (p : Point)
      → HoldsAt gs (shown_of m) b (formula.Exists bs f) p ↔ HoldsAt gs m b (formula.Exists bs f) p
  unfolding HoldsAt hidden-the_row-Formula-0 hidden hidden-the_row-Formula-1
  exists_alike bs f same rest true p = for_some_alike m.sizes bs p (HoldsAt gs (shown_of m) true f) (HoldsAt gs m true f) (same rest true)
  exists_alike bs f same rest false p = for_all_alike m.sizes bs p (HoldsAt gs (shown_of m) false f) (HoldsAt gs m false f) (same rest false)

  truth_alike : (t : Bool) (b : Bool) (p : Point) → HoldsAt gs (shown_of m) b (formula.Truth t) p ↔ HoldsAt gs m b (formula.Truth t) p
  unfolding HoldsAt
  truth_alike t b p = (λ e. e, λ e. e)

  abbrev SomeFormula : Type 0
  SomeFormula = (f : Formula) × HereAndThere f

  each_of : (parts : List SomeFormula) → AllByRecursion HereAndThere (map (λ part. part.0) parts)
  each_of [] = tt
  each_of (part ∷ parts) = (part.1, each_of parts)

  -- what rests of a level, by its parts
  of_level : (f : Formula) (layer : Formula-F Formula) → roll-Formula layer ≡ f → formula_rests_on_shown f ≡ true
      → formula_rests (map-Formula Formula Bool formula_rests_on_shown layer) ≡ true
  of_level f layer is rest = sym (rolled_rests layer) ∙ (ap formula_rests_on_shown is ∙ rest)

  formula_case : (layer : Formula-F SomeFormula) → HereAndThere (roll-Formula (map-Formula SomeFormula Formula (λ e. e.0) layer))
  formula_case (Formula-F.Truth t) = subst HereAndThere (sym (formula.rolls-Truth t)) (λ rest. truth_alike t)
  formula_case (Formula-F.Atom t) = subst HereAndThere (sym (formula.rolls-Atom t))
      (λ rest. same_atoms t (of_level (formula.Atom t) (Formula-F.Atom t) (formula.rolls-Atom t) rest))
  formula_case (Formula-F.Equal s t) = subst HereAndThere (sym (formula.rolls-Equal s t)) (λ rest.
      let parts = and_parts (rests_on_shown s) (rests_on_shown t) (of_level (formula.Equal s t) (Formula-F.Equal s t) (formula.rolls-Equal s t) rest) in
      same_equals s t parts.0 parts.1)
  formula_case (Formula-F.AtMost s t) = subst HereAndThere (sym (formula.rolls-AtMost s t)) (λ rest.
      let parts = and_parts (rests_on_shown s) (rests_on_shown t) (of_level (formula.AtMost s t) (Formula-F.AtMost s t) (formula.rolls-AtMost s t) rest) in
      same_orders s t parts.0 parts.1)
  formula_case (Formula-F.SameArray a b) = subst HereAndThere (sym (formula.rolls-SameArray a b)) (λ rest.
      let none : false ≡ true = of_level (formula.SameArray a b) (Formula-F.SameArray a b) (formula.rolls-SameArray a b) rest in cc)
  formula_case (Formula-F.Not f) = subst HereAndThere (sym (formula.rolls-Not f.0)) (λ rest.
      not_alike f.0 f.1 (of_level (formula.Not f.0) (Formula-F.Not f.0) (formula.rolls-Not f.0) rest))
  formula_case (Formula-F.All parts) =
      let fs : List Formula = map (λ (e : SomeFormula). e.0) parts in
      subst HereAndThere (sym (formula.rolls-All fs)) (λ rest. all_alike fs (each_of parts) (of_level (formula.All fs) (Formula-F.All fs) (formula.rolls-All fs) rest))
  formula_case (Formula-F.Any parts) =
      let fs : List Formula = map (λ (e : SomeFormula). e.0) parts in
      subst HereAndThere (sym (formula.rolls-Any fs)) (λ rest. any_alike fs (each_of parts) (of_level (formula.Any fs) (Formula-F.Any fs) (formula.rolls-Any fs) rest))
  formula_case (Formula-F.Iff f g) = subst HereAndThere (sym (formula.rolls-Iff f.0 g.0)) (λ rest.
      let parts = and_parts (formula_rests_on_shown f.0) (formula_rests_on_shown g.0) (of_level (formula.Iff f.0 g.0) (Formula-F.Iff f.0 g.0) (formula.rolls-Iff f.0 g.0) rest) in
      iff_alike f.0 g.0 f.1 g.1 parts.0 parts.1)
  formula_case (Formula-F.Choose c f g) = subst HereAndThere (sym (formula.rolls-Choose c.0 f.0 g.0)) (λ rest.
      let parts = and_parts (formula_rests_on_shown c.0) (formula_rests_on_shown f.0 && formula_rests_on_shown g.0)
      (of_level (formula.Choose c.0 f.0 g.0) (Formula-F.Choose c.0 f.0 g.0) (formula.rolls-Choose c.0 f.0 g.0) rest) in
      let both = and_parts (formula_rests_on_shown f.0) (formula_rests_on_shown g.0) parts.1 in
      choice_alike c.0 f.0 g.0 c.1 f.1 g.1 parts.0 both.0 both.1)
  formula_case (Formula-F.Forall bs f) = subst HereAndThere (sym (formula.rolls-Forall bs f.0)) (λ rest.
      forall_alike bs f.0 f.1 (of_level (formula.Forall bs f.0) (Formula-F.Forall bs f.0) (formula.rolls-Forall bs f.0) rest))
  formula_case (Formula-F.Exists bs f) = subst HereAndThere (sym (formula.rolls-Exists bs f.0)) (λ rest.
      exists_alike bs f.0 f.1 (of_level (formula.Exists bs f.0) (Formula-F.Exists bs f.0) (formula.rolls-Exists bs f.0) rest))

  pub shown_truth : (f : Formula) → HereAndThere f
  shown_truth = ind-Formula HereAndThere (λ x y is. subst (λ layer. HereAndThere (roll-Formula layer)) is (formula_case y))
