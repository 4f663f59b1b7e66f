-- The connectives over meanings that are placed one behind the other.
use Rattle.std.proofs.Common.{◌≡◌, ◌≤◌, ℕ, suc, ◌+◌, Bool, true, false, cond, leb, ltb, ◌==◌, ◌||◌, List, [], ◌∷◌, length, Result, Ok, Err, refl, ap, sym, subst, ◌∙◌, arith}
use Rattle.std.specs.List.{list_any}
use Rattle.std.proofs.lemmas.Bool.{or_parts}
use Rattle.std.proofs.lemmas.Bool.Decides.{nat_tests}
use Rattle.mbqi_values.specs.declared.fault.FaultKind.{FaultKind}
use Rattle.mbqi_values.specs.declared.fault.FaultKind.TheVariants.{Unsupported, WrongCount}
use Rattle.mbqi_terms.specs.declared.formula.Formula.{Formula}
use Rattle.mbqi_terms.specs.declared.formula.Formula.TheVariants as formula
use Rattle.mbqi_terms.specs.declared.script.Script.{Script}
use Rattle.mbqi_terms.specs.declared.sort.Binder.{Binder}
use Rattle.smtlib_terms.specs.declared.meaning.Meaning.{Meaning}
use Rattle.smtlib_terms.specs.declared.meaning.Meaning.TheVariants as meaning
use Rattle.smtlib_terms.specs.Meaning.{sort_of}
use Rattle.smtlib_terms.specs.Names.{◌>>=◌}
use Rattle.smtlib_terms.specs.Operators.{as_formula, as_formulas, choice, choice_of, connective, exclusion, exclusion_of, implication, implication_of, implied_by, is_other_choice, joined, negated, negated_first, unlike}
use Rattle.measured_terms.proofs.FormulaLaws as formula_measure
use Rattle.mbqi_terms.specs.InForm.{AreAllPlaced, IsPlaced}
use Rattle.smtlib_terms.specs.InForm.{AreFormulas, IsFormula}
use Rattle.read_in_form.proofs.Placed.{AreMeanings}
use Rattle.read_in_form.proofs.Steps.{not_refused, passed, stepped}
use Rattle.mbqi_terms.specs.Binders.{is_quantified, variables_in}

-- formulas among the meanings
abbrev more_read : List Meaning → Formula → Result (List Formula) FaultKind
more_read ms f = as_formulas ms >>= (λ (fs : List Formula). Ok (f ∷ fs))

pub formulas_count : (ms : List Meaning) (fs : List Formula) → as_formulas ms ≡ Ok fs → length ms ≡ length fs
formulas_count [] [] is = refl
formulas_count [] (f ∷ fs) is = cc
formulas_count (m ∷ ms) fs is =
    let first = stepped (as_formula m) (more_read ms) fs is in
    let rest = stepped (as_formulas ms) (λ (gs : List Formula). Ok (first.value ∷ gs)) fs first.rest in
    let all : first.value ∷ rest.value ≡ fs = cc in
    ap suc (formulas_count ms rest.value rest.first) ∙ ap (λ (gs : List Formula). length gs) all

pub formulas_placed : (script : Script) (scope : List Binder) (next : ℕ) (ms : List Meaning) (fs : List Formula) → AreMeanings script scope next ms → as_formulas ms ≡ Ok fs → AreFormulas script scope next fs
formulas_placed script scope next [] [] are is = AreAllPlaced.no_formulas scope next
formulas_placed script scope next [] (f ∷ fs) are is = cc
formulas_placed script scope next (meaning.Formula g ∷ ms) fs are is =
    let rest = stepped (as_formulas ms) (λ (gs : List Formula). Ok (g ∷ gs)) fs is in
    let all : g ∷ rest.value ≡ fs = cc in
    subst (AreFormulas script scope next) all
    (AreAllPlaced.more_formulas scope next g rest.value are.0 (formulas_placed script scope (next + variables_in g) ms rest.value are.1 rest.first))
formulas_placed script scope next (meaning.Term s t ∷ ms) fs are is = cc
formulas_placed script scope next (meaning.Array i e a ∷ ms) fs are is = cc

-- a formula of what was read
pub record FromFormulas (script : Script) (scope : List Binder) (next : ℕ) (args : List Meaning) (make : List Formula → Result Formula FaultKind) (f : Formula) : Type 0 where
  pub read : List Formula
  pub placed : AreFormulas script scope next read
  pub count : length args ≡ length read
  pub made : make read ≡ Ok f

pub from_formulas : (script : Script) (scope : List Binder) (next : ℕ) (args : List Meaning) (make : List Formula → Result Formula FaultKind) (f : Formula) → AreMeanings script scope next args → (as_formulas args >>= make) ≡ Ok f → FromFormulas script scope next args make f
from_formulas script scope next args make f are is =
    let read = stepped (as_formulas args) make f is in
    record { read = read.value; placed = formulas_placed script scope next args read.value are read.first; count = formulas_count args read.value read.first; made = read.rest }

-- at least so many
some_of : (n : ℕ) (test : Bool) (count : ℕ) (r : Result Formula FaultKind) (f : Formula) → leb n count ≡ test → cond test r (Err WrongCount) ≡ Ok f → n ≤ count
some_of n true count r f is e = grind (arith, nat_tests)
some_of n false count r f is e = cc

pub enough : (n : ℕ) (args : List Meaning) (r : Result Formula FaultKind) (f : Formula) → cond (leb n (length args)) r (Err WrongCount) ≡ Ok f → n ≤ length args
enough n args r f is = some_of n (leb n (length args)) (length args) r f refl is

-- `and` and `or`
pub joined_placed : (script : Script) (scope : List Binder) (next : ℕ) (join : List Formula → Formula) → ((f g : Formula) (fs : List Formula) → AreFormulas script scope next (f ∷ g ∷ fs) → IsFormula script scope next (join (f ∷ g ∷ fs))) → (fs : List Formula) → 1 ≤ length fs → AreFormulas script scope next fs → IsFormula script scope next (joined join fs)
joined_placed script scope next join whole [] some placed = absurd (omega arith)
joined_placed script scope next join whole (f ∷ []) some (AreAllPlaced.more_formulas s n g gs one rest) = one
joined_placed script scope next join whole (f ∷ g ∷ fs) some placed = whole f g fs placed

connective_placed : (script : Script) (scope : List Binder) (next : ℕ) (join : List Formula → Formula) → ((f g : Formula) (fs : List Formula) → AreFormulas script scope next (f ∷ g ∷ fs) → IsFormula script scope next (join (f ∷ g ∷ fs))) → (args : List Meaning) (f : Formula) → AreMeanings script scope next args → connective join args ≡ Ok f → IsFormula script scope next f
connective_placed script scope next join whole args f are is =
    let make : List Formula → Result Formula FaultKind = λ fs. Ok (joined join fs) in
    let some = enough 1 args (as_formulas args >>= make) f is in
    let from = from_formulas script scope next args make f are (passed (leb 1 (length args)) (as_formulas args >>= make) WrongCount f is).1 in
    let count = from.count in
    let same : joined join from.read ≡ f = let made = from.made in cc in
    subst (IsFormula script scope next) same (joined_placed script scope next join whole from.read (omega arith) from.placed)

pub conjunction_placed : (script : Script) (scope : List Binder) (next : ℕ) (args : List Meaning) (f : Formula) → AreMeanings script scope next args → connective formula.All args ≡ Ok f → IsFormula script scope next f
conjunction_placed script scope next args f are is = connective_placed script scope next formula.All (λ f g fs placed. IsPlaced.conjunction scope next f g fs placed) args f are is

pub disjunction_placed : (script : Script) (scope : List Binder) (next : ℕ) (args : List Meaning) (f : Formula) → AreMeanings script scope next args → connective formula.Any args ≡ Ok f → IsFormula script scope next f
disjunction_placed script scope next args f are is = connective_placed script scope next formula.Any (λ f g fs placed. IsPlaced.disjunction scope next f g fs placed) args f are is

-- `not`
first_negated : (script : Script) (scope : List Binder) (next : ℕ) (fs : List Formula) (f : Formula) → AreFormulas script scope next fs → negated_first fs ≡ Ok f → IsFormula script scope next f
first_negated script scope next [] f placed is = cc
first_negated script scope next (g ∷ gs) f (AreAllPlaced.more_formulas s n h hs one rest) is =
    let same : formula.Not g ≡ f = cc in
    subst (IsFormula script scope next) same (IsPlaced.negation scope next g one)

pub negated_placed : (script : Script) (scope : List Binder) (next : ℕ) (args : List Meaning) (f : Formula) → AreMeanings script scope next args → negated args ≡ Ok f → IsFormula script scope next f
negated_placed script scope next args f are is =
    let from = from_formulas script scope next args negated_first f are (passed (length args == 1) (as_formulas args >>= negated_first) WrongCount f is).1 in
    first_negated script scope next from.read f from.placed from.made

-- `=>`
implied_placed : (script : Script) (scope : List Binder) (next : ℕ) (f : Formula) (gs : List Formula) → AreFormulas script scope next (f ∷ gs) → IsFormula script scope next (implied_by f gs)
implied_placed script scope next f [] (AreAllPlaced.more_formulas s n h hs one rest) = one
implied_placed script scope next f (g ∷ gs) (AreAllPlaced.more_formulas s n h hs one rest) =
    let same : next + variables_in f ≡ next + variables_in (formula.Not f) = ap (λ (v : ℕ). next + v) (sym (formula_measure.variables-Not f)) in
    let later = AreAllPlaced.more_formulas scope (next + variables_in f) (implied_by g gs) [] (implied_placed script scope (next + variables_in f) g gs rest) (AreAllPlaced.no_formulas scope (next + variables_in f + variables_in (implied_by g gs))) in
    IsPlaced.disjunction scope next (formula.Not f) (implied_by g gs) []
    (AreAllPlaced.more_formulas scope next (formula.Not f) (implied_by g gs ∷ []) (IsPlaced.negation scope next f one)
    (subst (λ (at : ℕ). AreFormulas script scope at (implied_by g gs ∷ [])) same later))

first_implied : (script : Script) (scope : List Binder) (next : ℕ) (fs : List Formula) (f : Formula) → AreFormulas script scope next fs → implication_of fs ≡ Ok f → IsFormula script scope next f
first_implied script scope next [] f placed is = cc
first_implied script scope next (g ∷ gs) f placed is =
    let same : implied_by g gs ≡ f = cc in
    subst (IsFormula script scope next) same (implied_placed script scope next g gs placed)

pub implication_placed : (script : Script) (scope : List Binder) (next : ℕ) (args : List Meaning) (f : Formula) → AreMeanings script scope next args → implication args ≡ Ok f → IsFormula script scope next f
implication_placed script scope next args f are is =
    let from = from_formulas script scope next args implication_of f are (passed (leb 2 (length args)) (as_formulas args >>= implication_of) WrongCount f is).1 in
    first_implied script scope next from.read f from.placed from.made

-- a formula that binds no variable
pub record IsQuantifierFree (script : Script) (scope : List Binder) (next : ℕ) (f : Formula) : Type 0 where
  pub placed : IsFormula script scope next f
  pub closed : variables_in f ≡ 0

abbrev pub AreQuantifierFree : Script → List Binder → ℕ → List Formula → Type 0
AreQuantifierFree script scope next [] = Unit {0}
AreQuantifierFree script scope next (f ∷ fs) = IsQuantifierFree script scope next f × AreQuantifierFree script scope next fs

none_below : (n : ℕ) → ltb 0 n ≡ false → n ≡ 0
none_below n is = grind (arith, nat_tests)

pub closed_by_test : (f : Formula) → is_quantified f ≡ false → variables_in f ≡ 0
closed_by_test f is = none_below (variables_in f) is

pub quantifier_free_placed : (script : Script) (scope : List Binder) (next : ℕ) (fs : List Formula) → AreQuantifierFree script scope next fs → AreFormulas script scope next fs
quantifier_free_placed script scope next [] free = AreAllPlaced.no_formulas scope next
quantifier_free_placed script scope next (f ∷ fs) free =
    let here : next ≡ next + variables_in f = let closed = free.0.closed in omega arith in
    AreAllPlaced.more_formulas scope next f fs free.0.placed (subst (λ (at : ℕ). AreFormulas script scope at fs) here (quantifier_free_placed script scope next fs free.1))

pub placed_quantifier_free : (script : Script) (scope : List Binder) (next : ℕ) (fs : List Formula) → AreFormulas script scope next fs → list_any is_quantified fs ≡ false → AreQuantifierFree script scope next fs
placed_quantifier_free script scope next [] placed none = tt
placed_quantifier_free script scope next (f ∷ fs) (AreAllPlaced.more_formulas s n h hs one rest) none =
    let parts = or_parts (is_quantified f) (list_any is_quantified fs) none in
    let closed = closed_by_test f parts.0 in
    let here : next + variables_in f ≡ next = omega arith in
    (record { placed = one; closed = closed }, placed_quantifier_free script scope next fs (subst (λ (at : ℕ). AreFormulas script scope at fs) here rest) parts.1)

-- `xor`
unlike_placed : (script : Script) (scope : List Binder) (next : ℕ) (f : Formula) (gs : List Formula) → IsQuantifierFree script scope next f → AreQuantifierFree script scope next gs → IsFormula script scope next (unlike f gs)
unlike_placed script scope next f [] one free = one.placed
unlike_placed script scope next f (g ∷ gs) one free =
    let both = IsPlaced.equivalence scope next f g one.placed free.0.placed one.closed free.0.closed in
    let closed : variables_in (formula.Not (formula.Iff f g)) ≡ 0 =
    let outer = formula_measure.variables-Not (formula.Iff f g) in let inner = formula_measure.variables-Iff f g in let first = one.closed in let second = free.0.closed in omega arith in
    unlike_placed script scope next (formula.Not (formula.Iff f g)) gs (record { placed = IsPlaced.negation scope next (formula.Iff f g) both; closed = closed }) free.1

first_unlike : (script : Script) (scope : List Binder) (next : ℕ) (fs : List Formula) (f : Formula) → AreFormulas script scope next fs → exclusion_of fs ≡ Ok f → IsFormula script scope next f
first_unlike script scope next [] f placed is = cc
first_unlike script scope next (g ∷ gs) f placed is =
    let none = not_refused (list_any is_quantified (g ∷ gs)) (Ok (unlike g gs)) _ f is in
    let free = placed_quantifier_free script scope next (g ∷ gs) placed none.0 in
    let same : unlike g gs ≡ f = let made = none.1 in cc in
    subst (IsFormula script scope next) same (unlike_placed script scope next g gs free.0 free.1)

pub exclusion_placed : (script : Script) (scope : List Binder) (next : ℕ) (args : List Meaning) (f : Formula) → AreMeanings script scope next args → exclusion args ≡ Ok f → IsFormula script scope next f
exclusion_placed script scope next args f are is =
    let from = from_formulas script scope next args exclusion_of f are (passed (leb 2 (length args)) (as_formulas args >>= exclusion_of) WrongCount f is).1 in
    first_unlike script scope next from.read f from.placed from.made

-- `ite`
three_chosen : (script : Script) (scope : List Binder) (next : ℕ) (fs : List Formula) (f : Formula) → AreFormulas script scope next fs → choice_of fs ≡ Ok f → IsFormula script scope next f
three_chosen script scope next [] f placed is = cc
three_chosen script scope next (c ∷ []) f placed is = cc
three_chosen script scope next (c ∷ g ∷ []) f placed is = cc
three_chosen script scope next (c ∷ g ∷ h ∷ []) f (AreAllPlaced.more_formulas s n d ds one (AreAllPlaced.more_formulas s' n' d' ds' two (AreAllPlaced.more_formulas s'' n'' d'' ds'' three none))) is =
    let test = not_refused (is_quantified c || false) (Ok (formula.Choose c g h)) _ f is in
    let closed = closed_by_test c (or_parts (is_quantified c) false test.0).0 in
    let same : formula.Choose c g h ≡ f = let made = test.1 in cc in
    let here : next + variables_in c ≡ next = omega arith in
    let third : next + variables_in c + variables_in g ≡ next + variables_in g = omega arith in
    subst (IsFormula script scope next) same
    (IsPlaced.choice scope next c g h closed one (subst (λ (at : ℕ). IsFormula script scope at g) here two) (subst (λ (at : ℕ). IsFormula script scope at h) third three))
three_chosen script scope next (c ∷ g ∷ h ∷ k ∷ fs) f placed is = cc

pub choice_placed : (script : Script) (scope : List Binder) (next : ℕ) (args : List Meaning) (f : Formula) → AreMeanings script scope next args → choice args ≡ Ok f → IsFormula script scope next f
choice_placed script scope next [] f are is = cc
choice_placed script scope next (c ∷ []) f are is = cc
choice_placed script scope next (c ∷ m ∷ []) f are is = cc
choice_placed script scope next (c ∷ m ∷ n ∷ []) f are is =
    let read = not_refused (is_other_choice (sort_of m) (sort_of n)) (as_formulas (c ∷ m ∷ n ∷ []) >>= choice_of) Unsupported f is in
    let from = from_formulas script scope next (c ∷ m ∷ n ∷ []) choice_of f are read.1 in
    three_chosen script scope next from.read f from.placed from.made
choice_placed script scope next (c ∷ m ∷ n ∷ k ∷ args) f are is = cc
