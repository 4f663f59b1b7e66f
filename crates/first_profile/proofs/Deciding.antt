-- What the parts of terms, formulas and scripts say of the whole.
use Rattle.std.proofs.Common.{◌≡◌, ℕ, zero, suc, ◌+◌, ◌<◌, ◌≤◌, false, List, [], ◌∷◌, ◌++◌, length, get_or, take, Some, slice_get, refl, sym, ap, subst, ◌∙◌, inl, inr, arith}
use Rattle.std.specs.Prelude.{◌↔◌, ◌==◌}
use Rattle.std.specs.List.{AllByRecursion}
use Rattle.std.proofs.lemmas.List.Elements.{All-from_recursion, All-more, recursion_from_All}
use Rattle.mbqi_terms.specs.declared.formula.Formula.{Formula, out-Formula}
use Rattle.mbqi_terms.specs.declared.formula.Formula.TheOpen.{Formula-F}
use Rattle.mbqi_terms.specs.declared.formula.Formula.TheVariants as formula
use Rattle.mbqi_terms.specs.declared.formula.Formula.TheViews.{out-roll-Formula}
use Rattle.mbqi_terms.specs.declared.script.Function.{Function}
use Rattle.mbqi_terms.specs.declared.sort.Binder.{Binder}
use Rattle.mbqi_terms.specs.declared.term.Symbol.TheVariants as symbol
use Rattle.mbqi_terms.specs.declared.term.Term.{Term}
use Rattle.mbqi_terms.specs.declared.term.Term.TheVariants as term
use Rattle.element_atoms.specs.Profile.{the_sort, IsArgument, IsAtom, IsClause, IsConstantTerm, IsLiteral, IsRule, for_all, variables_from}
use Rattle.element_atoms.proofs.Numbers.{length_variables, same_declared}
use Rattle.element_atoms.proofs.Truths.{any_literals, out-any, out-atom, out-not}
use Rattle.first_profile.specs.Parts.{AreVariables, NamesPredicate}

-- one more element
pub all_more : {X : Type 0} (P : X → Type 0) (xs : List X) (i : ℕ) (x : X) → i < length xs → x ≡ get_or xs i x → P x → AllByRecursion P (take i xs)
    → AllByRecursion P (take (i + 1) xs)
all_more P xs i x h e here all =
    recursion_from_All P (take (i + 1) xs) (All-more P xs i x h (All-from_recursion P (take i xs) all) (subst P e here))

-- a function of arguments is no constant
pub no_constant : (functions : List Function) (t : Term) (number : ℕ) (args : List Term) → t ≡ term.Apply (symbol.Declared number) args
    → (length args == 0) ≡ false → IsConstantTerm functions t → ⊥
no_constant functions t number args e some is =
    let same = same_declared number is.0 args [] (sym e ∙ is.1) in
    let none : (length args == 0) ≡ (length {A = Term} [] == 0) = ap (λ (ts : List Term). length ts == 0) same.1 in
    cc

-- an atom by its predicate and its arguments
pub atom_parts : (functions : List Function) (IsArg : Term → Type 0) (t : Term) (number : ℕ) (args : List Term) → t ≡ term.Apply (symbol.Declared number) args
    → IsAtom functions IsArg t ↔ (NamesPredicate functions number (length args) × AllByRecursion IsArg args)
atom_parts functions IsArg t number args e = (
  λ is.
      let same = same_declared number is.0 args is.2 (sym e ∙ is.3) in (
        (is.1, subst (λ p. slice_get functions p ≡ Some is.1) (sym same.0) is.4, is.5, ap length same.1 ∙ is.6),
        subst (AllByRecursion IsArg) (sym same.1) (recursion_from_All IsArg is.2 is.7),
      ),
  λ parts. (number, parts.0.0, args, e, parts.0.1, parts.0.2, parts.0.3, All-from_recursion IsArg args parts.1),
)

-- a disjunction by its literals
pub any_parts : (functions : List Function) (IsArg : Term → Type 0) (f : Formula) (literals : List Formula) → f ≡ formula.Any literals
    → IsClause functions IsArg f ↔ AllByRecursion (IsLiteral functions IsArg) literals
any_parts functions IsArg f literals e = (
  λ is. recursion_from_All (IsLiteral functions IsArg) literals (any_literals functions IsArg f literals is e),
  λ all. inr (literals, e, All-from_recursion (IsLiteral functions IsArg) literals all),
)

-- the variables of a quantifier, by their places
variable_from : (place n i : ℕ) (d : Binder) → i < n → get_or (variables_from place n) i d ≡ record { place = place + i; sort = the_sort }
variable_from place zero i d h = absurd (omega arith)
variable_from place (suc n) zero d h = let same : place ≡ place + 0 = omega arith in ap (λ p. record { place = p; sort = the_sort }) same
variable_from place (suc n) (suc i) d h =
    let same : place + 1 + i ≡ place + suc i = omega arith in
    variable_from (place + 1) n i d (omega arith) ∙ ap (λ p. record { place = p; sort = the_sort }) same

pub variable_at : (binders : List Binder) (i : ℕ) (d : Binder) → AreVariables binders → i < length binders → get_or binders i d ≡ record { place = i; sort = the_sort }
variable_at binders i d are h =
    let same : 0 + i ≡ i = omega arith in
    ap (λ bs. get_or bs i d) are.all ∙ (variable_from 0 (length binders) i d h ∙ ap (λ p. record { place = p; sort = the_sort }) same)

next_from : (place n : ℕ) → variables_from place n ++ record { place = place + n; sort = the_sort } ∷ [] ≡ variables_from place (suc n)
next_from place zero = let same : place + 0 ≡ place = omega arith in ap (λ p. record { place = p; sort = the_sort } ∷ []) same
next_from place (suc n) =
    let same : place + suc n ≡ place + 1 + n = omega arith in
    ap (λ bs. record { place = place; sort = the_sort } ∷ bs)
    (ap (λ p. variables_from (place + 1) n ++ record { place = p; sort = the_sort } ∷ []) same ∙ next_from (place + 1) n)

pub next_variable : (n : ℕ) → variables_from 0 n ++ record { place = n; sort = the_sort } ∷ [] ≡ variables_from 0 (n + 1)
next_variable n =
    let same : n ≡ 0 + n = omega arith in
    let more : suc n ≡ n + 1 = omega arith in
    ap (λ p. variables_from 0 n ++ record { place = p; sort = the_sort } ∷ []) same ∙ (next_from 0 n ∙ ap (variables_from 0) more)

-- one level of a formula
out-forall : (binders : List Binder) (f : Formula) → out-Formula (formula.Forall binders f) ≡ Formula-F.Forall binders f
out-forall binders f = ap out-Formula (sym (formula.rolls-Forall binders f)) ∙ out-roll-Formula (Formula-F.Forall binders f)

atom_no_forall : (t : Term) (binders : List Binder) (f : Formula) → formula.Atom t ≡ formula.Forall binders f → ⊥
atom_no_forall t binders f e =
    let layers : Formula-F.Atom t ≡ Formula-F.Forall binders f = sym (out-atom t) ∙ (ap out-Formula e ∙ out-forall binders f) in cc

not_no_forall : (g : Formula) (binders : List Binder) (f : Formula) → formula.Not g ≡ formula.Forall binders f → ⊥
not_no_forall g binders f e =
    let layers : Formula-F.Not g ≡ Formula-F.Forall binders f = sym (out-not g) ∙ (ap out-Formula e ∙ out-forall binders f) in cc

any_no_forall : (fs : List Formula) (binders : List Binder) (f : Formula) → formula.Any fs ≡ formula.Forall binders f → ⊥
any_no_forall fs binders f e =
    let layers : Formula-F.Any fs ≡ Formula-F.Forall binders f = sym (out-any fs) ∙ (ap out-Formula e ∙ out-forall binders f) in cc

same_forall : (these those : List Binder) (f g : Formula) → formula.Forall these f ≡ formula.Forall those g → (these ≡ those) × (f ≡ g)
same_forall these those f g e =
    let layers : Formula-F.Forall these f ≡ Formula-F.Forall those g = sym (out-forall these f) ∙ (ap out-Formula e ∙ out-forall those g) in
    (cc, cc)

-- a clause is no quantifier
no_forall : (functions : List Function) (IsArg : Term → Type 0) (f : Formula) (binders : List Binder) (g : Formula) → IsClause functions IsArg f
    → f ≡ formula.Forall binders g → ⊥
no_forall functions IsArg f binders g (inl one) e =
    elim one.2 [
      | inl is ↦ atom_no_forall one.0 binders g (sym is ∙ e)
      | inr is ↦ not_no_forall (formula.Atom one.0) binders g (sym is ∙ e)
    ]
no_forall functions IsArg f binders g (inr any) e = any_no_forall any.0 binders g (sym any.1 ∙ e)

for_all_some : (n : ℕ) (f : Formula) → 1 ≤ n → for_all n f ≡ formula.Forall (variables_from 0 n) f
for_all_some zero f h = absurd (omega arith)
for_all_some (suc n) f h = refl

abbrev IsClauseOver : List Function → ℕ → Formula → Type 0
IsClauseOver functions variables f = IsClause functions (IsArgument functions variables) f

quantified : (functions : List Function) (f : Formula) (binders : List Binder) (clause : Formula) → f ≡ formula.Forall binders clause
    → (n : ℕ) (g : Formula) → f ≡ for_all n g → IsClauseOver functions n g → AreVariables binders × IsClauseOver functions (length binders) clause
quantified functions f binders clause e zero g is over = absurd (no_forall functions (IsArgument functions 0) g binders clause over (sym is ∙ e))
quantified functions f binders clause e (suc n) g is over =
    let same = same_forall binders (variables_from 0 (suc n)) clause g (sym e ∙ is) in
    let number : length binders ≡ suc n = ap length same.0 ∙ length_variables 0 (suc n) in
    let body : IsClauseOver functions (suc n) clause = subst (IsClauseOver functions (suc n)) (sym same.1) over in (
      record { some = omega (arith, number); all = same.0 ∙ ap (variables_from 0) (sym number) },
      subst (λ k. IsClauseOver functions k clause) (sym number) body,
    )

-- a rule by its binders and its clause
pub forall_parts : (functions : List Function) (f : Formula) (binders : List Binder) (clause : Formula) → f ≡ formula.Forall binders clause
    → IsRule functions f ↔ (AreVariables binders × IsClause functions (IsArgument functions (length binders)) clause)
forall_parts functions f binders clause e = (
  λ is. quantified functions f binders clause e is.0 is.1 is.2 is.3,
  λ parts. (length binders, clause, e ∙ (ap (λ bs. formula.Forall bs clause) parts.0.all ∙ sym (for_all_some (length binders) clause parts.0.some)), parts.1),
)

-- a rule without a quantifier
open_rule : (functions : List Function) (f : Formula) → ((binders : List Binder) (g : Formula) → f ≡ formula.Forall binders g → ⊥)
    → (n : ℕ) (g : Formula) → f ≡ for_all n g → IsClauseOver functions n g → IsClauseOver functions 0 f
open_rule functions f not zero g is over = subst (IsClauseOver functions 0) (sym is) over
open_rule functions f not (suc n) g is over = absurd (not (variables_from 0 (suc n)) g is)

pub plain_parts : (functions : List Function) (f : Formula) → ((binders : List Binder) (g : Formula) → f ≡ formula.Forall binders g → ⊥)
    → IsRule functions f ↔ IsClause functions (IsArgument functions 0) f
plain_parts functions f not = (λ is. open_rule functions f not is.0 is.1 is.2 is.3, λ clause. (0, f, refl, clause))
