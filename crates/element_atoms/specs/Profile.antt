-- The first profile as a condition on scripts (this project's own, inside SMT-LIB 2.6): one sort, its constants, predicates over it,
-- and assertions that are literals or disjunctions of literals over the constants and over universal variables.
use Rattle.std.specs.Prelude.{◌≡◌, ℕ, zero, suc, ◌+◌, ◌<◌, ◌≤◌, ◌⊎◌, Bool, true, false, List, [], ◌∷◌, length, All, Some, slice_get, if◌then◌else◌}
use Rattle.std.specs.List.{AllByRecursion}
use Rattle.mbqi_terms.specs.declared.formula.Formula.{Formula}
use Rattle.mbqi_terms.specs.declared.formula.Formula.TheVariants as formula
use Rattle.mbqi_terms.specs.declared.script.Function.{Function}
use Rattle.mbqi_terms.specs.declared.script.Script.{Script}
use Rattle.mbqi_terms.specs.declared.sort.Binder.{Binder}
use Rattle.mbqi_terms.specs.declared.sort.Sort.{Sort}
use Rattle.mbqi_terms.specs.declared.sort.Sort.TheVariants as sort
use Rattle.mbqi_terms.specs.declared.term.Symbol.TheVariants as symbol
use Rattle.mbqi_terms.specs.declared.term.Term.{Term}
use Rattle.mbqi_terms.specs.declared.term.Term.TheVariants as term

-- The one sort has the number 0.
abbrev pub the_sort : Sort
the_sort = sort.Elem 0

-- A constant of the one sort, or a predicate over it.
abbrev pub IsConstant : Function → Type 0
IsConstant function = (function.result ≡ the_sort) × (function.args ≡ [])

abbrev pub IsPredicate : Function → Type 0
IsPredicate function = (function.result ≡ sort.Truth) × AllByRecursion (λ arg. arg ≡ the_sort) function.args

abbrev pub is_element : Sort → Bool
is_element (sort.Elem s) = true
is_element sort.Truth = false
is_element sort.Int = false
is_element (sort.Array i e) = false

-- Whether a function of the profile is a constant; else it is a predicate.
abbrev pub is_constant : Function → Bool
is_constant function = is_element function.result

-- The number is that of a constant among the functions.
abbrev pub NamesConstant : List Function → ℕ → Type 0
NamesConstant functions c = (function : Function) × (slice_get functions c ≡ Some function) × IsConstant function

-- The term of a constant, and the seed of the sort, a term for what has no name.
abbrev pub constant : ℕ → Term
constant c = term.Apply (symbol.Declared c) []

abbrev pub seed : Term
seed = term.Apply (symbol.Seed 0) []

-- A constant of the functions.
abbrev pub IsConstantTerm : List Function → Term → Type 0
IsConstantTerm functions t = (c : ℕ) × (t ≡ constant c) × NamesConstant functions c

-- An argument of a ground atom: a constant, or the seed.
abbrev pub IsGround : List Function → Term → Type 0
IsGround functions t = IsConstantTerm functions t ⊎ (t ≡ seed)

-- An argument below a quantifier of so many variables: a constant, or one of the variables by its place.
abbrev pub IsArgument : List Function → ℕ → Term → Type 0
IsArgument functions variables t = IsConstantTerm functions t ⊎ ((place : ℕ) × (t ≡ term.Var place) × (place < variables))

-- A predicate of as many arguments as it takes, each as given.
abbrev pub IsAtom : List Function → (Term → Type 0) → Term → Type 0
IsAtom functions IsArg t =
    (p : ℕ) × (function : Function) × (args : List Term) × (t ≡ term.Apply (symbol.Declared p) args) × (slice_get functions p ≡ Some function)
    × IsPredicate function × (length args ≡ length function.args) × All IsArg args

-- An atom or its negation.
abbrev pub IsLiteral : List Function → (Term → Type 0) → Formula → Type 0
IsLiteral functions IsArg f = (t : Term) × IsAtom functions IsArg t × ((f ≡ formula.Atom t) ⊎ (f ≡ formula.Not (formula.Atom t)))

-- A literal or a disjunction of literals.
abbrev pub IsClause : List Function → (Term → Type 0) → Formula → Type 0
IsClause functions IsArg f =
    IsLiteral functions IsArg f ⊎ ((literals : List Formula) × (f ≡ formula.Any literals) × All (IsLiteral functions IsArg) literals)

-- So many variables of the one sort, from a place on.
abbrev pub variables_from : ℕ → ℕ → List Binder
variables_from place zero = []
variables_from place (suc n) = record { place = place; sort = the_sort } ∷ variables_from (place + 1) n

-- The formula for all values of so many variables; without variables the formula itself.
abbrev pub for_all : ℕ → Formula → Formula
for_all zero f = f
for_all (suc n) f = formula.Forall (variables_from 0 (suc n)) f

-- A clause, or a clause for all values of its variables.
abbrev pub IsRule : List Function → Formula → Type 0
IsRule functions f = (variables : ℕ) × (clause : Formula) × (f ≡ for_all variables clause) × IsClause functions (IsArgument functions variables) clause

-- A script of the profile: at most one sort, constants and predicates over it, and clauses for all values of their variables. Without a sort
-- it says nothing.
pub record IsElementary (script : Script) : Type 0 where
  pub sorts : length script.sorts ≤ 1
  pub named : script.sorts ≡ [] → (script.functions ≡ []) × (script.assertions ≡ [])
  pub functions : AllByRecursion (λ function. IsConstant function ⊎ IsPredicate function) script.functions
  pub assertions : AllByRecursion (λ assertion. IsRule script.functions assertion.formula) script.assertions

-- The terms of the constants, in order of their declarations, from number f on.
abbrev pub constants_from : ℕ → List Function → List Term
constants_from f [] = []
constants_from f (function ∷ functions) =
    if is_constant function then constant f ∷ constants_from (f + 1) functions else constants_from (f + 1) functions

abbrev pub constants_of : List Function → List Term
constants_of functions = constants_from 0 functions
