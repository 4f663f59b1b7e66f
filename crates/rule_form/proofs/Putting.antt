-- Terms in the places of the variables of a clause.
use Rattle.std.proofs.Common.{◌≡◌, ℕ, ◌<◌, List, [], ◌∷◌, length, map, refl, sym, ap, subst, ◌∙◌, inl, inr, arith, rules}
use Rattle.std.specs.Prelude.{All}
use Rattle.std.proofs.lemmas.List.{length-map}
use Rattle.std.proofs.lemmas.List.Elements.{All-head, All-tail, All-nil, All-cons}
use Rattle.mbqi_terms.specs.declared.formula.Formula as formulas
use Rattle.mbqi_terms.specs.declared.formula.Formula.{Formula}
use Rattle.mbqi_terms.specs.declared.formula.Formula.TheFolds.{fold-roll-Formula}
use Rattle.mbqi_terms.specs.declared.formula.Formula.TheOpen.{Formula-F}
use Rattle.mbqi_terms.specs.declared.formula.Formula.TheVariants as formula
use Rattle.mbqi_terms.specs.declared.script.Function.{Function}
use Rattle.mbqi_terms.specs.declared.term.Symbol as symbols
use Rattle.mbqi_terms.specs.declared.term.Symbol.TheVariants as symbol
use Rattle.mbqi_terms.specs.declared.term.Term as terms
use Rattle.mbqi_terms.specs.declared.term.ArrayTerm.TheOpen.{Term-F}
use Rattle.mbqi_terms.specs.declared.term.Term.{Term, out-Term}
use Rattle.mbqi_terms.proofs.Levels.{out-apply, out-var}
use Rattle.element_atoms.proofs.Numbers.{same_declared}
use Rattle.mbqi_terms.specs.declared.term.Term.TheVariants as term
use Rattle.element_atoms.specs.Profile.{IsArgument, IsAtom, IsClause, IsGround, IsLiteral, constant}
use Rattle.rule_form.specs.Rules.{term_at, clause_at}
use Rattle.mbqi_terms.specs.Substitution.{put_into, put_into_formula, put_formula_layer}

-- nothing is put into a constant, and a variable becomes its term
pub put_constant : (at : ℕ → Term) (c : ℕ) → put_into at (constant c) ≡ constant c
unfolding put_into
put_constant at c = search (rules, terms.the_lemmas, symbols.the_lemmas)

pub put_variable : (at : ℕ → Term) (place : ℕ) → put_into at (term.Var place) ≡ at place
unfolding put_into
put_variable at place = search (rules, terms.the_lemmas)

pub put_apply : (at : ℕ → Term) (p : ℕ) (ts : List Term) → put_into at (term.Apply (symbol.Declared p) ts) ≡ term.Apply (symbol.Declared p) (map (put_into at) ts)
unfolding put_into
put_apply at p ts = search (rules, terms.the_lemmas, symbols.the_lemmas)

-- each kind of formula of a clause
pub put_atom : (at : ℕ → Term) (t : Term) → put_into_formula at (formula.Atom t) ≡ formula.Atom (put_into at t)
unfolding put_into_formula
put_atom at t = search (rules, formulas.the_lemmas)

pub put_not : (at : ℕ → Term) (f : Formula) → put_into_formula at (formula.Not f) ≡ formula.Not (put_into_formula at f)
unfolding put_into_formula
put_not at f = search (rules, formulas.the_lemmas)

pub put_any : (at : ℕ → Term) (fs : List Formula) → put_into_formula at (formula.Any fs) ≡ formula.Any (map (put_into_formula at) fs)
unfolding put_into_formula
put_any at fs = ap (put_into_formula at) (sym (formula.rolls-Any fs)) ∙ fold-roll-Formula Formula (put_formula_layer at) (Formula-F.Any fs)

-- arguments, atoms, literals and clauses with ground terms in the places of their variables are ground
module _ (functions : List Function) (ts : List Term) (ground : All (IsGround functions) ts) where
  ground_argument : (t : Term) → IsArgument functions (length ts) t → IsGround functions (put_into (term_at ts) t)
  ground_argument t (inl named) = inl (named.0, ap (put_into (term_at ts)) named.1 ∙ put_constant (term_at ts) named.0, named.2)
  ground_argument t (inr variable) =
      subst (IsGround functions) (sym (ap (put_into (term_at ts)) variable.1 ∙ put_variable (term_at ts) variable.0))
      (ground variable.0 (term.Var variable.0) variable.2)

  ground_arguments : (args : List Term) → All (IsArgument functions (length ts)) args → All (IsGround functions) (map (put_into (term_at ts)) args)
  ground_arguments [] all = All-nil (IsGround functions)
  ground_arguments (t ∷ args) all =
      All-cons (IsGround functions) (put_into (term_at ts) t) (map (put_into (term_at ts)) args)
      (ground_argument t (All-head (IsArgument functions (length ts)) t args all))
      (ground_arguments args (All-tail (IsArgument functions (length ts)) t args all))

  pub ground_atom : (t : Term) → IsAtom functions (IsArgument functions (length ts)) t → IsAtom functions (IsGround functions) (put_into (term_at ts) t)
  ground_atom t is = (
    is.0,
    is.1,
    map (put_into (term_at ts)) is.2,
    ap (put_into (term_at ts)) is.3 ∙ put_apply (term_at ts) is.0 is.2,
    is.4,
    is.5,
    length-map is.2 (put_into (term_at ts)) ∙ is.6,
    ground_arguments is.2 is.7,
  )

  ground_literal : (f : Formula) → IsLiteral functions (IsArgument functions (length ts)) f → IsLiteral functions (IsGround functions) (clause_at f ts)
  ground_literal f is = (
    put_into (term_at ts) is.0,
    ground_atom is.0 is.1,
    elim is.2 [
      | inl e ↦ inl (ap (put_into_formula (term_at ts)) e ∙ put_atom (term_at ts) is.0)
      | inr e ↦ inr (ap (put_into_formula (term_at ts)) e ∙ (put_not (term_at ts) (formula.Atom is.0) ∙ ap formula.Not (put_atom (term_at ts) is.0)))
    ],
  )

  ground_literals : (fs : List Formula) → All (IsLiteral functions (IsArgument functions (length ts))) fs
      → All (IsLiteral functions (IsGround functions)) (map (put_into_formula (term_at ts)) fs)
  ground_literals [] all = All-nil (IsLiteral functions (IsGround functions))
  ground_literals (f ∷ fs) all =
      All-cons (IsLiteral functions (IsGround functions)) (clause_at f ts) (map (put_into_formula (term_at ts)) fs)
      (ground_literal f (All-head (IsLiteral functions (IsArgument functions (length ts))) f fs all))
      (ground_literals fs (All-tail (IsLiteral functions (IsArgument functions (length ts))) f fs all))

  pub ground_clause : (f : Formula) → IsClause functions (IsArgument functions (length ts)) f → IsClause functions (IsGround functions) (clause_at f ts)
  ground_clause f (inl one) = inl (ground_literal f one)
  ground_clause f (inr any) =
      inr (map (put_into_formula (term_at ts)) any.0, ap (put_into_formula (term_at ts)) any.1 ∙ put_any (term_at ts) any.0, ground_literals any.0 any.2)

-- what is put depends on the places of the variables alone
module _ (functions : List Function) (n : ℕ) (at other : ℕ → Term) (same : (place : ℕ) → place < n → at place ≡ other place) where
  alike_argument : (t : Term) → IsArgument functions n t → put_into at t ≡ put_into other t
  alike_argument t (inl named) = ap (put_into at) named.1 ∙ (put_constant at named.0 ∙ sym (ap (put_into other) named.1 ∙ put_constant other named.0))
  alike_argument t (inr variable) =
      ap (put_into at) variable.1 ∙ (put_variable at variable.0 ∙ (same variable.0 variable.2 ∙ sym (ap (put_into other) variable.1 ∙ put_variable other variable.0)))

  alike_arguments : (args : List Term) → All (IsArgument functions n) args → map (put_into at) args ≡ map (put_into other) args
  alike_arguments [] all = refl
  alike_arguments (t ∷ args) all =
      let first = alike_argument t (All-head (IsArgument functions n) t args all) in
      let rest = alike_arguments args (All-tail (IsArgument functions n) t args all) in
      λ i. first i ∷ rest i

  pub alike_atom : (t : Term) → IsAtom functions (IsArgument functions n) t → put_into at t ≡ put_into other t
  alike_atom t is =
      ap (put_into at) is.3 ∙ (put_apply at is.0 is.2 ∙ (ap (term.Apply (symbol.Declared is.0)) (alike_arguments is.2 is.7)
      ∙ sym (ap (put_into other) is.3 ∙ put_apply other is.0 is.2)))

-- an argument is a variable, or a constant into which nothing is put
same_variable : (place other : ℕ) → term.Var place ≡ term.Var other → place ≡ other
same_variable place other e = let layers : Term-F.Var place ≡ Term-F.Var other = sym (out-var place) ∙ (ap out-Term e ∙ out-var other) in cc

constant_no_variable : (c place : ℕ) → constant c ≡ term.Var place → ⊥
constant_no_variable c place e =
    let layers : Term-F.Apply (symbol.Declared c) [] ≡ Term-F.Var place = sym (out-apply (symbol.Declared c) []) ∙ (ap out-Term e ∙ out-var place) in cc

pub variable_within : (functions : List Function) (n : ℕ) (t : Term) (place : ℕ) → IsArgument functions n t → t ≡ term.Var place → place < n
variable_within functions n t place (inl named) e = absurd (constant_no_variable named.0 place (sym named.1 ∙ e))
variable_within functions n t place (inr variable) e = subst (λ p. p < n) (same_variable variable.0 place (sym variable.1 ∙ e)) variable.2

pub put_named : (functions : List Function) (n : ℕ) (at : ℕ → Term) (t : Term) → IsArgument functions n t → ((place : ℕ) → t ≡ term.Var place → ⊥) → put_into at t ≡ t
put_named functions n at t (inl named) other = ap (put_into at) named.1 ∙ (put_constant at named.0 ∙ sym named.1)
put_named functions n at t (inr variable) other = absurd (other variable.0 variable.1)

-- nothing is put into a clause without variables
module _ (functions : List Function) (at : ℕ → Term) where
  closed_argument : (t : Term) → IsArgument functions 0 t → put_into at t ≡ t
  closed_argument t is = put_named functions 0 at t is (λ place e. absurd (omega (arith, variable_within functions 0 t place is e)))

  closed_arguments : (args : List Term) → All (IsArgument functions 0) args → map (put_into at) args ≡ args
  closed_arguments [] all = refl
  closed_arguments (t ∷ args) all =
      let first = closed_argument t (All-head (IsArgument functions 0) t args all) in
      let rest = closed_arguments args (All-tail (IsArgument functions 0) t args all) in
      λ i. first i ∷ rest i

  closed_atom : (t : Term) → IsAtom functions (IsArgument functions 0) t → put_into at t ≡ t
  closed_atom t is =
      ap (put_into at) is.3 ∙ (put_apply at is.0 is.2 ∙ (ap (term.Apply (symbol.Declared is.0)) (closed_arguments is.2 is.7) ∙ sym is.3))

  closed_literal : (f : Formula) → IsLiteral functions (IsArgument functions 0) f → put_into_formula at f ≡ f
  closed_literal f is =
      elim is.2 [
        | inl e ↦ ap (put_into_formula at) e ∙ (put_atom at is.0 ∙ (ap formula.Atom (closed_atom is.0 is.1) ∙ sym e))
        | inr e ↦
            ap (put_into_formula at) e ∙ (put_not at (formula.Atom is.0) ∙ (ap formula.Not (put_atom at is.0)
            ∙ (ap (λ t. formula.Not (formula.Atom t)) (closed_atom is.0 is.1) ∙ sym e)))
      ]

  closed_literals : (fs : List Formula) → All (IsLiteral functions (IsArgument functions 0)) fs → map (put_into_formula at) fs ≡ fs
  closed_literals [] all = refl
  closed_literals (f ∷ fs) all =
      let first = closed_literal f (All-head (IsLiteral functions (IsArgument functions 0)) f fs all) in
      let rest = closed_literals fs (All-tail (IsLiteral functions (IsArgument functions 0)) f fs all) in
      λ i. first i ∷ rest i

  pub closed_clause : (f : Formula) → IsClause functions (IsArgument functions 0) f → put_into_formula at f ≡ f
  closed_clause f (inl one) = closed_literal f one
  closed_clause f (inr any) =
      ap (put_into_formula at) any.1 ∙ (put_any at any.0 ∙ (ap formula.Any (closed_literals any.0 any.2) ∙ sym any.1))

-- the arguments of an atom
pub atom_arguments : (functions : List Function) (IsArg : Term → Type 0) (t : Term) (p : ℕ) (args : List Term) → IsAtom functions IsArg t
    → t ≡ term.Apply (symbol.Declared p) args → All IsArg args
atom_arguments functions IsArg t p args atom e =
    let same = same_declared p atom.0 args atom.2 (sym e ∙ atom.3) in
    subst (All IsArg) (sym same.1) atom.7
