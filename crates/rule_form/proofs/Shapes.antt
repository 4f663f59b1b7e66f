-- What an assertion of the profile is made of.
use Rattle.std.proofs.Common.{◌≡◌, ℕ, zero, suc, List, length, refl, sym, ap, ◌∙◌, inl, inr}
use Rattle.mbqi_terms.specs.declared.formula.Formula.{Formula}
use Rattle.mbqi_terms.specs.declared.formula.Formula.TheBlock.{hidden-the_row-Formula-0, hidden-the_row-Formula-1}
use denote.Hole.Carrier.{hidden}
use Rattle.mbqi_terms.specs.declared.formula.Formula.TheVariants as formula
use Rattle.mbqi_terms.specs.declared.script.Function.{Function}
use Rattle.mbqi_terms.specs.declared.sort.Binder.{Binder}
use Rattle.mbqi_terms.specs.declared.term.Term.{Term}
use Rattle.element_atoms.specs.Profile.{IsArgument, IsClause, IsLiteral, IsRule, for_all, variables_from}
use Rattle.element_atoms.proofs.Numbers.{length_variables}
use Rattle.rule_form.specs.Rules.{variables_of, clause_of}

-- a clause has no variables of its own
variables_atom : (t : Term) → variables_of (formula.Atom t) ≡ 0
variables_atom t = refl

variables_not : (f : Formula) → variables_of (formula.Not f) ≡ 0
variables_not f = refl

variables_any : (fs : List Formula) → variables_of (formula.Any fs) ≡ 0
variables_any fs = refl

clause_atom : (t : Term) → clause_of (formula.Atom t) ≡ formula.Atom t
clause_atom t = refl

clause_not : (f : Formula) → clause_of (formula.Not f) ≡ formula.Not f
clause_not f = refl

clause_any : (fs : List Formula) → clause_of (formula.Any fs) ≡ formula.Any fs
clause_any fs = refl

pub variables_forall : (bs : List Binder) (f : Formula) → variables_of (formula.Forall bs f) ≡ length bs
variables_forall bs f = refl

pub clause_forall : (bs : List Binder) (f : Formula) → clause_of (formula.Forall bs f) ≡ f
unfolding hidden-the_row-Formula-0 hidden hidden-the_row-Formula-1
clause_forall bs f = refl

module _ (functions : List Function) (IsArg : Term → Type 0) where
  variables_literal : (f : Formula) → IsLiteral functions IsArg f → variables_of f ≡ 0
  variables_literal f is = elim is.2 [ inl e ↦ ap variables_of e ∙ variables_atom is.0 | inr e ↦ ap variables_of e ∙ variables_not (formula.Atom is.0) ]

  pub variables_clause : (f : Formula) → IsClause functions IsArg f → variables_of f ≡ 0
  variables_clause f (inl one) = variables_literal f one
  variables_clause f (inr any) = ap variables_of any.1 ∙ variables_any any.0

  clause_literal : (f : Formula) → IsLiteral functions IsArg f → clause_of f ≡ f
  clause_literal f is =
      elim is.2 [
        | inl e ↦ ap clause_of e ∙ (clause_atom is.0 ∙ sym e)
        | inr e ↦ ap clause_of e ∙ (clause_not (formula.Atom is.0) ∙ sym e)
      ]

  pub clause_clause : (f : Formula) → IsClause functions IsArg f → clause_of f ≡ f
  clause_clause f (inl one) = clause_literal f one
  clause_clause f (inr any) = ap clause_of any.1 ∙ (clause_any any.0 ∙ sym any.1)

  pub variables_for_all : (n : ℕ) (f : Formula) → IsClause functions IsArg f → variables_of (for_all n f) ≡ n
  variables_for_all zero f is = variables_clause f is
  variables_for_all (suc n) f is = variables_forall (variables_from 0 (suc n)) f ∙ length_variables 0 (suc n)

  pub clause_for_all : (n : ℕ) (f : Formula) → IsClause functions IsArg f → clause_of (for_all n f) ≡ f
  clause_for_all zero f is = clause_clause f is
  clause_for_all (suc n) f is = clause_forall (variables_from 0 (suc n)) f

-- the number of variables and the clause of a rule
pub rule_variables : (functions : List Function) (f : Formula) (is : IsRule functions f) → variables_of f ≡ is.0
rule_variables functions f is = ap variables_of is.2 ∙ variables_for_all functions (IsArgument functions is.0) is.0 is.1 is.3

pub rule_clause : (functions : List Function) (f : Formula) (is : IsRule functions f) → clause_of f ≡ is.1
rule_clause functions f is = ap clause_of is.2 ∙ clause_for_all functions (IsArgument functions is.0) is.0 is.1 is.3
