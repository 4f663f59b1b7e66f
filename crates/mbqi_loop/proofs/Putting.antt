-- A clause at a point says in the shown part of a model what its instance says in the whole model, where the point's values are those of
-- the terms that are put in.
use Rattle.std.proofs.Common.{◌≡◌, ℕ, ◌<◌, not, List, [], ◌∷◌, map, refl, sym, ap, ◌∙◌, inl, inr, arith}
use Rattle.std.specs.Prelude.{All}
use Rattle.std.specs.List.{list_any}
use Rattle.std.proofs.lemmas.List.Elements.{All-head, All-tail}
use Rattle.mbqi_values.specs.declared.value.Value.{Value}
use Rattle.mbqi_terms.specs.declared.formula.Formula.{Formula}
use Rattle.mbqi_terms.specs.declared.formula.Formula.TheVariants as formula
use Rattle.mbqi_terms.specs.declared.script.Function.{Function}
use Rattle.mbqi_terms.specs.declared.term.Symbol.TheVariants as symbol
use Rattle.mbqi_terms.specs.declared.term.Term.{Term}
use Rattle.mbqi_terms.specs.declared.term.Term.TheVariants as term
use Rattle.function_model.specs.Holds.{nowhere, values_in}
use Rattle.function_model.specs.Lookup.{is_declared, looked_up, table_where}
use Rattle.mbqi_terms.specs.Meanings.{truth_of}
use Rattle.function_model.specs.ValueOf.{Point, value_of}
use Rattle.function_model.specs.declared.model.FunctionModel.{FunctionModel}
use Rattle.element_atoms.specs.Profile.{IsArgument, IsAtom, IsClause, IsLiteral}
use Rattle.mbqi_values.specs.Value.{is_true}
use Rattle.rule_form.proofs.Putting.{put_any, put_apply, put_atom, put_constant, put_not, put_variable}
use Rattle.function_model.proofs.Values.{value_apply, value_variable}
use Rattle.mbqi_loop.proofs.Holding.{truth_any, truth_atom, truth_not, values_at}
use Rattle.mbqi_terms.specs.Substitution.{put_into, put_into_formula}

-- arguments are replaced, and the rest of a clause is as before
pub record Replaces (put : Term → Term) (put_formula : Formula → Formula) : Type 0 where
  pub apply : (f : ℕ) (ts : List Term) → put (term.Apply (symbol.Declared f) ts) ≡ term.Apply (symbol.Declared f) (map put ts)
  pub atom : (t : Term) → put_formula (formula.Atom t) ≡ formula.Atom (put t)
  pub negation : (f : Formula) → put_formula (formula.Not f) ≡ formula.Not (put_formula f)
  pub any : (fs : List Formula) → put_formula (formula.Any fs) ≡ formula.Any (map put_formula fs)

pub terms_put : (at : ℕ → Term) → Replaces (put_into at) (put_into_formula at)
terms_put at = record { apply = put_apply at; atom = put_atom at; negation = put_not at; any = put_any at }

itself : {X : Type 0} (xs : List X) → xs ≡ map (λ x. x) xs
itself [] = refl
itself (x ∷ xs) = ap (λ rest. x ∷ rest) (itself xs)

pub nothing_put : Replaces (λ t. t) (λ f. f)
nothing_put = record {
  apply = λ f ts. ap (term.Apply (symbol.Declared f)) (itself ts);
  atom = λ t. refl;
  negation = λ f. refl;
  any = λ fs. ap formula.Any (itself fs);
}

-- the point has the values of the terms
module _ (functions : List Function) (shown model : FunctionModel) (p : Point)
    (tables : (f : ℕ) → table_where (is_declared f) shown ≡ table_where (is_declared f) model) where
  abbrev here : Term → Value
  here t = value_of shown t p

  abbrev there : Term → Value
  there t = value_of model t nowhere

  declared_value : (f : ℕ) (ts us : List Term) → map here ts ≡ map there us
      → here (term.Apply (symbol.Declared f) ts) ≡ there (term.Apply (symbol.Declared f) us)
  declared_value f ts us same =
      value_apply shown p f ts
      ∙ (ap (λ o. looked_up o (map here ts)) (tables f)
      ∙ (ap (looked_up (table_where (is_declared f) model)) same ∙ sym (value_apply model nowhere f us)))

  -- a constant has one value, and a variable that of its term
  pub argument_value : (n : ℕ) (at : ℕ → Term) → ((place : ℕ) → place < n → p place ≡ there (at place))
      → (t : Term) → IsArgument functions n t → here t ≡ there (put_into at t)
  argument_value n at same t (inl named) =
      ap here named.1 ∙ (declared_value named.0 [] [] refl ∙ sym (ap (λ u. there (put_into at u)) named.1 ∙ ap there (put_constant at named.0)))
  argument_value n at same t (inr variable) =
      ap here variable.1 ∙ (value_variable shown p variable.0
      ∙ (same variable.0 variable.2 ∙ sym (ap (λ u. there (put_into at u)) variable.1 ∙ ap there (put_variable at variable.0))))

  pub constant_value : (t : Term) → IsArgument functions 0 t → here t ≡ there t
  constant_value t (inl named) = ap here named.1 ∙ (declared_value named.0 [] [] refl ∙ sym (ap there named.1))
  constant_value t (inr variable) = absurd (omega (arith, variable.2))

  module _ (IsArg : Term → Type 0) (put : Term → Term) (put_formula : Formula → Formula) (replaces : Replaces put put_formula)
      (argument : (t : Term) → IsArg t → here t ≡ there (put t)) where
    arguments_same : (ts : List Term) → All IsArg ts → map here ts ≡ map there (map put ts)
    arguments_same [] all = refl
    arguments_same (t ∷ ts) all =
        let first = argument t (All-head IsArg t ts all) in
        let rest = arguments_same ts (All-tail IsArg t ts all) in
        λ i. first i ∷ rest i

    atom_same : (t : Term) → IsAtom functions IsArg t → here t ≡ there (put t)
    atom_same t is =
        ap here is.3 ∙ (declared_value is.0 is.2 (map put is.2) (arguments_same is.2 is.7)
        ∙ sym (ap (λ u. there (put u)) is.3 ∙ ap there (replaces.apply is.0 is.2)))

    literal_same : (f : Formula) → IsLiteral functions IsArg f → truth_of (values_at shown p) f ≡ truth_of (values_in model) (put_formula f)
    literal_same f is = elim is.2 [
      | inl e ↦
          ap (truth_of (values_at shown p)) e ∙ (truth_atom (values_at shown p) is.0 ∙ (ap is_true (atom_same is.0 is.1)
          ∙ (sym (truth_atom (values_in model) (put is.0))
          ∙ sym (ap (λ g. truth_of (values_in model) (put_formula g)) e ∙ ap (truth_of (values_in model)) (replaces.atom is.0)))))
      | inr e ↦
          ap (truth_of (values_at shown p)) e ∙ (truth_not (values_at shown p) is.0 ∙ (ap (λ v. not (is_true v)) (atom_same is.0 is.1)
          ∙ (sym (truth_not (values_in model) (put is.0))
          ∙ sym (ap (λ g. truth_of (values_in model) (put_formula g)) e
          ∙ ap (truth_of (values_in model)) (replaces.negation (formula.Atom is.0) ∙ ap formula.Not (replaces.atom is.0))))))
    ]

    literals_same : (fs : List Formula) → All (IsLiteral functions IsArg) fs
        → map (truth_of (values_at shown p)) fs ≡ map (truth_of (values_in model)) (map put_formula fs)
    literals_same [] all = refl
    literals_same (f ∷ fs) all =
        let first = literal_same f (All-head (IsLiteral functions IsArg) f fs all) in
        let rest = literals_same fs (All-tail (IsLiteral functions IsArg) f fs all) in
        λ i. first i ∷ rest i

    pub clause_same : (f : Formula) → IsClause functions IsArg f → truth_of (values_at shown p) f ≡ truth_of (values_in model) (put_formula f)
    clause_same f (inl one) = literal_same f one
    clause_same f (inr any) =
        ap (truth_of (values_at shown p)) any.1 ∙ (truth_any (values_at shown p) any.0 ∙ (ap (list_any (λ b. b)) (literals_same any.0 any.2)
        ∙ (sym (truth_any (values_in model) (map put_formula any.0))
        ∙ sym (ap (λ g. truth_of (values_in model) (put_formula g)) any.1 ∙ ap (truth_of (values_in model)) (replaces.any any.0)))))
