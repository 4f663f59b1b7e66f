-- The parts of a term that has its value from tables alone, and their levels.
use Rattle.std.proofs.Common.{◌≡◌, ℤ, false, List, ap, subst, ◌∙◌}
use Rattle.std.specs.Prelude.{All, get_or}
use Rattle.std.proofs.lemmas.List.Elements.{Contains-get_or}
use Rattle.mbqi_values.specs.Sum.{IsBelow}
use Rattle.mbqi_terms.specs.declared.term.ArrayTerm.{ArrayTerm}
use Rattle.mbqi_terms.specs.declared.term.Symbol.{Symbol}
use Rattle.mbqi_terms.specs.declared.term.Term.{Term, out-Term}
use Rattle.mbqi_terms.specs.declared.term.Term.TheVariants as term
use Rattle.mbqi_terms.specs.Tree.{IsBase, IsPart}
use Rattle.mbqi_terms.proofs.Levels.{out-apply, out-default, out-plus, out-read}
use Rattle.function_model.specs.Evaluable.{IsEvaluable, IsEvaluableLayer}
use Rattle.function_model.specs.ValueOf.{is_compound}

own_level : (t : Term) → IsEvaluable t → IsEvaluableLayer (out-Term t)
own_level t is = is t (IsPart.itself t)

pub sum_base : (t u : Term) (n : ℤ) → t ≡ term.Plus u n → IsEvaluable t → IsEvaluable u
sum_base t u n e is part inside = is part (IsPart.of_sum part t u n (ap out-Term e ∙ out-plus u n) inside)

pub sum_level : (t u : Term) (n : ℤ) → t ≡ term.Plus u n → IsEvaluable t → IsBase (out-Term u) × IsBelow n 124
sum_level t u n e is = subst IsEvaluableLayer (ap out-Term e ∙ out-plus u n) (own_level t is)

pub arguments : (t : Term) (f : Symbol) (us : List Term) → t ≡ term.Apply f us → IsEvaluable t → All IsEvaluable us
arguments t f us e is k d h part inside =
    is part (IsPart.of_argument part t (get_or us k d) f us (ap out-Term e ∙ out-apply f us) (Contains-get_or us k d h) inside)

pub read_index : (t u : Term) (a : ArrayTerm) → t ≡ term.Read a u → IsEvaluable t → IsEvaluable u
read_index t u a e is part inside = is part (IsPart.of_index part t u a (ap out-Term e ∙ out-read a u) inside)

pub read_level : (t u : Term) (a : ArrayTerm) → t ≡ term.Read a u → IsEvaluable t → is_compound a ≡ false
read_level t u a e is = subst IsEvaluableLayer (ap out-Term e ∙ out-read a u) (own_level t is)

pub no_default : (t : Term) (a : ArrayTerm) → t ≡ term.Default a → IsEvaluable t → ⊥
no_default t a e is = subst IsEvaluableLayer (ap out-Term e ∙ out-default a) (own_level t is)
