use Rattle.std.specs.Prelude.{◌≡◌, ◌<◌, Bool, true, false, List, Option, None, length}
use Rattle.mbqi_values.specs.declared.lit.Lit.{Lit}
use Rattle.clause_search.specs.Course.{with_lit}
use Rattle.clause_search.specs.Resolvent.{negation}
use Rattle.clause_search.specs.Truths.{atom_on, false_on, true_on}
use Rattle.clause_search.specs.declared.clause_truth.ClauseTruth.{ClauseTruth}
use Rattle.clause_search.specs.declared.clause_truth.ClauseTruth.TheVariants.{True, False, Implied, Open}

-- What the truths say of a clause (unit propagation; Davis, Logemann and Loveland 1962).

-- A unit clause with this literal: it is free, and the clause is false once it is.
pub record IsUnit (truths : List (Option Bool)) (clause : List Lit) (lit : Lit) : Type 0 where
  pub within : lit.atom < length truths
  pub free : atom_on truths lit.atom ≡ None
  pub is_false : false_on (with_lit truths (negation lit)) clause ≡ true

abbrev pub AgreesOn : List (Option Bool) → List Lit → ClauseTruth → Type 0
AgreesOn truths clause True = true_on truths clause ≡ true
AgreesOn truths clause False = false_on truths clause ≡ true
AgreesOn truths clause (Implied lit) = IsUnit truths clause lit
AgreesOn truths clause Open = true_on truths clause ≡ false
