-- Formulas joined from their ends, and sums by their terms.
use Rattle.std.proofs.Common.{◌≡◌, List, [], ◌∷◌, ◌++◌, length, Some, Ok, Err, refl, ap, ◌≢◌, arith}
use Rattle.std.specs.Prelude.{ℤ}
use Rattle.mbqi_values.specs.declared.fault.FaultKind.TheVariants.{NotDifference}
use Rattle.mbqi_terms.specs.declared.formula.Formula.{Formula}
use Rattle.mbqi_terms.specs.declared.formula.Formula.TheVariants as formula
use Rattle.mbqi_terms.specs.declared.term.Term.{Term}
use Rattle.smtlib_terms.specs.Number.{summed, summed_beside}
use Rattle.smtlib_terms.specs.Operators.{implication_of, implied_by, joined}

-- `and` or `or` of another number of formulas than one
pub joined_more : (join : List Formula → Formula) (fs : List Formula) → length fs ≢ 1 → joined join fs ≡ join fs
joined_more join [] more = refl
joined_more join (f ∷ []) more = absurd (more refl)
joined_more join (f ∷ g ∷ fs) more = refl

-- `=>` of formulas of which the last two are joined
implied_end : (g : Formula) (rest : List Formula) (f joined : Formula) → implied_by g ((rest ++ f ∷ []) ++ joined ∷ []) ≡ implied_by g (rest ++ formula.Any (formula.Not f ∷ joined ∷ []) ∷ [])
implied_end g [] f joined = refl
implied_end g (h ∷ rest) f joined = ap (λ (k : Formula). formula.Any (formula.Not g ∷ k ∷ [])) (implied_end h rest f joined)

pub implications_end : (rest : List Formula) (f joined : Formula) → implication_of ((rest ++ f ∷ []) ++ joined ∷ []) ≡ implication_of (rest ++ formula.Any (formula.Not f ∷ joined ∷ []) ∷ [])
implications_end [] f joined = refl
implications_end (g ∷ rest) f joined = ap (λ (k : Formula). Ok k) (implied_end g rest f joined)

-- the sum of a number and of terms of which the last one is `t`
pub beside_alone : (rest : List Term) (t : Term) (n : ℤ) → length rest ≡ 0 → summed_beside (rest ++ t ∷ []) n ≡ summed (Some t) n
beside_alone [] t n empty = refl
beside_alone (s ∷ rest) t n empty = absurd (omega (arith, empty))

pub beside_more : (rest : List Term) (t : Term) (n : ℤ) → length rest ≢ 0 → summed_beside (rest ++ t ∷ []) n ≡ Err NotDifference
beside_more [] t n some = absurd (some refl)
beside_more (s ∷ []) t n some = refl
beside_more (s ∷ r ∷ rest) t n some = refl

pub ruleset beside_laws = (beside_alone, beside_more)
