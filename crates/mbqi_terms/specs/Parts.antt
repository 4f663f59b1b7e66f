-- What stands in terms and formulas (this project's own).
use Rattle.std.specs.Prelude.{◌≡◌, ℤ, List, [], ◌∷◌, ◌++◌, Contains}
use Rattle.std.specs.List.{flat_map}
use Rattle.mbqi_terms.specs.declared.arrays.ArrayPair.{ArrayPair}
use Rattle.mbqi_terms.specs.declared.formula.Formula.{Formula}
use Rattle.mbqi_terms.specs.declared.formula.Formula.TheFolds.{fold-Formula}
use Rattle.mbqi_terms.specs.declared.formula.Formula.TheOpen.{Formula-F}
use Rattle.mbqi_terms.specs.declared.sort.Sort.{Sort}
use Rattle.mbqi_terms.specs.declared.term.ArrayTerm.{ArrayTerm}
use Rattle.mbqi_terms.specs.declared.term.ArrayTerm.TheVariants as array
use Rattle.mbqi_terms.specs.declared.term.MapOp.{MapOp}
use Rattle.mbqi_terms.specs.declared.term.Symbol.{Symbol}
use Rattle.mbqi_terms.specs.declared.term.Symbol.TheVariants as symbol
use Rattle.mbqi_terms.specs.declared.term.Term.{Term}
use Rattle.mbqi_terms.specs.declared.term.Term.TheVariants as term

-- The terms of a formula's atoms; array equalities have pairs of arrays in their place.
abbrev pub terms_layer : Formula-F (List Term) → List Term
terms_layer (Formula-F.Truth t) = []
terms_layer (Formula-F.Atom t) = t ∷ []
terms_layer (Formula-F.Equal s t) = s ∷ t ∷ []
terms_layer (Formula-F.AtMost s t) = s ∷ t ∷ []
terms_layer (Formula-F.SameArray a b) = []
terms_layer (Formula-F.Not f) = f
terms_layer (Formula-F.All parts) = flat_map (λ part. part) parts
terms_layer (Formula-F.Any parts) = flat_map (λ part. part) parts
terms_layer (Formula-F.Iff f g) = f ++ g
terms_layer (Formula-F.Choose c f g) = c ++ (f ++ g)
terms_layer (Formula-F.Forall binders f) = f
terms_layer (Formula-F.Exists binders f) = f

unfoldable pub terms_in : Formula → List Term
terms_in f = fold-Formula (List Term) terms_layer f

-- The pairs of a formula's equalities of arrays, which have a truth. The pairs of difference indices in its terms have none of their own.
abbrev pub pairs_layer : Formula-F (List ArrayPair) → List ArrayPair
pairs_layer (Formula-F.Truth t) = []
pairs_layer (Formula-F.Atom t) = []
pairs_layer (Formula-F.Equal s t) = []
pairs_layer (Formula-F.AtMost s t) = []
pairs_layer (Formula-F.SameArray a b) = record { left = a; right = b } ∷ []
pairs_layer (Formula-F.Not f) = f
pairs_layer (Formula-F.All parts) = flat_map (λ part. part) parts
pairs_layer (Formula-F.Any parts) = flat_map (λ part. part) parts
pairs_layer (Formula-F.Iff f g) = f ++ g
pairs_layer (Formula-F.Choose c f g) = c ++ (f ++ g)
pairs_layer (Formula-F.Forall binders f) = f
pairs_layer (Formula-F.Exists binders f) = f

unfoldable pub pairs_in : Formula → List ArrayPair
pairs_in f = fold-Formula (List ArrayPair) pairs_layer f

-- The first term is the second or stands anywhere in it, in its array terms and the pairs of its symbols too. So these are more terms
-- than the parts that a store keeps.
mutual
  pub data IsWithin (part : Term) : Term → Type 0 where
    itself : IsWithin part part
    of_sum : (t : Term) (n : ℤ) → IsWithin part t → IsWithin part (term.Plus t n)
    of_argument : (f : Symbol) (ts : List Term) (t : Term) → Contains ts t → IsWithin part t → IsWithin part (term.Apply f ts)
    of_pair : (a b : ArrayTerm) (ts : List Term) (side : ArrayTerm) → Contains (a ∷ b ∷ []) side → IsWithinArray part side → IsWithin part (term.Apply (symbol.Diff a b) ts)
    of_index : (a : ArrayTerm) (t : Term) → IsWithin part t → IsWithin part (term.Read a t)
    of_read : (a : ArrayTerm) (t : Term) → IsWithinArray part a → IsWithin part (term.Read a t)
    of_default : (a : ArrayTerm) → IsWithinArray part a → IsWithin part (term.Default a)

  -- The term stands anywhere in the array term.
  pub data IsWithinArray (part : Term) : ArrayTerm → Type 0 where
    of_changed : (a : ArrayTerm) (t v : Term) → IsWithinArray part a → IsWithinArray part (array.Store a t v)
    of_place : (a : ArrayTerm) (t v : Term) → IsWithin part t → IsWithinArray part (array.Store a t v)
    of_value : (a : ArrayTerm) (t v : Term) → IsWithin part v → IsWithinArray part (array.Store a t v)
    of_constant : (s : Sort) (v : Term) → IsWithin part v → IsWithinArray part (array.Const s v)
    of_map : (f : MapOp) (arrays : List ArrayTerm) (a : ArrayTerm) → Contains arrays a → IsWithinArray part a → IsWithinArray part (array.Map f arrays)

-- The term stands anywhere in the formula's atoms and equalities of arrays.
pub data IsWithinFormula (part : Term) (f : Formula) : Type 0 where
  of_atom : (t : Term) → Contains (terms_in f) t → IsWithin part t → IsWithinFormula part f
  of_equality : (pair : ArrayPair) (side : ArrayTerm) → Contains (pairs_in f) pair → Contains (pair.left ∷ pair.right ∷ []) side → IsWithinArray part side → IsWithinFormula part f

-- The term is one of these or stands anywhere in them or in these formulas: what the terms of a refutation are, of its steps' terms and
-- formulas.
pub data IsAmong (part : Term) (ts : List Term) (fs : List Formula) : Type 0 where
  of_term : (t : Term) → Contains ts t → IsWithin part t → IsAmong part ts fs
  of_formula : (f : Formula) → Contains fs f → IsWithinFormula part f → IsAmong part ts fs
