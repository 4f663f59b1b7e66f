-- What literals and clauses over the formulas of a table stand for.
use Rattle.std.specs.Prelude.{◌≡◌, ℕ, Bool, true, false, not, List, ◌++◌, Option, None, Some, slice_get, All, Contains}
use Rattle.std.specs.List.{AllZip}
use Rattle.mbqi_values.specs.declared.lit.Lit.{Lit}
use Rattle.mbqi_terms.specs.declared.formula.Formula.{Formula, end_of-Formula, more_of-Formula}
use Rattle.mbqi_terms.specs.declared.formula.Formula.TheVariants.{Atom, Equal, AtMost, SameArray, Not', All', Any', Iff', Choose', Forall', Exists'}
use Rattle.mbqi_terms.specs.declared.formula.Formula.TheVariants as formula
use Rattle.mbqi_terms.specs.Meanings.{Meanings, truth_of}
use Rattle.ground_form.specs.Definitions.{is_compound}

-- The literal of the same atom that is false exactly where this one is true.
abbrev pub negated : Lit → Lit
negated lit = record lit { yes = not lit.yes }

-- The literal is that of the formula's own atom.
abbrev pub IsAtomOf : List Formula → Lit → Formula → Type 0
IsAtomOf table lit f = (slice_get table lit.atom ≡ Some f) × (lit.yes ≡ true)

-- The literal of a formula: that of its atom, or where it is a negation, the negated literal of what it negates.
unfoldable pub IsLitOf : List Formula → Lit → Formula → Type 0
IsLitOf table lit (formula.Truth b) = IsAtomOf table lit (formula.Truth b)
IsLitOf table lit (Atom t) = IsAtomOf table lit (Atom t)
IsLitOf table lit (Equal s t) = IsAtomOf table lit (Equal s t)
IsLitOf table lit (AtMost s t) = IsAtomOf table lit (AtMost s t)
IsLitOf table lit (SameArray a b) = IsAtomOf table lit (SameArray a b)
IsLitOf table lit (Not' u (more_of-Formula f end_of-Formula)) = IsLitOf table (negated lit) f
IsLitOf table lit (All' n fs) = IsAtomOf table lit (All' n fs)
IsLitOf table lit (Any' n fs) = IsAtomOf table lit (Any' n fs)
IsLitOf table lit (Iff' u f v g) = IsAtomOf table lit (Iff' u f v g)
IsLitOf table lit (Choose' u c v f w g) = IsAtomOf table lit (Choose' u c v f w g)
IsLitOf table lit (Forall' bs u f) = IsAtomOf table lit (Forall' bs u f)
IsLitOf table lit (Exists' bs u f) = IsAtomOf table lit (Exists' bs u f)

-- The clauses have the literals of these lists of formulas.
abbrev pub AreClausesOf : List Formula → List (List Lit) → List (List Formula) → Type 0
AreClausesOf table clauses rows = AllZip (AllZip (IsLitOf table)) clauses rows

-- Each atom has the truth of its formula.
abbrev pub truth_at : Meanings → Option Formula → Bool
truth_at m None = false
truth_at m (Some f) = truth_of m f

abbrev pub truths_in : Meanings → List Formula → ℕ → Bool
truths_in m table atom = truth_at m (slice_get table atom)

-- The truths are those of the meanings wherever an atom's formula isn't one of parts.
abbrev pub AgreeOnBase : Meanings → List Formula → (ℕ → Bool) → Type 0
AgreeOnBase m table truths = (atom : ℕ) (f : Formula) → slice_get table atom ≡ Some f → is_compound f ≡ false → truths atom ≡ truth_of m f

-- The new table has the old one's formulas first, and behind them formulas among these.
abbrev pub GrowsBy : List Formula → List Formula → List Formula → Type 0
GrowsBy parts old new = (more : List Formula) × (new ≡ old ++ more) × All (Contains parts) more

-- The clauses that were there come first, and behind them those of these lists of formulas.
abbrev pub AddsClauses : List Formula → List (List Lit) → List (List Lit) → List (List Formula) → Type 0
AddsClauses table old new rows = (more : List (List Lit)) × (new ≡ old ++ more) × AreClausesOf table more rows
