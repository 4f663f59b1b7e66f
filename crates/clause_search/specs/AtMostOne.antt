use Rattle.std.specs.Prelude.{◌≡◌, ℕ, ◌==◌, ◌&&◌, Bool, true, false, not, if◌then◌else◌, List, [], ◌∷◌, Option, None, Some}
use Rattle.std.specs.List.{list_all}
use Rattle.mbqi_values.specs.declared.lit.Lit.{Lit}
use Rattle.mbqi_values.specs.declared.value.Value.{Value}
use Rattle.clause_search.specs.Resolvent.{contains_lit}

-- A theory of the tests: at most one atom is true, and there are no terms.

abbrev pub IsLawful : ℕ → List Value → (ℕ → Bool) → Type 0
IsLawful atoms values truths = (values ≡ []) × ((a b : ℕ) → truths a ≡ true → truths b ≡ true → a ≡ b)

-- At most one of the literals takes its atom as true.
abbrev pub at_most_one : List Lit → Bool
at_most_one [] = true
at_most_one (lit ∷ lits) = if lit.yes then list_all (λ other. not other.yes) lits else at_most_one lits

-- Two literals of different atoms, both taken as true, of which the first is of the content.
abbrev pub is_clash : List Lit → List Lit → Bool
is_clash content [] = false
is_clash content (one ∷ []) = false
is_clash content (one ∷ other ∷ []) = contains_lit content one && one.yes && other.yes && not (one.atom == other.atom)
is_clash content (one ∷ other ∷ more ∷ rest) = false

-- What is kept of a clash, if there was one.
abbrev pub keeps_clash : Bool → List Lit → List Lit → Bool
keeps_clash clashed content pair = if clashed then is_clash content pair else true

-- The literal that clashed.
abbrev pub refused_by : Bool → List Lit → Option Lit
refused_by false pair = None
refused_by true [] = None
refused_by true (one ∷ []) = None
refused_by true (one ∷ other ∷ rest) = Some other
