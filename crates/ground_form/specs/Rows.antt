-- The clauses that define a literal by others (Tseitin 1968). Private clauses alone cite them.
use Rattle.std.specs.Prelude.{Bool, List, [], ◌∷◌, ◌++◌, map, if◌then◌else◌}
use Rattle.mbqi_values.specs.declared.lit.Lit.{Lit}
use Rattle.ground_form.specs.Clauses.{negated}

-- A literal that is true, or false.
abbrev pub constant_rows : Bool → Lit → List (List Lit)
constant_rows b lit = ((if b then lit else negated lit) ∷ []) ∷ []

-- A literal that is true exactly where all others are.
abbrev pub conjunction_rows : Lit → List Lit → List (List Lit)
conjunction_rows lit lits = map (λ l. negated lit ∷ l ∷ []) lits ++ (lit ∷ map negated lits) ∷ []

-- One that is true exactly where some other is.
abbrev pub disjunction_rows : Lit → List Lit → List (List Lit)
disjunction_rows lit lits = map (λ l. lit ∷ negated l ∷ []) lits ++ (negated lit ∷ lits) ∷ []

-- One that is true exactly where two others have one truth.
abbrev pub equivalence_rows : Lit → Lit → Lit → List (List Lit)
equivalence_rows lit l r =
    (negated lit ∷ negated l ∷ r ∷ []) ∷ (negated lit ∷ l ∷ negated r ∷ []) ∷ (lit ∷ l ∷ r ∷ []) ∷ (lit ∷ negated l ∷ negated r ∷ []) ∷ []

-- One that has the truth of the second where the first is true, else that of the third.
abbrev pub choice_rows : Lit → Lit → Lit → Lit → List (List Lit)
choice_rows lit c l r =
    (negated lit ∷ negated c ∷ l ∷ []) ∷ (negated lit ∷ c ∷ r ∷ []) ∷ (lit ∷ negated c ∷ negated l ∷ []) ∷ (lit ∷ c ∷ negated r ∷ []) ∷ []
