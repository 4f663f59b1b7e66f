use Rattle.std.specs.Prelude.{ℕ, Bool, true, false, not, if◌then◌else◌, List, Option, None, is_none, is_some, unwrap_or, slice_index_or}
use Rattle.std.specs.List.{list_any, list_all, sum_by}
use Rattle.std.specs.Option.{option_map}
use Rattle.mbqi_values.specs.declared.lit.Lit.{Lit}

-- By atom a truth, or none while the atom is free (this project's own).

-- The atom's truth; an atom past the end is free.
abbrev pub atom_on : List (Option Bool) → ℕ → Option Bool
atom_on truths atom = slice_index_or truths atom None

-- The literal's truth.
abbrev pub lit_on : List (Option Bool) → Lit → Option Bool
lit_on truths lit = option_map (λ truth. if lit.yes then truth else not truth) (atom_on truths lit.atom)

abbrev pub is_true : Option Bool → Bool
is_true truth = unwrap_or truth false

abbrev pub is_false : Option Bool → Bool
is_false truth = not (unwrap_or truth true)

abbrev pub is_free : Option Bool → Bool
is_free truth = is_none truth

-- The clause is true: one of its literals is.
abbrev pub true_on : List (Option Bool) → List Lit → Bool
true_on truths clause = list_any (λ lit. is_true (lit_on truths lit)) clause

-- The clause is false: each of its literals is.
abbrev pub false_on : List (Option Bool) → List Lit → Bool
false_on truths clause = list_all (λ lit. is_false (lit_on truths lit)) clause

-- Each literal of the clause has a truth.
abbrev pub decided_on : List (Option Bool) → List Lit → Bool
decided_on truths clause = list_all (λ lit. is_some (lit_on truths lit)) clause

-- How many atoms are free.
abbrev pub free_count : List (Option Bool) → ℕ
free_count truths = sum_by (λ truth. if is_free truth then 1 else 0) truths
