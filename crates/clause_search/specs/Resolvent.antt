use Rattle.std.specs.Prelude.{ℕ, Bool, not, ◌==◌, ◌&&◌, if◌then◌else◌, filter, List, ◌++◌}
use Rattle.std.specs.List.{list_any}
use Rattle.mbqi_values.specs.declared.lit.Lit.{Lit}

-- The literal that is false exactly where this one is true.
abbrev pub negation : Lit → Lit
negation lit = record lit { yes = not lit.yes }

-- The two literals are one.
abbrev pub same_lit : Lit → Lit → Bool
same_lit a b = (a.atom == b.atom) && (if a.yes then b.yes else not b.yes)

-- The literal stands among those.
abbrev pub contains_lit : List Lit → Lit → Bool
contains_lit lits lit = list_any (λ other. same_lit other lit) lits

-- The literals but those of the atom.
abbrev pub without : ℕ → List Lit → List Lit
without atom lits = filter (λ lit. not (lit.atom == atom)) lits

-- The literals but those that stand in the other list.
abbrev pub missing_in : List Lit → List Lit → List Lit
missing_in others lits = filter (λ lit. not (contains_lit others lit)) lits

-- The resolvent of two clauses on an atom (Davis and Putnam 1960): the literals of both but those of the atom.
-- One that stands in both is taken from the left.
abbrev pub resolvent_of : List Lit → List Lit → ℕ → List Lit
resolvent_of left right atom = without atom left ++ missing_in left (without atom right)

-- The conflict without the atom, where its reason is another clause: their resolvent, if the conflict has the atom.
abbrev pub resolved_by : List Lit → List Lit → ℕ → List Lit
resolved_by conflict reason atom = if list_any (λ lit. lit.atom == atom) conflict then resolvent_of conflict reason atom else conflict
