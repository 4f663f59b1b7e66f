-- Lists of names, in which each name stands once, and lists of names with values (this project's own).
use Rattle.std.specs.Prelude.{ℕ, List, [], ◌∷◌, ◌++◌, nat_eq, Option, Some, None, if◌then◌else◌}
use Rattle.std.specs.Cmp.Lexicographic.{pointwise}
use Rattle.std.specs.List.{list_any}

-- The names with this one last, unless it is among them.
abbrev pub with_name : List (List ℕ) → List ℕ → List (List ℕ)
with_name names name = if list_any (λ other. pointwise nat_eq other name) names then names else names ++ name ∷ []

-- The value of the name's first entry.
abbrev pub value_of : {T : Type 0} → List ℕ → List (List ℕ × T) → Option T
value_of name [] = None
value_of name (e ∷ es) = if pointwise nat_eq name e.0 then Some e.1 else value_of name es
