use Rattle.std.specs.Prelude.{ℕ, ◌+◌, ◌≤◌, List, [], ◌∷◌, max}
use Rattle.sexpr_text.specs.Lexis.{open_limit}
use Rattle.sexpr_text.specs.declared.tree.Sexpr.{Sexpr}
use Rattle.sexpr_text.specs.declared.tree.Sexpr.TheOpen.{Sexpr-F}
use Rattle.sexpr_text.specs.declared.tree.Sexpr.TheFolds.{fold-Sexpr}

abbrev pub highest : List ℕ → ℕ
highest [] = 0
highest (n ∷ ns) = max n (highest ns)

-- How many brackets are open at the deepest place of a tree's text. Below, the parts of a list are given by theirs.
abbrev pub depth_layer : Sexpr-F ℕ → ℕ
depth_layer (Sexpr-F.Numeral text) = 0
depth_layer (Sexpr-F.Decimal text) = 0
depth_layer (Sexpr-F.Hex text) = 0
depth_layer (Sexpr-F.Binary text) = 0
depth_layer (Sexpr-F.Str text) = 0
depth_layer (Sexpr-F.Symbol text) = 0
depth_layer (Sexpr-F.Keyword text) = 0
depth_layer (Sexpr-F.List parts) = 1 + highest parts

abbrev pub depth_of : Sexpr → ℕ
depth_of tree = fold-Sexpr ℕ depth_layer tree

-- The brackets of the tree's text are within the limit.
abbrev pub IsShallow : Sexpr → Type 0
IsShallow tree = depth_of tree ≤ open_limit
