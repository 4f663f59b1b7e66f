-- What stands in a tree of one kind; nothing in a tree of another.
use Rattle.std.specs.Prelude.{ℕ, List, [], ◌∷◌, Option, None, Some}
use Rattle.sexpr_text.specs.declared.tree.Sexpr.{Sexpr, Row_of-Sexpr, end_of-Sexpr, more_of-Sexpr}
use Rattle.sexpr_text.specs.declared.tree.Sexpr.TheVariants as tree

abbrev pub numeral_in : Sexpr → Option (List ℕ)
numeral_in (tree.Numeral text) = Some text
numeral_in other = None

abbrev pub symbol_in : Sexpr → Option (List ℕ)
symbol_in (tree.Symbol text) = Some text
symbol_in other = None

abbrev pub keyword_in : Sexpr → Option (List ℕ)
keyword_in (tree.Keyword text) = Some text
keyword_in other = None

abbrev pub trees_of : {n : _} → Row_of-Sexpr n → List Sexpr
trees_of end_of-Sexpr = []
trees_of (more_of-Sexpr t row) = t ∷ trees_of row

abbrev pub list_in : Sexpr → Option (List Sexpr)
list_in (tree.List' n row) = Some (trees_of row)
list_in other = None
