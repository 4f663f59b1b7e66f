-- How the trees in a tree read, by the list of its trees.
use Rattle.std.proofs.Common.{◌≡◌, List, ◌∷◌, map, refl, ap}
use Rattle.sexpr_text.specs.declared.tree.Sexpr.{Sexpr, Row_of-Sexpr, end_of-Sexpr, more_of-Sexpr}
use Rattle.sexpr_text.specs.declared.tree.Sexpr.TheVariants as tree
use Rattle.sexpr_text.specs.Trees.{trees_of}
use Rattle.smtlib_terms.specs.Reading.{Reading, inner, inner_of, readings, readings_of, side, trees_in}

-- the trees in a binding or in a list of bindings
inner_row : {n : _} (row : Row_of-Sexpr n) → inner_of row ≡ map readings (trees_of row)
unfolding side
inner_row end_of-Sexpr = refl
inner_row (more_of-Sexpr t row) = ap (λ (xs : List (List Reading)). readings t ∷ xs) (inner_row row)

pub inner_trees : (t : Sexpr) → inner t ≡ map readings (trees_in t)
unfolding side trees_in
inner_trees (tree.Symbol f) = refl
inner_trees (tree.Numeral f) = refl
inner_trees (tree.Decimal f) = refl
inner_trees (tree.Hex f) = refl
inner_trees (tree.Binary f) = refl
inner_trees (tree.Str f) = refl
inner_trees (tree.Keyword f) = refl
inner_trees (tree.List' n row) = inner_row row

readings_row : {n : _} (row : Row_of-Sexpr n) → readings_of row ≡ map side (trees_of row)
unfolding side
readings_row end_of-Sexpr = refl
readings_row (more_of-Sexpr t row) = ap (λ (xs : List Reading). side t ∷ xs) (readings_row row)

pub readings_trees : (t : Sexpr) → readings t ≡ map side (trees_in t)
unfolding side trees_in
readings_trees (tree.Symbol f) = refl
readings_trees (tree.Numeral f) = refl
readings_trees (tree.Decimal f) = refl
readings_trees (tree.Hex f) = refl
readings_trees (tree.Binary f) = refl
readings_trees (tree.Str f) = refl
readings_trees (tree.Keyword f) = refl
readings_trees (tree.List' n row) = readings_row row
