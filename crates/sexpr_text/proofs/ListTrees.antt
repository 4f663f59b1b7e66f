-- The trees of a list.
use Rattle.std.proofs.Common.{◌≡◌, List, [], ◌∷◌, Option, None, Some, refl, ap}
use Rattle.sexpr_text.specs.declared.tree.Sexpr.{Sexpr}
use Rattle.sexpr_text.specs.declared.tree.Sexpr.TheVariants as tree
use Rattle.sexpr_text.specs.declared.tree.Sexpr.TheBlock.{hidden-the_row-Sexpr-0}
use denote.Hole.Carrier.{hidden}
use Rattle.sexpr_text.specs.Trees.{list_in}

abbrev longer : Sexpr → Option (List Sexpr) → Option (List Sexpr)
longer t None = None
longer t (Some ts) = Some (t ∷ ts)

pub list_in_list : (items : List Sexpr) → list_in (tree.List items) ≡ Some items
unfolding hidden-the_row-Sexpr-0 hidden
list_in_list [] = refl
list_in_list (t ∷ ts) = ap (longer t) (list_in_list ts)
