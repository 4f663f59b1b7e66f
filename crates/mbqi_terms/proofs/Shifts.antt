-- A node with another number.
use Rattle.std.proofs.Common.{◌≡◌, ℤ, ◌+ℤ◌, map, sym, ap, subst, ◌∙◌}
use Rattle.std.specs.Option.{IfSome}
use Rattle.mbqi_terms.specs.declared.sort.Sort.TheVariants.{Int}
use Rattle.mbqi_terms.specs.declared.store.node.Node.{Node}
use Rattle.mbqi_terms.specs.declared.term.Term.{Term}
use Rattle.mbqi_terms.specs.declared.term_id.TermId.{TermId}
use Rattle.mbqi_terms.specs.Form.{Suits}
use Rattle.mbqi_terms.specs.Store.{Store, IsNode, HasTree, tree_of_node, tree_at, trees_of}
use Rattle.mbqi_terms.specs.Tree.{plus_of}
use Rattle.mbqi_terms.proofs.Heads.{plus-applied}
use Rattle.mbqi_terms.proofs.Sorted.{sort-applied}

abbrev pub shifted : Node → ℤ → Node
shifted n by = record { head = n.head; args = n.args; plus = n.plus +ℤ by }

-- an integer node is in form with any number
pub shifted_node : (s : Store) (id : TermId) (n : Node) (by : ℤ) → IsNode s n → HasTree s id (tree_of_node s n)
    → ((t : Term) → HasTree s id t → Suits s.lists Int t) → IsNode s (shifted n by)
shifted_node s id n by node tree integer =
    let us = map (tree_at (trees_of s.lists s.nodes)) n.args in
    record {
      stored = node.stored;
      shape = node.shape;
      form = node.form;
      sum = λ other. subst (λ o. IfSome o (λ sort. sort ≡ Int)) (sort-applied s.lists n.head us n.plus) (integer (tree_of_node s n) tree);
    }

-- and has the term plus the number
pub shifted_tree : (s : Store) (id : TermId) (n : Node) (by : ℤ) (t : Term) → HasTree s id (tree_of_node s n) → HasTree s id t
    → tree_of_node s (shifted n by) ≡ plus_of t by
shifted_tree s id n by t tree e =
    let us = map (tree_at (trees_of s.lists s.nodes)) n.args in
    let same : tree_of_node s n ≡ t = cc in
    sym (plus-applied s.lists n.head us n.plus by) ∙ ap (λ x. plus_of x by) same
