use Rattle.std.proofs.Common.{◌≡◌, ℤ, ◌+ℤ◌, Result, Ok, Err, IfOk, refl, sym, ap, subst, ◌∙◌, arith}
use Rattle.std.proofs.lemmas.Int.{ints}
use Rattle.std.specs.declared.alloc.AllocError.{AllocError}
use mir.Val.{to_z, of_z}
use mir.Syntax.{w128}
use Rattle.mbqi_terms.specs.declared.store.node.Node.{Node}
use Rattle.mbqi_terms.specs.declared.term.Term.{Term}
use Rattle.mbqi_terms.specs.declared.term_id.TermId.{TermId}
use Rattle.mbqi_terms.specs.Store.{IsNode, HasTree, tree_of_node}
use Rattle.mbqi_terms.specs.Tree.{plus_of}
use Rattle.mbqi_terms.proofs.Shifts.{shifted, shifted_node, shifted_tree}
use Rattle.mbqi_terms.proofs.store.term_store.TermStore.shift.Goals as goal

-- the node that is interned
is_shifted : (n m : Node) (by : ℤ) → m.head ≡ n.head → m.args ≡ n.args → m.plus ≡ n.plus +ℤ by → shifted n by ≡ m
is_shifted n m by heads args sums = λ i. record { head = sym heads i; args = sym args i; plus = sym sums i }

pub intern-requires : goal.intern-requires
intern-requires c =
    let n = c.node-node.result.now in
    let put : Node = record { head = n.head; args = c.in_ok-args.args; plus = to_z w128 (of_z w128 c.plus-plus.result) } in
    let sums : put.plus ≡ n.plus +ℤ c.args.by = omega (arith, ints, c.plus-plus.ensures) in
    let node = shifted_node c.args.self.now c.args.id n c.args.by c.node-node.ensures.form c.node-node.ensures.tree c.requires.integer in
    subst (IsNode c.args.self.now) (is_shifted n put c.args.by refl (c.in_ok-args.ensures ∙ c.as_slice.ensures) sums) node

pub returns-clause-tree : goal.returns-clause-tree
returns-clause-tree c = by c.intern.result c.intern.ensures.tree
  where
    put : Node
    put = record { head = c.node-node.result.now.head; args = c.in_ok-args.args; plus = to_z w128 (of_z w128 c.plus-plus.result) }

    sums : put.plus ≡ c.node-node.result.now.plus +ℤ c.args.by
    sums = omega (arith, ints, c.plus-plus.ensures)

    by : (r : Result TermId AllocError) → IfOk r (λ id. HasTree c.intern.new.self id (tree_of_node c.args.self.now put))
        → IfOk r (λ sum. (t : Term) → HasTree c.args.self.now c.args.id t → HasTree c.intern.new.self sum (plus_of t c.args.by))
    by (Ok id) h = λ t e.
        let n = c.node-node.result.now in
        let moved = shifted_tree c.args.self.now c.args.id n c.args.by t c.node-node.ensures.tree e in
        let same = is_shifted n put c.args.by refl (c.in_ok-args.ensures ∙ c.as_slice.ensures) sums in
        subst (HasTree c.intern.new.self id) (ap (tree_of_node c.args.self.now) (sym same) ∙ moved) h
    by (Err e) h = tt
