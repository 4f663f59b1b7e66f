-- The derived test of nodes is whether they are one value.
use Rattle.std.proofs.Common.{◌≡◌, true, ◌&&◌, List, [], ◌∷◌, ℤ, rules, refl}
use Rattle.std.specs.Cmp.{IsEquivalence, first_so, second_so}
use Rattle.std.specs.Cmp.Lexicographic.{pointwise}
use Rattle.std.specs.Ordering.{int_eq}
use Rattle.mbqi_terms.specs.declared.term_id.TermId.{TermId}
use Rattle.mbqi_terms.specs.contracts.term_id.TermIdPartialEq.TheImpl as id
use Rattle.mbqi_terms.specs.declared.store.node.Head.{Head}
use Rattle.mbqi_terms.specs.contracts.store.node.HeadPartialEq.TheImpl as head
use Rattle.mbqi_terms.specs.declared.store.node.Node.{Node}
use Rattle.mbqi_terms.specs.contracts.store.node.NodePartialEq.TheImpl as node
use Rattle.mbqi_terms.specs.contracts.store.node.NodeEq.TheImpl.Laws as laws

same_id : (m n : TermId) → id.ghosts.eq m n ≡ true → m ≡ n
same_id m n e = search rules

same_head : (m n : Head) → head.ghosts.eq m n ≡ true → m ≡ n
same_head m n e = search rules

same_plus : (m n : ℤ) → int_eq m n ≡ true → m ≡ n
same_plus m n e = search rules

same_ids : (ms ns : List TermId) → pointwise id.ghosts.eq ms ns ≡ true → ms ≡ ns
same_ids [] [] e = refl
same_ids [] (n ∷ ns) e = cc
same_ids (m ∷ ms) [] e = cc
same_ids (m ∷ ms) (n ∷ ns) e =
    let test = id.ghosts.eq m n in
    let rest = pointwise id.ghosts.eq ms ns in
    let f : (test && rest) ≡ true = e in
    let p = same_id m n (first_so test rest f) in
    let q = same_ids ms ns (second_so test rest f) in
    λ i. p i ∷ q i

pub same_nodes : (m n : Node) → node.ghosts.eq m n ≡ true → m ≡ n
same_nodes m n e =
    let heads = head.ghosts.eq m.head n.head in
    let args = pointwise id.ghosts.eq m.args n.args in
    let sums = int_eq m.plus n.plus in
    let f : (heads && (args && sums)) ≡ true = e in
    let rest = second_so heads (args && sums) f in
    let p = same_head m.head n.head (first_so heads (args && sums) f) in
    let q = same_ids m.args n.args (first_so args sums rest) in
    let r = same_plus m.plus n.plus (second_so args sums rest) in
    λ i. record { head = p i; args = q i; plus = r i }

pub own_node : (n : Node) → node.ghosts.eq n n ≡ true
own_node n = let equal : IsEquivalence node.ghosts.eq = laws.laws-law in equal.refl n
