-- What a store of terms is: lists that heads number, and nodes by number (this project's own; hash-consed terms).
use Rattle.std.specs.Prelude.{◌≡◌, ◌≢◌, ℕ, ◌<◌, ◌≤◌, ◌⊎◌, ℤ, pos, ◌+ℤ◌, List, [], ◌∷◌, ◌++◌, length, map, fold, take, Some, slice_get, slice_index_or, All, IfSome}
use Rattle.std.specs.List.{AllZip}
use Rattle.mbqi_terms.specs.declared.arrays.ArrayPair.{ArrayPair}
use Rattle.mbqi_terms.specs.declared.sort.Sort.TheVariants.{Int}
use Rattle.mbqi_terms.specs.declared.store.lists.Lists.{Lists}
use Rattle.mbqi_terms.specs.declared.store.node.Head.{Head}
use Rattle.mbqi_terms.specs.declared.store.node.Head.TheVariants.{Zero, Var, Truth, Declared, Skolem, Seed, Far, Diff, Read, Default}
use Rattle.mbqi_terms.specs.declared.store.node.Node.{Node}
use Rattle.mbqi_terms.specs.declared.term.ArrayTerm.{ArrayTerm}
use Rattle.mbqi_terms.specs.declared.term.ArrayTerm.TheVariants as array
use Rattle.mbqi_terms.specs.declared.term.ArrayTerm.TheOpen.{Term-F}
use Rattle.mbqi_terms.specs.declared.term.Symbol.TheVariants as symbol
use Rattle.mbqi_terms.specs.declared.term.Term.{Term, roll-Term}
use Rattle.mbqi_terms.specs.declared.term.Term.TheVariants as term
use Rattle.mbqi_terms.specs.declared.term_id.TermId.{TermId}
use Rattle.mbqi_terms.specs.Distinct.{AreDistinct}
use Rattle.mbqi_terms.specs.Form.{IsLayerInForm}
use Rattle.mbqi_terms.specs.Lists.{layer_sort}
use Rattle.mbqi_terms.specs.Tree.{Layer, IsPart, sum_of}

-- A store as contracts see it.
pub record Store : Type 0 where
  pub lists : Lists
  pub nodes : List Node

-- The array term and the pair of arrays of a number.
abbrev pub array_at : Lists → ℕ → ArrayTerm
array_at l k = slice_index_or l.arrays.terms k (array.Name 0)

abbrev pub pair_at : Lists → ℕ → ArrayPair
pair_at l k = slice_index_or l.arrays.atoms k (record { left = array.Name 0; right = array.Name 0 })

abbrev pub first_of : List Term → Term
first_of ts = slice_index_or ts 0 (term.Num (pos 0))

-- A head applied to terms.
abbrev pub head_layer : Lists → Head → List Term → Layer
head_layer l Zero ts = Term-F.Num (pos 0)
head_layer l (Var k) ts = Term-F.Var k
head_layer l (Truth b) ts = Term-F.Truth b
head_layer l (Declared f) ts = Term-F.Apply (symbol.Declared f) ts
head_layer l (Skolem a p) ts = Term-F.Apply (symbol.Skolem a p) ts
head_layer l (Seed s) ts = Term-F.Apply (symbol.Seed s) ts
head_layer l Far ts = Term-F.Apply symbol.Far ts
head_layer l (Diff k) ts = Term-F.Apply (symbol.Diff (pair_at l k).left (pair_at l k).right) ts
head_layer l (Read k) ts = Term-F.Read (array_at l k) (first_of ts)
head_layer l (Default k) ts = Term-F.Default (array_at l k)

-- The term of a head, of the terms that it is applied to, and of the number that is added.
abbrev pub applied : Lists → Head → List Term → ℤ → Term
applied l Zero ts plus = term.Num plus
applied l head ts plus = sum_of (roll-Term (head_layer l head ts)) plus

-- The tree at a number, among the trees of the nodes before.
abbrev pub tree_at : List Term → TermId → Term
tree_at ts id = slice_index_or ts id.0 (term.Num (pos 0))

abbrev pub node_tree : Lists → List Term → Node → Term
node_tree l ts node = applied l node.head (map (tree_at ts) node.args) node.plus

-- The trees of a list of nodes, in order: each over those before it.
abbrev pub trees_of : Lists → List Node → List Term
trees_of l nodes = fold (λ ts node. ts ++ node_tree l ts node ∷ []) [] nodes

-- The term is the tree of the number in the store.
abbrev pub HasTree : Store → TermId → Term → Type 0
HasTree s id t = slice_get (trees_of s.lists s.nodes) id.0 ≡ Some t

-- The tree that a node has in a store.
abbrev pub tree_of_node : Store → Node → Term
tree_of_node s node = node_tree s.lists (trees_of s.lists s.nodes) node

-- A head takes these arguments as far as its own kind goes, and it numbers an entry of its list.
abbrev pub HasShape : {X : Type 0} → Lists → Head → List X → Type 0
HasShape l Zero args = args ≡ []
HasShape l (Var k) args = args ≡ []
HasShape l (Truth b) args = args ≡ []
HasShape l (Declared f) args = Unit {0}
HasShape l (Skolem a p) args = Unit {0}
HasShape l (Seed s) args = Unit {0}
HasShape l Far args = Unit {0}
HasShape l (Diff k) args = k < length l.arrays.atoms
HasShape l (Read k) args = (k < length l.arrays.terms) × (length args ≡ 1)
HasShape l (Default k) args = (k < length l.arrays.terms) × (args ≡ [])

-- The terms that stand in a term as its arguments.
abbrev pub args_of : Layer → List Term
args_of (Term-F.Apply f ts) = ts
args_of (Term-F.Read a i) = i ∷ []
args_of layer = []

-- The head makes the term of its arguments.
abbrev pub IsHeadOf : Lists → Layer → Head → Type 0
IsHeadOf l layer head = HasShape l head (args_of layer) × (head_layer l head (args_of layer) ≡ layer)

-- No head makes the term.
abbrev pub HasNoHead : Lists → Layer → Type 0
HasNoHead l layer = (head : Head) (ts : List Term) → HasShape l head ts → head_layer l head ts ≢ layer

-- The term of a node before its number is added, as one level.
abbrev pub base_of_node : Store → Node → Layer
base_of_node s node = head_layer s.lists node.head (map (tree_at (trees_of s.lists s.nodes)) node.args)

-- What a node has to meet to be put into a store: its arguments are there, its head has arguments of the right kind, in number and sorts
-- too, and a number is added to integer terms alone.
pub record IsNode (s : Store) (node : Node) : Type 0 where
  pub stored : All (λ id. id.0 < length s.nodes) node.args
  pub shape : HasShape s.lists node.head node.args
  pub form : IsLayerInForm s.lists (base_of_node s node)
  pub sum : node.plus ≢ pos 0 → IfSome (layer_sort s.lists (base_of_node s node)) (λ sort. sort ≡ Int)

-- The first nodes of a store.
abbrev pub first : ℕ → Store → Store
first k s = record { lists = s.lists; nodes = take k s.nodes }

abbrev pub with_node : Store → Node → Store
with_node s node = record { lists = s.lists; nodes = s.nodes ++ node ∷ [] }

-- What each store keeps: its array terms and pairs differ, each node is in form over the nodes before it, and no two nodes have one tree.
pub record IsSound (s : Store) : Type 0 where
  pub arrays : AreDistinct s.lists.arrays.terms
  pub pairs : AreDistinct s.lists.arrays.atoms
  pub nodes : (k : ℕ) (node : Node) → slice_get s.nodes k ≡ Some node → IsNode (first k s) node
  pub trees : AreDistinct (trees_of s.lists s.nodes)

-- The number is the node's: it was there with its tree, or it comes last.
abbrev pub Interns : Store → Node → TermId → Store → Type 0
Interns old node id new =
    (HasTree old id (tree_of_node old node) × (new ≡ old))
    ⊎ (((k : TermId) → ¬ HasTree old k (tree_of_node old node)) × (id.0 ≡ length old.nodes) × (new ≡ with_node old node))

-- The number of a node with a number added to it.
abbrev pub InternsSum : Store → TermId → ℤ → TermId → Store → Type 0
InternsSum old id by sum new =
    (node : Node) → slice_get old.nodes id.0 ≡ Some node → Interns old (record node { plus = node.plus +ℤ by }) sum new

-- The new store has the old one's lists, and the old one's nodes first.
abbrev pub Extends : Store → Store → Type 0
Extends old new = (new.lists ≡ old.lists) × (take (length old.nodes) new.nodes ≡ old.nodes)

-- The head is a variable's.
abbrev pub IsVariable : Head → Type 0
IsVariable (Var k) = Unit {0}
IsVariable head = ⊥

-- No number of the store has the tree; not each of the terms has one.
abbrev pub IsAbsent : Store → Term → Type 0
IsAbsent s t = (id : TermId) → ¬ HasTree s id t

abbrev pub AreAbsent : Store → List Term → Type 0
AreAbsent s ts = (ids : List TermId) → ¬ AllZip (HasTree s) ids ts

-- A number may be added to the term.
abbrev pub MayAdd : Lists → Layer → ℤ → Type 0
MayAdd l layer plus = plus ≢ pos 0 → IfSome (layer_sort l layer) (λ sort. sort ≡ Int)

-- Where the store has the term already, it stays.
abbrev pub KeepsKnown : Store → Term → Store → Type 0
KeepsKnown old t new = (id : TermId) → HasTree old id t → new ≡ old

-- Each term that is new is a part of the term.
abbrev pub AddsParts : Store → Term → Store → Type 0
AddsParts old t new = (id : TermId) (part : Term) → length old.nodes ≤ id.0 → HasTree new id part → IsPart part t

-- A store on the way of putting terms: it has the old one's terms first, it stays where these terms are all known, and each new term is a
-- part of one of them.
pub record Grows (old : Store) (ts : List Term) (new : Store) : Type 0 where
  pub extends : Extends old new
  pub known : (ids : List TermId) → AllZip (HasTree old) ids ts → new ≡ old
  pub parts : (id : TermId) (part : Term) → length old.nodes ≤ id.0 → HasTree new id part
      → (k : ℕ) × (whole : Term) × (slice_get ts k ≡ Some whole) × IsPart part whole
