-- The trees of a list of nodes, by places.
use Rattle.std.proofs.Common.{◌≡◌, ℕ, zero, suc, ◌+◌, ◌<◌, pos, List, [], ◌∷◌, ◌++◌, length, map, take, drop, Some, slice_get, refl, sym, ap, ◌∙◌, arith, length-append, zero-add, add-one}
use Rattle.std.specs.List.{fold, All}
use Rattle.std.proofs.lemmas.List.{take-append-drop}
use Rattle.std.proofs.lemmas.List.Sums.{fold-append}
use Rattle.std.proofs.lemmas.Option.{unwrap_or-slice_get}
use Rattle.std.specs.Option.{unwrap_or}
use Rattle.mbqi_terms.specs.declared.store.node.Node.{Node}
use Rattle.mbqi_terms.specs.declared.term.Term.{Term}
use Rattle.mbqi_terms.specs.declared.term.Term.TheVariants as term
use Rattle.mbqi_terms.specs.declared.term_id.TermId.{TermId}
use Rattle.mbqi_terms.specs.declared.store.lists.Lists.{Lists}
use Rattle.mbqi_terms.specs.Store.{tree_at, node_tree, trees_of, applied}

-- a place of the front
pub get_front : {X : Type 0} (xs ys : List X) (k : ℕ) → k < length xs → slice_get (xs ++ ys) k ≡ slice_get xs k
get_front [] ys k h = absurd (omega arith)
get_front (x ∷ xs) ys zero h = refl
get_front (x ∷ xs) ys (suc k) h = get_front xs ys k (omega arith)

-- the element at the seam
pub get_seam : {X : Type 0} (xs : List X) (y : X) (ys : List X) → slice_get (xs ++ y ∷ ys) (length xs) ≡ Some y
get_seam [] y ys = refl
get_seam (x ∷ xs) y ys = get_seam xs y ys

pub get_take : {X : Type 0} (xs : List X) (n k : ℕ) (x : X) → slice_get (take n xs) k ≡ Some x → slice_get xs k ≡ Some x
get_take [] zero k x e = cc
get_take [] (suc n) k x e = cc
get_take (y ∷ ys) zero k x e = cc
get_take (y ∷ ys) (suc n) zero x e = e
get_take (y ∷ ys) (suc n) (suc k) x e = get_take ys n k x e

pub take_get : {X : Type 0} (xs : List X) (n k : ℕ) → k < n → slice_get (take n xs) k ≡ slice_get xs k
take_get [] zero k h = refl
take_get [] (suc n) k h = refl
take_get (y ∷ ys) zero k h = absurd (omega arith)
take_get (y ∷ ys) (suc n) zero h = refl
take_get (y ∷ ys) (suc n) (suc k) h = take_get ys n k (omega arith)

pub take-push : {X : Type 0} (xs : List X) (i : ℕ) (x : X) → slice_get xs i ≡ Some x → take (i + 1) xs ≡ take i xs ++ x ∷ []
take-push {X} xs i x e = ap (λ k. take k xs) (add-one i) ∙ by xs i e
  where
    by : (xs : List X) (i : ℕ) → slice_get xs i ≡ Some x → take (suc i) xs ≡ take i xs ++ x ∷ []
    by [] i e = cc
    by (y ∷ ys) zero e = let same : y ≡ x = cc in ap (λ z. z ∷ []) same
    by (y ∷ ys) (suc i) e = ap (λ l. y ∷ l) (by ys i e)

-- one more argument
pub map-take : {X : Type 0} (f : TermId → X) (xs : List TermId) (i : ℕ) (x : TermId) → slice_get xs i ≡ Some x
    → map f (take (suc i) xs) ≡ map f (take i xs) ++ f x ∷ []
map-take f [] i x e = cc
map-take f (y ∷ ys) zero x e = let same : y ≡ x = cc in ap (λ z. f z ∷ []) same
map-take f (y ∷ ys) (suc i) x e = ap (λ l. f y ∷ l) (map-take f ys i x e)

module _ (l : Lists) where
  abbrev step : List Term → Node → List Term
  step ts node = ts ++ node_tree l ts node ∷ []

  from_length : (ns : List Node) (ts : List Term) → length (fold step ts ns) ≡ length ts + length ns
  from_length [] ts = omega arith
  from_length (n ∷ ns) ts = omega (arith, from_length ns (step ts n), length-append ts (node_tree l ts n ∷ []))

  -- what is there stays in its place
  from_get : (ns : List Node) (ts : List Term) (k : ℕ) → k < length ts → slice_get (fold step ts ns) k ≡ slice_get ts k
  from_get [] ts k h = refl
  from_get (n ∷ ns) ts k h =
      from_get ns (step ts n) k (omega (arith, length-append ts (node_tree l ts n ∷ []))) ∙ get_front ts (node_tree l ts n ∷ []) k h

  from_at : (ns : List Node) (ts : List Term) (k : ℕ) (n : Node) → slice_get ns k ≡ Some n
      → (j : ℕ) → j ≡ length ts + k → slice_get (fold step ts ns) j ≡ Some (node_tree l (fold step ts (take k ns)) n)
  from_at [] ts k n e j at = cc
  from_at (m ∷ ms) ts zero n e j at =
      let here : m ≡ n = cc in
      let last : j ≡ length ts = omega arith in
      let seam = get_seam ts (node_tree l ts m) [] in
      from_get ms (step ts m) j (omega (arith, length-append ts (node_tree l ts m ∷ [])))
      ∙ (ap (slice_get (step ts m)) last ∙ (seam ∙ ap (λ x. Some (node_tree l ts x)) here))
  from_at (m ∷ ms) ts (suc k) n e j at =
      from_at ms (step ts m) k n e j (omega (arith, length-append ts (node_tree l ts m ∷ [])))

  pub length-trees : (ns : List Node) → length (trees_of l ns) ≡ length ns
  length-trees ns = from_length ns [] ∙ zero-add (length ns)

  -- a new node's tree comes last
  pub trees-push : (ns : List Node) (n : Node) → trees_of l (ns ++ n ∷ []) ≡ trees_of l ns ++ node_tree l (trees_of l ns) n ∷ []
  trees-push ns n = fold-append step [] ns (n ∷ [])

  -- the first nodes have the first trees
  pub trees-take : (ns : List Node) (j k : ℕ) → k < length (take j ns) → slice_get (trees_of l (take j ns)) k ≡ slice_get (trees_of l ns) k
  trees-take ns j k h =
      let whole = ap (trees_of l) (take-append-drop j ns) in
      let split = fold-append step [] (take j ns) (drop j ns) in
      sym (from_get (drop j ns) (trees_of l (take j ns)) k (omega (arith, length-trees (take j ns)))) ∙ ap (λ ts. slice_get ts k) (sym split ∙ whole)

  pub same_args : (ts us : List Term) (b : ℕ) → ((k : ℕ) → k < b → slice_get ts k ≡ slice_get us k) → (ids : List TermId)
      → All (λ id. id.0 < b) ids → map (tree_at ts) ids ≡ map (tree_at us) ids
  same_args ts us b agree [] all = refl
  same_args ts us b agree (id ∷ ids) all =
      let d = term.Num (pos 0) in
      let here = sym (unwrap_or-slice_get ts id.0 d) ∙ (ap (λ o. unwrap_or o d) (agree id.0 (all 0 id (omega arith))) ∙ unwrap_or-slice_get us id.0 d) in
      let rest = same_args ts us b agree ids (λ k e h. all (suc k) e (omega arith)) in
      λ i. here i ∷ rest i

  -- a node has one tree over lists of trees that agree as far as its arguments go
  pub same_tree : (ts us : List Term) (b : ℕ) → ((k : ℕ) → k < b → slice_get ts k ≡ slice_get us k) → (n : Node)
      → All (λ id. id.0 < b) n.args → node_tree l ts n ≡ node_tree l us n
  same_tree ts us b agree n all = ap (λ xs. applied l n.head xs n.plus) (same_args ts us b agree n.args all)

  -- the tree of a stored node whose arguments come before it
  pub stored_tree : (ns : List Node) (k : ℕ) (n : Node) → slice_get ns k ≡ Some n → All (λ id. id.0 < length (take k ns)) n.args
      → slice_get (trees_of l ns) k ≡ Some (node_tree l (trees_of l ns) n)
  stored_tree ns k n e all =
      from_at ns [] k n e k (sym (zero-add k))
      ∙ ap Some (same_tree (trees_of l (take k ns)) (trees_of l ns) (length (take k ns)) (trees-take ns k) n all)
