-- A head and the terms that it is applied to, from the term that they make.
use Rattle.std.proofs.Common.{◌≡◌, ℕ, suc, ◌<◌, ℤ, pos, ◌+ℤ◌, List, [], ◌∷◌, length, map, Some, refl, sym, ap, subst, ◌∙◌, arith}
use Rattle.std.specs.List.{All}
use Rattle.std.proofs.lemmas.Option.{slice_get-get_or}
use Rattle.mbqi_terms.specs.declared.arrays.ArrayPair.{ArrayPair}
use Rattle.mbqi_terms.specs.declared.store.node.Head.{Head}
use Rattle.mbqi_terms.specs.declared.store.node.Head.TheVariants.{Zero, Var, Truth, Declared, Skolem, Seed, Far, Diff, Read, Default}
use Rattle.mbqi_terms.specs.declared.store.node.Node.{Node}
use Rattle.mbqi_terms.specs.declared.term.ArrayTerm.TheVariants as array
use Rattle.mbqi_terms.specs.declared.term.ArrayTerm.TheOpen.{Symbol-F}
use Rattle.mbqi_terms.specs.declared.term.Symbol.{out-Symbol}
use Rattle.mbqi_terms.specs.declared.term.Symbol.TheVariants as symbol
use Rattle.mbqi_terms.specs.declared.term.Term.{Term, out-Term}
use Rattle.mbqi_terms.specs.declared.term.Term.TheVariants as term
use Rattle.mbqi_terms.specs.declared.term_id.TermId.{TermId}
use Rattle.mbqi_terms.specs.Distinct.{AreDistinct}
use Rattle.mbqi_terms.specs.declared.store.lists.Lists.{Lists}
use Rattle.mbqi_terms.specs.Store.{array_at, pair_at, first_of, head_layer, applied, tree_at, node_tree, HasShape}
use Rattle.mbqi_terms.specs.Tree.{number_of, plus_of, plus_at}
use Rattle.mbqi_terms.proofs.Levels.{out-diff, out-num}
use Rattle.mbqi_terms.proofs.Sums.{unsum, unsum-sum_of, unsum-num, number-unsum, plus-sum_of}

module _ (l : Lists) where
  -- a node taken apart
  pub unsum-applied : (h : Head) (ts : List Term) (n : ℤ) → unsum (applied l h ts n) ≡ (head_layer l h ts, n)
  unsum-applied Zero ts n = unsum-num n
  unsum-applied (Var k) ts n = unsum-sum_of (head_layer l (Var k) ts) tt n
  unsum-applied (Truth b) ts n = unsum-sum_of (head_layer l (Truth b) ts) tt n
  unsum-applied (Declared f) ts n = unsum-sum_of (head_layer l (Declared f) ts) tt n
  unsum-applied (Skolem a p) ts n = unsum-sum_of (head_layer l (Skolem a p) ts) tt n
  unsum-applied (Seed s) ts n = unsum-sum_of (head_layer l (Seed s) ts) tt n
  unsum-applied Far ts n = unsum-sum_of (head_layer l Far ts) tt n
  unsum-applied (Diff k) ts n = unsum-sum_of (head_layer l (Diff k) ts) tt n
  unsum-applied (Read k) ts n = unsum-sum_of (head_layer l (Read k) ts) tt n
  unsum-applied (Default k) ts n = unsum-sum_of (head_layer l (Default k) ts) tt n

  -- the number that a node adds
  pub number-applied : (h : Head) (ts : List Term) (n : ℤ) → number_of (applied l h ts n) ≡ n
  number-applied h ts n = number-unsum (out-Term (applied l h ts n)) ∙ ap (λ p. p.1) (unsum-applied h ts n)

  -- a number added to a node's term is added to the node's number
  pub plus-applied : (h : Head) (ts : List Term) (m n : ℤ) → plus_of (applied l h ts m) n ≡ applied l h ts (m +ℤ n)
  plus-applied Zero ts m n = ap (λ x. plus_at x (term.Num m) n) (out-num m)
  plus-applied (Var k) ts m n = plus-sum_of (head_layer l (Var k) ts) tt m n
  plus-applied (Truth b) ts m n = plus-sum_of (head_layer l (Truth b) ts) tt m n
  plus-applied (Declared f) ts m n = plus-sum_of (head_layer l (Declared f) ts) tt m n
  plus-applied (Skolem a p) ts m n = plus-sum_of (head_layer l (Skolem a p) ts) tt m n
  plus-applied (Seed s) ts m n = plus-sum_of (head_layer l (Seed s) ts) tt m n
  plus-applied Far ts m n = plus-sum_of (head_layer l Far ts) tt m n
  plus-applied (Diff k) ts m n = plus-sum_of (head_layer l (Diff k) ts) tt m n
  plus-applied (Read k) ts m n = plus-sum_of (head_layer l (Read k) ts) tt m n
  plus-applied (Default k) ts m n = plus-sum_of (head_layer l (Default k) ts) tt m n

  -- numbers of equal array terms, and of equal pairs
  same_array : AreDistinct l.arrays.terms → (k m : ℕ) → k < length l.arrays.terms → m < length l.arrays.terms → array_at l k ≡ array_at l m → k ≡ m
  same_array arrays k m inside within e =
      let d = array.Name 0 in
      arrays k m (array_at l m) (slice_get-get_or l.arrays.terms k d inside ∙ ap Some e) (slice_get-get_or l.arrays.terms m d within)

  same_pair : AreDistinct l.arrays.atoms → (k m : ℕ) → k < length l.arrays.atoms → m < length l.arrays.atoms → pair_at l k ≡ pair_at l m → k ≡ m
  same_pair pairs k m inside within e =
      let d : ArrayPair = record { left = array.Name 0; right = array.Name 0 } in
      pairs k m (pair_at l m) (slice_get-get_or l.arrays.atoms k d inside ∙ ap Some e) (slice_get-get_or l.arrays.atoms m d within)

  pub same_diff : (p q : ArrayPair) → symbol.Diff p.left p.right ≡ symbol.Diff q.left q.right → p ≡ q
  same_diff p q e =
      let layers : Symbol-F.Diff p.left p.right ≡ Symbol-F.Diff q.left q.right = sym (out-diff p.left p.right) ∙ (ap out-Symbol e ∙ out-diff q.left q.right) in
      let lefts : p.left ≡ q.left = cc in
      let rights : p.right ≡ q.right = cc in
      λ i. record { left = lefts i; right = rights i }

  -- equal terms have equal heads
  pub same_head : AreDistinct l.arrays.terms → AreDistinct l.arrays.atoms → (g h : Head) (gs hs : List TermId) (ts us : List Term)
      → HasShape l g gs → HasShape l h hs → head_layer l g ts ≡ head_layer l h us → g ≡ h
  same_head arrays pairs Zero Zero gs hs ts us s t e = refl
  same_head arrays pairs (Var k) (Var m) gs hs ts us s t e = cc
  same_head arrays pairs (Truth k) (Truth m) gs hs ts us s t e = cc
  same_head arrays pairs (Declared k) (Declared m) gs hs ts us s t e = cc
  same_head arrays pairs (Skolem k p) (Skolem m q) gs hs ts us s t e = cc
  same_head arrays pairs (Seed k) (Seed m) gs hs ts us s t e = cc
  same_head arrays pairs Far Far gs hs ts us s t e = refl
  same_head arrays pairs (Diff k) (Diff m) gs hs ts us s t e =
      let symbols : symbol.Diff (pair_at l k).left (pair_at l k).right ≡ symbol.Diff (pair_at l m).left (pair_at l m).right = cc in
      ap Diff (same_pair pairs k m s t (same_diff (pair_at l k) (pair_at l m) symbols))
  same_head arrays pairs (Read k) (Read m) gs hs ts us s t e =
      let names : array_at l k ≡ array_at l m = cc in
      ap Read (same_array arrays k m s.0 t.0 names)
  same_head arrays pairs (Default k) (Default m) gs hs ts us s t e =
      let names : array_at l k ≡ array_at l m = cc in
      ap Default (same_array arrays k m s.0 t.0 names)
  same_head arrays pairs g h gs hs ts us s t e = cc

  one_only : (f : TermId → Term) (gs hs : List TermId) → length gs ≡ 1 → length hs ≡ 1 → first_of (map f gs) ≡ first_of (map f hs) → map f gs ≡ map f hs
  one_only f [] hs s t e = absurd (omega arith)
  one_only f (g ∷ []) [] s t e = absurd (omega arith)
  one_only f (g ∷ []) (h ∷ []) s t e = λ i. e i ∷ []
  one_only f (g ∷ []) (h ∷ k ∷ hs) s t e = absurd (omega arith)
  one_only f (g ∷ k ∷ gs) hs s t e = absurd (omega arith)

  -- and equal arguments
  same_args : (f : TermId → Term) (h : Head) (gs hs : List TermId) → HasShape l h gs → HasShape l h hs
      → head_layer l h (map f gs) ≡ head_layer l h (map f hs) → (map f gs ≡ map f hs → gs ≡ hs) → gs ≡ hs
  same_args f Zero gs hs s t e same = s ∙ sym t
  same_args f (Var k) gs hs s t e same = s ∙ sym t
  same_args f (Truth b) gs hs s t e same = s ∙ sym t
  same_args f (Declared k) gs hs s t e same = same (cc)
  same_args f (Skolem k p) gs hs s t e same = same (cc)
  same_args f (Seed k) gs hs s t e same = same (cc)
  same_args f Far gs hs s t e same = same (cc)
  same_args f (Diff k) gs hs s t e same = same (cc)
  same_args f (Read k) gs hs s t e same = same (one_only f gs hs s.1 t.1 (cc))
  same_args f (Default k) gs hs s t e same = s.1 ∙ sym t.1

-- places of equal trees among distinct ones
pub same_places : (ts : List Term) → AreDistinct ts → (gs hs : List TermId) → All (λ id. id.0 < length ts) gs → All (λ id. id.0 < length ts) hs
    → map (tree_at ts) gs ≡ map (tree_at ts) hs → gs ≡ hs
same_places ts distinct [] [] inside within e = refl
same_places ts distinct [] (h ∷ hs) inside within e = cc
same_places ts distinct (g ∷ gs) [] inside within e = cc
same_places ts distinct (g ∷ gs) (h ∷ hs) inside within e =
    let d = term.Num (pos 0) in
    let first : tree_at ts g ≡ tree_at ts h = cc in
    let others : map (tree_at ts) gs ≡ map (tree_at ts) hs = cc in
    let number = distinct g.0 h.0 (tree_at ts h) (slice_get-get_or ts g.0 d (inside 0 g (omega arith)) ∙ ap Some first) (slice_get-get_or ts h.0 d (within 0 h (omega arith))) in
    let rest = same_places ts distinct gs hs (λ k e. λ b. inside (suc k) e (omega arith)) (λ k e. λ b. within (suc k) e (omega arith)) others in
    let here : g ≡ h = λ i. record { 0 = number i } in
    λ i. here i ∷ rest i

-- two nodes with one tree over distinct trees are one node
pub same_node : (l : Lists) (ts : List Term) → AreDistinct l.arrays.terms → AreDistinct l.arrays.atoms → AreDistinct ts → (m n : Node)
    → All (λ id. id.0 < length ts) m.args → All (λ id. id.0 < length ts) n.args → HasShape l m.head m.args → HasShape l n.head n.args
    → node_tree l ts m ≡ node_tree l ts n → m ≡ n
same_node l ts arrays pairs distinct m n inside within s t e =
    let f = tree_at ts in
    let apart = sym (unsum-applied l m.head (map f m.args) m.plus) ∙ (ap unsum e ∙ unsum-applied l n.head (map f n.args) n.plus) in
    let layers : head_layer l m.head (map f m.args) ≡ head_layer l n.head (map f n.args) = ap (λ p. p.0) apart in
    let sums : m.plus ≡ n.plus = ap (λ p. p.1) apart in
    let heads = same_head l arrays pairs m.head n.head m.args n.args (map f m.args) (map f n.args) s t layers in
    let P : Head → Type 0 = λ h. HasShape l h m.args in
    let Q : Head → Type 0 = λ h. head_layer l h (map f m.args) ≡ head_layer l n.head (map f n.args) in
    let args = same_args l f n.head m.args n.args (subst P heads s) t (subst Q heads layers) (same_places ts distinct m.args n.args inside within) in
    λ i. record { head = heads i; args = args i; plus = sums i }
