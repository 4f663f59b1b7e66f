-- A store that takes a node, or keeps its first ones, is sound.
use Rattle.std.proofs.Common.{◌≡◌, ◌≢◌, ℕ, zero, suc, ◌<◌, ◌≤◌, ◌⊎◌, inl, inr, List, [], ◌∷◌, ◌++◌, length, take, pos, Some, slice_get, refl, sym, ap, subst, ◌∙◌, arith, length-take}
use Rattle.std.specs.List.{All}
use Rattle.std.proofs.Math.Seq.{take-append_seam}
use Rattle.std.proofs.lemmas.List.{take-append-le}
use Rattle.std.proofs.lemmas.Option.{slice_get_within}
use Rattle.mbqi_terms.specs.declared.store.node.Node.{Node}
use Rattle.mbqi_terms.specs.declared.term.Term.{Term}
use Rattle.mbqi_terms.specs.declared.term_id.TermId.{TermId}
use Rattle.mbqi_terms.specs.Distinct.{AreDistinct, Puts}
use Rattle.mbqi_terms.specs.declared.store.lists.Lists.{Lists}
use Rattle.std.specs.Option.{IfSome}
use Rattle.mbqi_terms.specs.declared.sort.Sort.TheVariants.{Int}
use Rattle.mbqi_terms.specs.Form.{IsLayerInForm}
use Rattle.mbqi_terms.specs.Lists.{layer_sort}
use Rattle.mbqi_terms.specs.Tree.{Layer}
use Rattle.mbqi_terms.specs.Store.{base_of_node, head_layer, Store, IsSound, IsNode, Interns, HasShape, tree_of_node, trees_of, first}
use Rattle.mbqi_terms.proofs.Trees.{same_args, get_seam, get_take, length-trees, trees-push, trees-take, stored_tree}
use Rattle.mbqi_terms.proofs.Heads.{same_node}

-- a place of the longer list is one of the list, or the last
pub place_in : {X : Type 0} (xs : List X) (y : X) (i : ℕ) (x : X) → slice_get (xs ++ y ∷ []) i ≡ Some x
    → ((i < length xs) × (slice_get xs i ≡ Some x)) ⊎ ((i ≡ length xs) × (y ≡ x))
place_in [] y zero x e = inr (refl, cc)
place_in [] y (suc i) x e = cc
place_in (z ∷ zs) y zero x e = inl (omega arith, e)
place_in (z ∷ zs) y (suc i) x e =
    elim (place_in zs y i x e) [ inl p ↦ inl (omega (arith, p.0), p.1) | inr p ↦ inr (ap suc p.0, p.1) ]

-- a list stays distinct with one more element that wasn't there
distinct-push : {X : Type 0} (xs : List X) (y : X) → AreDistinct xs → ((k : ℕ) → slice_get xs k ≢ Some y) → AreDistinct (xs ++ y ∷ [])
distinct-push {X} xs y distinct new i j x e f =
    elim (place_in xs y i x e) [
      | inl p ↦ elim (place_in xs y j x f) [
        | inl q ↦ distinct i j x p.1 q.1
        | inr q ↦ absurd (new i (p.1 ∙ ap Some (sym q.1)))
      ]
      | inr p ↦ elim (place_in xs y j x f) [
        | inl q ↦ absurd (new j (q.1 ∙ ap Some (sym p.1)))
        | inr q ↦ p.0 ∙ sym q.0
      ]
    ]

some_at : {X : Type 0} (xs : List X) (k : ℕ) → k < length xs → (x : X) × (slice_get xs k ≡ Some x)
some_at [] k h = absurd (omega arith)
some_at (x ∷ xs) zero h = (x, refl)
some_at (x ∷ xs) (suc k) h = some_at xs k (omega arith)

pub take_of_take : {X : Type 0} (xs : List X) (j k : ℕ) → k ≤ j → take k (take j xs) ≡ take k xs
take_of_take [] zero zero h = refl
take_of_take [] zero (suc k) h = refl
take_of_take [] (suc j) zero h = refl
take_of_take [] (suc j) (suc k) h = refl
take_of_take (x ∷ xs) zero zero h = refl
take_of_take (x ∷ xs) zero (suc k) h = absurd (omega arith)
take_of_take (x ∷ xs) (suc j) zero h = refl
take_of_take (x ∷ xs) (suc j) (suc k) h = ap (λ l. x ∷ l) (take_of_take xs j k (omega arith))

module _ (s : Store) (sound : IsSound s) where
  -- a stored node has its arguments in the store, and its tree at its place
  pub inside : (k : ℕ) (n : Node) → slice_get s.nodes k ≡ Some n → All (λ id. id.0 < length s.nodes) n.args
  inside k n e i d h =
      let before = (sound.nodes k n e).stored i d h in
      omega (arith, before, length-take k s.nodes)

  pub before : (k : ℕ) (n : Node) → slice_get s.nodes k ≡ Some n → All (λ id. id.0 < k) n.args
  before k n e i d h =
      let known = (sound.nodes k n e).stored i d h in
      omega (arith, known, length-take k s.nodes)

  -- and is in form in the whole store
  pub stored_node : (k : ℕ) (n : Node) → slice_get s.nodes k ≡ Some n → IsNode s n
  stored_node k n e =
      let node = sound.nodes k n e in
      let firsts = trees_of s.lists (take k s.nodes) in
      let trees = trees_of s.lists s.nodes in
      let args = same_args s.lists firsts trees (length (take k s.nodes)) (trees-take s.lists s.nodes k) n.args node.stored in
      let layers : base_of_node (first k s) n ≡ base_of_node s n = ap (head_layer s.lists n.head) args in
      let P : Layer → Type 0 = λ x. n.plus ≢ pos 0 → IfSome (layer_sort s.lists x) (λ sort. sort ≡ Int) in
      record {
        stored = inside k n e;
        shape = node.shape;
        form = subst (IsLayerInForm s.lists) layers node.form;
        sum = subst P layers node.sum;
      }

  pub has_tree : (k : ℕ) (n : Node) → slice_get s.nodes k ≡ Some n → slice_get (trees_of s.lists s.nodes) k ≡ Some (tree_of_node s n)
  has_tree k n e = stored_tree s.lists s.nodes k n e (sound.nodes k n e).stored

  pub node_of : (k : ℕ) (t : Term) → slice_get (trees_of s.lists s.nodes) k ≡ Some t → (n : Node) × (slice_get s.nodes k ≡ Some n) × (tree_of_node s n ≡ t)
  node_of k t e =
      let within = slice_get_within (trees_of s.lists s.nodes) k t e in
      let at = some_at s.nodes k (omega (arith, within, length-trees s.lists s.nodes)) in
      let tree = has_tree k at.0 at.1 in
      (at.0, at.1, cc)

  -- a node whose tree is there is there
  pub known : (n : Node) → All (λ id. id.0 < length s.nodes) n.args → HasShape s.lists n.head n.args → (k : ℕ)
      → slice_get (trees_of s.lists s.nodes) k ≡ Some (tree_of_node s n) → slice_get s.nodes k ≡ Some n
  known n stored shape k e =
      let at = node_of k (tree_of_node s n) e in
      let m = at.0 in
      let there : All (λ id. id.0 < length (trees_of s.lists s.nodes)) m.args = λ i d h. omega (arith, inside k m at.1 i d h, length-trees s.lists s.nodes) in
      let here : All (λ id. id.0 < length (trees_of s.lists s.nodes)) n.args = λ i d h. omega (arith, stored i d h, length-trees s.lists s.nodes) in
      let same = same_node s.lists (trees_of s.lists s.nodes) sound.arrays sound.pairs sound.trees m n there here (sound.nodes k m at.1).shape shape at.2 in
      at.1 ∙ ap Some same

module _ (l : Lists) (nodes : List Node) (sound : IsSound (record { lists = l; nodes = nodes })) where
  abbrev store : Store
  store = record { lists = l; nodes = nodes }

  trees_take : (j i : ℕ) (x : Term) → slice_get (trees_of l (take j nodes)) i ≡ Some x → slice_get (trees_of l nodes) i ≡ Some x
  trees_take j i x e =
      let within = slice_get_within (trees_of l (take j nodes)) i x e in
      sym (trees-take l nodes j i (omega (arith, within, length-trees l (take j nodes)))) ∙ e

  pub sound-first : (j : ℕ) → IsSound (record { lists = l; nodes = take j nodes })
  sound-first j = record {
    arrays = sound.arrays;
    pairs = sound.pairs;
    nodes = λ k n e.
        let within = slice_get_within (take j nodes) k n e in
        let below : k ≤ j = omega (arith, within, length-take j nodes) in
        let P : List Node → Type 0 = λ ns. IsNode (record { lists = l; nodes = ns }) n in
        subst P (sym (take_of_take nodes j k below)) (sound.nodes k n (get_take nodes j k n e));
    trees = λ i k x e f. sound.trees i k x (trees_take j i x e) (trees_take j k x f);
  }

  sound-push : (n : Node) → IsNode store n → ((k : ℕ) → slice_get (trees_of l nodes) k ≢ Some (tree_of_node store n))
      → IsSound (record { lists = l; nodes = nodes ++ n ∷ [] })
  sound-push n fits new = record {
    arrays = sound.arrays;
    pairs = sound.pairs;
    nodes = λ k m e.
        let P : List Node → Type 0 = λ ns. IsNode (record { lists = l; nodes = ns }) m in
        elim (place_in nodes n k m e) [
          | inl p ↦
              let below : k ≤ length nodes = omega (arith, p.0) in
              subst P (sym (take-append-le k nodes (n ∷ []) below)) (sound.nodes k m p.1)
          | inr p ↦
              let Q : Node → Type 0 = λ node. IsNode store node in
              let seam : take k (nodes ++ n ∷ []) ≡ nodes = ap (λ j. take j (nodes ++ n ∷ [])) p.0 ∙ take-append_seam nodes (n ∷ []) in
              subst P (sym seam) (subst Q p.1 fits)
        ];
    trees = subst AreDistinct (sym (trees-push l nodes n)) (distinct-push (trees_of l nodes) (tree_of_node store n) sound.trees new);
  }

  new_tree : (n : Node) → IsNode store n → ((k : ℕ) → slice_get nodes k ≢ Some n) → (k : ℕ) → slice_get (trees_of l nodes) k ≢ Some (tree_of_node store n)
  new_tree n fits none k e = none k (known store sound n fits.stored fits.shape k e)

  -- what putting a node does to a sound store
  pub sound-put : (n : Node) (place : ℕ) (new : List Node) → IsNode store n → Puts nodes n place new → IsSound (record { lists = l; nodes = new })
  sound-put n place new fits put =
      let P : List Node → Type 0 = λ ns. IsSound (record { lists = l; nodes = ns }) in
      elim put [
        | inl p ↦ subst P (sym p.1) sound
        | inr p ↦ subst P (sym p.2) (sound-push n fits (new_tree n fits p.0))
      ]

  pub put_interns : (n : Node) (id : TermId) (new : List Node) → IsNode store n → Puts nodes n id.0 new → Interns store n id (record { lists = l; nodes = new })
  put_interns n id new fits put =
      elim put [
        | inl p ↦ inl (has_tree store sound id.0 n p.0, ap (λ ns. record { lists = l; nodes = ns }) p.1)
        | inr p ↦ inr ((λ k. new_tree n fits p.0 k.0), p.1, ap (λ ns. record { lists = l; nodes = ns }) p.2)
      ]

  pub put_node : (n : Node) (place : ℕ) (new : List Node) → Puts nodes n place new → slice_get new place ≡ Some n
  put_node n place new put =
      elim put [
        | inl p ↦ ap (λ ns. slice_get ns place) p.1 ∙ p.0
        | inr p ↦ ap (λ ns. slice_get ns place) p.2 ∙ (ap (slice_get (nodes ++ n ∷ [])) p.1 ∙ get_seam nodes n [])
      ]

  pub put_tree : (n : Node) (place : ℕ) (new : List Node) → Puts nodes n place new → slice_get (trees_of l new) place ≡ Some (tree_of_node store n)
  put_tree n place new put =
      elim put [
        | inl p ↦ ap (λ ns. slice_get (trees_of l ns) place) p.1 ∙ has_tree store sound place n p.0
        | inr p ↦
            let whole = ap (trees_of l) p.2 ∙ trees-push l nodes n in
            let last : place ≡ length (trees_of l nodes) = p.1 ∙ sym (length-trees l nodes) in
            ap (λ ts. slice_get ts place) whole ∙ (ap (slice_get (trees_of l nodes ++ tree_of_node store n ∷ [])) last ∙ get_seam (trees_of l nodes) (tree_of_node store n) [])
      ]
