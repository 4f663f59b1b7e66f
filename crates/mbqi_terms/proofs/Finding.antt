-- The node of a term, from its head and the numbers of its arguments.
use Rattle.std.proofs.Common.{◌≡◌, ◌≢◌, ℕ, zero, suc, ◌<◌, ℤ, pos, negsuc, List, [], ◌∷◌, length, map, Some, slice_get, refl, sym, ap, subst, ◌∙◌, arith}
use Rattle.std.specs.List.{All, AllZip}
use Rattle.std.proofs.lemmas.Option.{slice_get_within, slice_get-get_or, get_or_from_slice_get}
use Rattle.mbqi_terms.specs.declared.store.lists.Lists.{Lists}
use Rattle.mbqi_terms.specs.declared.store.node.Head.{Head}
use Rattle.mbqi_terms.specs.declared.store.node.Head.TheVariants.{Zero, Var, Truth, Declared, Skolem, Seed, Far, Diff, Read, Default}
use Rattle.mbqi_terms.specs.declared.store.node.Node.{Node}
use Rattle.mbqi_terms.specs.declared.term.ArrayTerm.TheOpen.{Term-F}
use Rattle.mbqi_terms.specs.declared.term.ArrayTerm.TheViews.{out-roll-Term, roll-out-Term}
use Rattle.mbqi_terms.specs.declared.term.Term.{Term, out-Term, roll-Term}
use Rattle.mbqi_terms.specs.declared.term.Term.TheVariants as term
use Rattle.mbqi_terms.specs.declared.term_id.TermId.{TermId}
use Rattle.mbqi_terms.specs.Store.{Store, IsSound, HasTree, IsAbsent, AreAbsent, IsHeadOf, HasNoHead, HasShape, head_layer, applied, args_of, first_of, tree_at, trees_of, tree_of_node}
use Rattle.mbqi_terms.specs.Tree.{Layer, IsBase, sum_of}
use Rattle.mbqi_terms.proofs.Growth.{inside, node_of, known}
use Rattle.mbqi_terms.proofs.Heads.{unsum-applied}
use Rattle.mbqi_terms.proofs.Levels.{out-plus, out-num}
use Rattle.mbqi_terms.proofs.Sums.{unsum, unsum-sum_of}
use Rattle.mbqi_terms.proofs.Trees.{length-trees}
use Rattle.mbqi_terms.proofs.Zips.{zip_length, zip_empty}

module _ (l : Lists) where
  -- a head that makes a term that is no numeral and no sum, and its number
  pub applied-base : (h : Head) (ts : List Term) (n : ℤ) (x : Layer) → IsBase x → head_layer l h ts ≡ x → applied l h ts n ≡ sum_of (roll-Term x) n
  applied-base Zero ts n x base e = absurd (subst IsBase (sym e) base)
  applied-base (Var k) ts n x base e = ap (λ y. sum_of (roll-Term y) n) e
  applied-base (Truth b) ts n x base e = ap (λ y. sum_of (roll-Term y) n) e
  applied-base (Declared f) ts n x base e = ap (λ y. sum_of (roll-Term y) n) e
  applied-base (Skolem a p) ts n x base e = ap (λ y. sum_of (roll-Term y) n) e
  applied-base (Seed s) ts n x base e = ap (λ y. sum_of (roll-Term y) n) e
  applied-base Far ts n x base e = ap (λ y. sum_of (roll-Term y) n) e
  applied-base (Diff k) ts n x base e = ap (λ y. sum_of (roll-Term y) n) e
  applied-base (Read k) ts n x base e = ap (λ y. sum_of (roll-Term y) n) e
  applied-base (Default k) ts n x base e = ap (λ y. sum_of (roll-Term y) n) e

  one_of : (ts : List Term) → length ts ≡ 1 → first_of ts ∷ [] ≡ ts
  one_of [] e = absurd (omega arith)
  one_of (t ∷ []) e = refl
  one_of (t ∷ u ∷ ts) e = absurd (omega arith)

  -- the arguments of what a head makes
  pub args-head_layer : (h : Head) (ts : List Term) → HasShape l h ts → args_of (head_layer l h ts) ≡ ts
  args-head_layer Zero ts shape = sym shape
  args-head_layer (Var k) ts shape = sym shape
  args-head_layer (Truth b) ts shape = sym shape
  args-head_layer (Declared f) ts shape = refl
  args-head_layer (Skolem a p) ts shape = refl
  args-head_layer (Seed s) ts shape = refl
  args-head_layer Far ts shape = refl
  args-head_layer (Diff k) ts shape = refl
  args-head_layer (Read k) ts shape = one_of ts shape.1
  args-head_layer (Default k) ts shape = sym shape.1

  -- a list of the same length has the same shape
  pub same_shape : {X Y : Type 0} (h : Head) (xs : List X) (ys : List Y) → (ys ≡ [] → xs ≡ []) → length xs ≡ length ys → HasShape l h ys → HasShape l h xs
  same_shape Zero xs ys none long shape = none shape
  same_shape (Var k) xs ys none long shape = none shape
  same_shape (Truth b) xs ys none long shape = none shape
  same_shape (Declared f) xs ys none long shape = tt
  same_shape (Skolem a p) xs ys none long shape = tt
  same_shape (Seed s) xs ys none long shape = tt
  same_shape Far xs ys none long shape = tt
  same_shape (Diff k) xs ys none long shape = shape
  same_shape (Read k) xs ys none long shape = (shape.0, long ∙ shape.1)
  same_shape (Default k) xs ys none long shape = (shape.0, none shape.1)

  sum_is_plus : (x : Layer) → IsBase x → (p : ℤ) (b : Term) (n : ℤ) → sum_of (roll-Term x) p ≡ term.Plus b n → IsBase (out-Term b) × (n ≢ pos 0)
  sum_is_plus x base (pos zero) b n e =
      let layers : x ≡ Term-F.Plus b n = sym (out-roll-Term x) ∙ (ap out-Term e ∙ out-plus b n) in
      absurd (subst IsBase layers base)
  sum_is_plus x base (pos (suc p)) b n e =
      let layers : Term-F.Plus (roll-Term x) (pos (suc p)) ≡ Term-F.Plus b n = sym (out-plus (roll-Term x) (pos (suc p))) ∙ (ap out-Term e ∙ out-plus b n) in
      let bases : roll-Term x ≡ b = cc in
      let sums : pos (suc p) ≡ n = cc in
      (subst IsBase (sym (out-roll-Term x) ∙ ap out-Term bases) base, λ zero_is. cc)
  sum_is_plus x base (negsuc p) b n e =
      let layers : Term-F.Plus (roll-Term x) (negsuc p) ≡ Term-F.Plus b n = sym (out-plus (roll-Term x) (negsuc p)) ∙ (ap out-Term e ∙ out-plus b n) in
      let bases : roll-Term x ≡ b = cc in
      let sums : negsuc p ≡ n = cc in
      (subst IsBase (sym (out-roll-Term x) ∙ ap out-Term bases) base, λ zero_is. cc)

  -- a sum that a node makes is in form
  pub plus_in_form : (h : Head) (ts : List Term) (p : ℤ) (b : Term) (n : ℤ) → applied l h ts p ≡ term.Plus b n → IsBase (out-Term b) × (n ≢ pos 0)
  plus_in_form Zero ts p b n e =
      let layers : Term-F.Num p ≡ Term-F.Plus b n = sym (out-num p) ∙ (ap out-Term e ∙ out-plus b n) in
      cc
  plus_in_form (Var k) ts p b n e = sum_is_plus (head_layer l (Var k) ts) tt p b n e
  plus_in_form (Truth v) ts p b n e = sum_is_plus (head_layer l (Truth v) ts) tt p b n e
  plus_in_form (Declared f) ts p b n e = sum_is_plus (head_layer l (Declared f) ts) tt p b n e
  plus_in_form (Skolem a q) ts p b n e = sum_is_plus (head_layer l (Skolem a q) ts) tt p b n e
  plus_in_form (Seed s) ts p b n e = sum_is_plus (head_layer l (Seed s) ts) tt p b n e
  plus_in_form Far ts p b n e = sum_is_plus (head_layer l Far ts) tt p b n e
  plus_in_form (Diff k) ts p b n e = sum_is_plus (head_layer l (Diff k) ts) tt p b n e
  plus_in_form (Read k) ts p b n e = sum_is_plus (head_layer l (Read k) ts) tt p b n e
  plus_in_form (Default k) ts p b n e = sum_is_plus (head_layer l (Default k) ts) tt p b n e

map_empty : {X Y : Type 0} (f : X → Y) (xs : List X) → xs ≡ [] → map f xs ≡ []
map_empty f [] e = refl
map_empty f (x ∷ xs) e = cc

map_length : {X Y : Type 0} (f : X → Y) (xs : List X) → length (map f xs) ≡ length xs
map_length f [] = refl
map_length f (x ∷ xs) = omega (arith, map_length f xs)

module _ (s : Store) where
  -- the trees of numbers
  pub zip_trees : (ids : List TermId) (ts : List Term) → AllZip (HasTree s) ids ts → map (tree_at (trees_of s.lists s.nodes)) ids ≡ ts
  zip_trees [] [] zip = refl
  zip_trees [] (t ∷ ts) zip = absurd zip
  zip_trees (id ∷ ids) [] zip = absurd zip
  zip_trees (id ∷ ids) (t ∷ ts) zip =
      let here = get_or_from_slice_get (trees_of s.lists s.nodes) id.0 t (term.Num (pos 0)) zip.0 in
      let rest = zip_trees ids ts zip.1 in
      λ i. here i ∷ rest i

  pub zip_stored : (ids : List TermId) (ts : List Term) → AllZip (HasTree s) ids ts → All (λ id. id.0 < length s.nodes) ids
  zip_stored [] ts zip k d h = absurd (omega arith)
  zip_stored (id ∷ ids) [] zip k d h = absurd zip
  zip_stored (id ∷ ids) (t ∷ ts) zip zero d h =
      omega (arith, slice_get_within (trees_of s.lists s.nodes) id.0 t zip.0, length-trees s.lists s.nodes)
  zip_stored (id ∷ ids) (t ∷ ts) zip (suc k) d h = zip_stored ids ts zip.1 k d (omega arith)

  pub stored_zip : (ids : List TermId) → All (λ id. id.0 < length s.nodes) ids → AllZip (HasTree s) ids (map (tree_at (trees_of s.lists s.nodes)) ids)
  stored_zip [] stored = tt
  stored_zip (id ∷ ids) stored = (
    slice_get-get_or (trees_of s.lists s.nodes) id.0 (term.Num (pos 0)) (omega (arith, stored 0 id (omega arith), length-trees s.lists s.nodes)),
    stored_zip ids (λ k d h. stored (suc k) d (omega arith)),
  )

  zip_shape : (h : Head) (ids : List TermId) (ts : List Term) → AllZip (HasTree s) ids ts → HasShape s.lists h ts → HasShape s.lists h ids
  zip_shape h ids ts zip = same_shape s.lists h ids ts (zip_empty (HasTree s) ids ts zip) (zip_length (HasTree s) ids ts zip)

  -- the node of a head and of the numbers of the arguments has the term
  pub tree_is : (h : Head) (ids : List TermId) (n : ℤ) (t : Term) → IsBase (out-Term t) → IsHeadOf s.lists (out-Term t) h
      → AllZip (HasTree s) ids (args_of (out-Term t)) → tree_of_node s (record { head = h; args = ids; plus = n }) ≡ sum_of t n
  tree_is h ids n t base head zip =
      ap (λ ts. applied s.lists h ts n) (zip_trees ids (args_of (out-Term t)) zip)
      ∙ (applied-base s.lists h (args_of (out-Term t)) n (out-Term t) base head.1 ∙ ap (λ u. sum_of u n) (roll-out-Term t))

  pub shape_is : (h : Head) (ids : List TermId) (t : Term) → IsHeadOf s.lists (out-Term t) h → AllZip (HasTree s) ids (args_of (out-Term t)) → HasShape s.lists h ids
  shape_is h ids t head zip = zip_shape h ids (args_of (out-Term t)) zip head.0

  module _ (sound : IsSound s) where
    -- a node that isn't there has no number
    pub node_absent : (n : Node) → All (λ id. id.0 < length s.nodes) n.args → HasShape s.lists n.head n.args → ((k : ℕ) → slice_get s.nodes k ≢ Some n)
        → IsAbsent s (tree_of_node s n)
    node_absent n stored shape none id e = none id.0 (known s sound n stored shape id.0 e)

    -- what a number of a term says of its head and arguments
    pub made : (id : TermId) (n : ℤ) (t : Term) → IsBase (out-Term t) → HasTree s id (sum_of t n)
        → (h : Head) × (ts : List Term) × HasShape s.lists h ts × (head_layer s.lists h ts ≡ out-Term t) × ((ids : List TermId) × AllZip (HasTree s) ids ts)
    made id n t base e =
        let at = node_of s sound id.0 (sum_of t n) e in
        let m = at.0 in
        let f = tree_at (trees_of s.lists s.nodes) in
        let us = map f m.args in
        let rolled : sum_of (roll-Term (out-Term t)) n ≡ sum_of t n = ap (λ u. sum_of u n) (roll-out-Term t) in
        let apart = sym (unsum-applied s.lists m.head us m.plus) ∙ (ap unsum (at.2 ∙ sym rolled) ∙ unsum-sum_of (out-Term t) base n) in
        let stored = inside s sound id.0 m at.1 in
        let shape = (sound.nodes id.0 m at.1).shape in
        (m.head, us, same_shape s.lists m.head us m.args (map_empty f m.args) (map_length f m.args) shape, ap (λ p. p.0) apart, (m.args, stored_zip m.args stored))

    pub absent_without_head : (n : ℤ) (t : Term) → IsBase (out-Term t) → HasNoHead s.lists (out-Term t) → IsAbsent s (sum_of t n)
    absent_without_head n t base none id e = let m = made id n t base e in none m.0 m.1 m.2 m.3

    pub absent_without_args : (n : ℤ) (t : Term) → IsBase (out-Term t) → AreAbsent s (args_of (out-Term t)) → IsAbsent s (sum_of t n)
    absent_without_args n t base none id e =
        let m = made id n t base e in
        let same : m.1 ≡ args_of (out-Term t) = sym (args-head_layer s.lists m.0 m.1 m.2) ∙ ap args_of m.3 in
        none m.4.0 (subst (AllZip (HasTree s) m.4.0) same m.4.1)

    pub absent_sum : (b : Term) (n : ℤ) → (IsBase (out-Term b) → n ≢ pos 0 → ⊥) → IsAbsent s (term.Plus b n)
    absent_sum b n bad id e =
        let at = node_of s sound id.0 (term.Plus b n) e in
        let m = at.0 in
        let form = plus_in_form s.lists m.head (map (tree_at (trees_of s.lists s.nodes)) m.args) m.plus b n at.2 in
        bad form.0 form.1
