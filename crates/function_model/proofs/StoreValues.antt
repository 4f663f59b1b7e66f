-- The values of a store's terms, by their nodes.
use Rattle.std.proofs.Common.{◌≡◌, ◌≢◌, ℕ, zero, suc, ◌<◌, ℤ, pos, negsuc, ◌+ℤ◌, Bool, true, false, List, [], ◌∷◌, length, map, if◌then◌else◌, refl, ap, sym, subst, ◌∙◌, arith}
use Rattle.std.specs.Prelude.{All, IfSome, None}
use Rattle.std.proofs.lemmas.Int.{ints}
use Rattle.std.proofs.lemmas.List.{get_or-map, length-map}
use Rattle.std.proofs.lemmas.List.Elements.{All-nil}
use Rattle.std.proofs.lemmas.Option.{get_or_from_slice_get, slice_get-get_or}
use Rattle.std.proofs.lemmas.Simd.{map-map}
use Rattle.mbqi_values.specs.Sum.{IsBelow}
use Rattle.mbqi_values.specs.Value.{plus_number}
use Rattle.mbqi_values.specs.declared.value.Value.{Value}
use Rattle.mbqi_values.specs.declared.value.Value.TheVariants.{Num, Elem, Truth}
use Rattle.mbqi_terms.specs.declared.store.lists.Lists.{Lists}
use Rattle.mbqi_terms.specs.declared.store.node.Head.{Head}
use Rattle.mbqi_terms.specs.declared.store.node.Head.TheVariants as head
use Rattle.mbqi_terms.specs.declared.store.node.Node.{Node}
use Rattle.mbqi_terms.specs.declared.term.ArrayTerm.{ArrayTerm, out-ArrayTerm}
use Rattle.mbqi_terms.specs.declared.term.ArrayTerm.TheOpen.{ArrayTerm-F, Term-F}
use Rattle.mbqi_terms.specs.declared.term.ArrayTerm.TheVariants as array
use Rattle.mbqi_terms.specs.declared.term.ArrayTerm.TheViews.{out-roll-ArrayTerm, roll-Term}
use Rattle.mbqi_terms.specs.declared.term.Symbol.{Symbol}
use Rattle.mbqi_terms.specs.declared.term.Symbol.TheVariants as symbol
use Rattle.mbqi_terms.specs.declared.term.Term.{Term}
use Rattle.mbqi_terms.specs.declared.term.Term.TheVariants as term
use Rattle.mbqi_terms.specs.declared.term_id.TermId.{TermId}
use Rattle.mbqi_terms.specs.Store.{HasShape, HasTree, Store, applied, array_at, first_of, head_layer, pair_at, tree_at, tree_of_node, trees_of}
use Rattle.mbqi_terms.specs.Tree.{sum_of}
use Rattle.mbqi_terms.proofs.Trees.{length-trees}
use Rattle.function_model.specs.Evaluable.{IsEvaluable}
use Rattle.function_model.specs.Fits.{IsSmall}
use Rattle.function_model.specs.Holds.{nowhere}
use Rattle.function_model.specs.Lookup.{given_by, is_declared, is_difference, is_far, is_full, is_seed, is_skolem, table_where}
use Rattle.function_model.specs.Sound.{IsSound, IsSoundTable}
use Rattle.function_model.specs.Tabled.{IsTabledHead, given_or, head_gives, stored_tree, stored_value, table_of_array, table_of_head, untabled_head}
use Rattle.function_model.specs.ValueOf.{value_of}
use Rattle.function_model.specs.declared.model.FunctionModel.{FunctionModel}
use Rattle.function_model.proofs.SmallValues.{array_sound, difference_sound, given_or_small, named_sound, zero_small}
use Rattle.function_model.proofs.SymbolTables.{looked_up_or, name_of, read_by_table}
use Rattle.function_model.proofs.TermParts.{arguments, no_default, read_index, read_level, sum_base, sum_level}
use Rattle.function_model.proofs.Values.{means_difference, means_far, means_seed, value_apply, value_number, value_read, value_skolem, value_sum, value_symbol, value_truth, value_variable}

-- a term with a number beside it
plus_nothing : (v : Value) → plus_number v (pos 0) ≡ v
plus_nothing (Num a) = let same : a +ℤ pos 0 ≡ a = omega (arith, ints) in ap Num same
plus_nothing (Elem e) = refl
plus_nothing (Truth t) = refl

value_of_sum : (m : FunctionModel) (t : Term) (n : ℤ) → value_of m (sum_of t n) nowhere ≡ plus_number (value_of m t nowhere) n
value_of_sum m t (pos zero) = sym (plus_nothing (value_of m t nowhere))
value_of_sum m t (pos (suc n)) = value_sum m nowhere t (pos (suc n))
value_of_sum m t (negsuc n) = value_sum m nowhere t (negsuc n)

base_of_sum : (t : Term) (n : ℤ) → IsEvaluable (sum_of t n) → IsEvaluable t
base_of_sum t (pos zero) is = is
base_of_sum t (pos (suc n)) is = sum_base (term.Plus t (pos (suc n))) t (pos (suc n)) refl is
base_of_sum t (negsuc n) is = sum_base (term.Plus t (negsuc n)) t (negsuc n) refl is

number_of_sum : (t : Term) (n : ℤ) → IsEvaluable (sum_of t n) → IsBelow n 124
number_of_sum t (pos zero) is = zero_small
number_of_sum t (pos (suc n)) is = (sum_level (term.Plus t (pos (suc n))) t (pos (suc n)) refl is).1
number_of_sum t (negsuc n) is = (sum_level (term.Plus t (negsuc n)) t (negsuc n) refl is).1

-- all heads but `Zero` are applied alike
pub applied_sum : (l : Lists) (h : Head) → h ≢ head.Zero → (ts : List Term) (n : ℤ) → applied l h ts n ≡ sum_of (roll-Term (head_layer l h ts)) n
applied_sum l head.Zero other ts n = absurd (other refl)
applied_sum l (head.Var place) other ts n = refl
applied_sum l (head.Truth b) other ts n = refl
applied_sum l (head.Declared f) other ts n = refl
applied_sum l (head.Skolem assertion place) other ts n = refl
applied_sum l (head.Seed s) other ts n = refl
applied_sum l head.Far other ts n = refl
applied_sum l (head.Diff k) other ts n = refl
applied_sum l (head.Read k) other ts n = refl
applied_sum l (head.Default k) other ts n = refl

-- what a head asks for, from what its term does
module _ (l : Lists) where
  pub tabled_head : (h : Head) (ts : List Term) → HasShape l h ts → IsEvaluable (roll-Term (head_layer l h ts)) → IsTabledHead l h
  tabled_head head.Zero ts shape is = tt
  tabled_head (head.Var place) ts shape is = tt
  tabled_head (head.Truth b) ts shape is = tt
  tabled_head (head.Declared f) ts shape is = tt
  tabled_head (head.Skolem assertion place) ts shape is = tt
  tabled_head (head.Seed s) ts shape is = tt
  tabled_head head.Far ts shape is = tt
  tabled_head (head.Diff k) ts shape is = shape
  tabled_head (head.Read k) ts shape is =
      (shape.0, read_level (roll-Term (Term-F.Read (array_at l k) (first_of ts))) (first_of ts) (array_at l k) (term.rolls-Read (array_at l k) (first_of ts)) is)
  tabled_head (head.Default k) ts shape is = absurd (no_default (roll-Term (Term-F.Default (array_at l k))) (array_at l k) (term.rolls-Default (array_at l k)) is)

  applied_args : (f : Symbol) (ts : List Term) → IsEvaluable (roll-Term (Term-F.Apply f ts)) → All IsEvaluable ts
  applied_args f ts is = arguments (roll-Term (Term-F.Apply f ts)) f ts (term.rolls-Apply f ts) is

  one_term : (ts : List Term) → length ts ≡ 1 → IsEvaluable (first_of ts) → All IsEvaluable ts
  one_term [] e is k d h = absurd (omega arith)
  one_term (t ∷ []) e is zero d h = is
  one_term (t ∷ []) e is (suc k) d h = absurd (omega arith)
  one_term (t ∷ u ∷ ts) e is k d h = absurd (omega arith)

  pub head_args : (h : Head) (ts : List Term) → HasShape l h ts → IsEvaluable (roll-Term (head_layer l h ts)) → All IsEvaluable ts
  head_args head.Zero ts shape is = subst (All IsEvaluable) (sym shape) (All-nil IsEvaluable)
  head_args (head.Var place) ts shape is = subst (All IsEvaluable) (sym shape) (All-nil IsEvaluable)
  head_args (head.Truth b) ts shape is = subst (All IsEvaluable) (sym shape) (All-nil IsEvaluable)
  head_args (head.Declared f) ts shape is = applied_args (symbol.Declared f) ts is
  head_args (head.Skolem assertion place) ts shape is = applied_args (symbol.Skolem assertion place) ts is
  head_args (head.Seed s) ts shape is = applied_args (symbol.Seed s) ts is
  head_args head.Far ts shape is = applied_args symbol.Far ts is
  head_args (head.Diff k) ts shape is = applied_args (symbol.Diff (pair_at l k).left (pair_at l k).right) ts is
  head_args (head.Read k) ts shape is =
      one_term ts shape.1 (read_index (roll-Term (Term-F.Read (array_at l k) (first_of ts))) (first_of ts) (array_at l k) (term.rolls-Read (array_at l k) (first_of ts)) is)
  head_args (head.Default k) ts shape is = subst (All IsEvaluable) (sym shape.1) (All-nil IsEvaluable)

module _ (m : FunctionModel) (l : Lists) where
  abbrev values : List Term → List Value
  values ts = map (λ t. value_of m t nowhere) ts

  read_value : (a : ArrayTerm) (ts : List Term) → length ts ≡ 1 → (f : ℕ) → a ≡ array.Name f
      → value_of m (term.Read a (first_of ts)) nowhere ≡ given_or (table_of_array m (out-ArrayTerm a)) (Truth false) (values ts)
  read_value a [] e f name = absurd (omega arith)
  read_value a (t ∷ []) e f name =
      let layer : out-ArrayTerm a ≡ ArrayTerm-F.Name f = ap out-ArrayTerm (name ∙ sym (array.rolls-Name f)) ∙ out-roll-ArrayTerm (ArrayTerm-F.Name f) in
      value_read m nowhere a t
      ∙ (read_by_table m nowhere a f name (value_of m t nowhere) ∙ ap (λ o. given_or (table_of_array m o) (Truth false) (value_of m t nowhere ∷ [])) (sym layer))
  read_value a (t ∷ u ∷ ts) e f name = absurd (omega arith)

  -- what a head gives is the value of its term
  pub head_value : (h : Head) → h ≢ head.Zero → (ts : List Term) → HasShape l h ts → IsTabledHead l h
      → value_of m (roll-Term (head_layer l h ts)) nowhere ≡ head_gives m l h (values ts)
  head_value head.Zero other ts shape is = absurd (other refl)
  head_value (head.Var place) other ts shape is = ap (λ t. value_of m t nowhere) (term.rolls-Var place) ∙ value_variable m nowhere place
  head_value (head.Truth b) other ts shape is = ap (λ t. value_of m t nowhere) (term.rolls-Truth b) ∙ value_truth m nowhere b
  head_value (head.Declared f) other ts shape is =
      ap (λ t. value_of m t nowhere) (term.rolls-Apply (symbol.Declared f) ts)
      ∙ (value_apply m nowhere f ts ∙ looked_up_or (table_where (is_declared f) m) (values ts))
  head_value (head.Skolem assertion place) other ts shape is =
      ap (λ t. value_of m t nowhere) (term.rolls-Apply (symbol.Skolem assertion place) ts)
      ∙ (value_skolem m nowhere assertion place ts ∙ looked_up_or (table_where (is_skolem assertion place) m) (values ts))
  head_value (head.Seed s) other ts shape is =
      ap (λ t. value_of m t nowhere) (term.rolls-Apply (symbol.Seed s) ts)
      ∙ (value_symbol m nowhere (symbol.Seed s) ts ∙ (means_seed m nowhere s (values ts) ∙ looked_up_or (table_where (is_seed s) m) (values ts)))
  head_value head.Far other ts shape is =
      ap (λ t. value_of m t nowhere) (term.rolls-Apply symbol.Far ts)
      ∙ (value_symbol m nowhere symbol.Far ts ∙ (means_far m nowhere (values ts) ∙ looked_up_or (table_where is_far m) (values ts)))
  head_value (head.Diff k) other ts shape is =
      ap (λ t. value_of m t nowhere) (term.rolls-Apply (symbol.Diff (pair_at l k).left (pair_at l k).right) ts)
      ∙ (value_symbol m nowhere (symbol.Diff (pair_at l k).left (pair_at l k).right) ts
      ∙ (means_difference m nowhere (pair_at l k).left (pair_at l k).right (values ts) ∙ by (is_full m)))
    where
      by : (full : Bool) → (if full then given_by (is_difference (pair_at l k).left (pair_at l k).right) m (values ts) else Num (pos 0))
          ≡ given_or (if full then table_where (is_difference (pair_at l k).left (pair_at l k).right) m else None) (if full then Truth false else Num (pos 0)) (values ts)
      by true = looked_up_or (table_where (is_difference (pair_at l k).left (pair_at l k).right) m) (values ts)
      by false = refl
  head_value (head.Read k) other ts shape is =
      let name = name_of m nowhere (array_at l k) is.1 in
      ap (λ t. value_of m t nowhere) (term.rolls-Read (array_at l k) (first_of ts)) ∙ read_value (array_at l k) ts shape.1 name.0 name.1
  head_value (head.Default k) other ts shape is = absurd is

  untabled_head_small : (h : Head) → IsSmall (untabled_head m h)
  untabled_head_small head.Zero = zero_small
  untabled_head_small (head.Var place) = tt
  untabled_head_small (head.Truth b) = tt
  untabled_head_small (head.Declared f) = tt
  untabled_head_small (head.Skolem assertion place) = tt
  untabled_head_small (head.Seed s) = tt
  untabled_head_small head.Far = tt
  untabled_head_small (head.Diff k) = by (is_full m)
    where
      by : (full : Bool) → IsSmall (if full then Truth false else Num (pos 0))
      by true = tt
      by false = zero_small
  untabled_head_small (head.Read k) = tt
  untabled_head_small (head.Default k) = tt

  module _ (sound : IsSound m) where
    pub head_sound : (h : Head) → IfSome (table_of_head m l h) IsSoundTable
    head_sound head.Zero = tt
    head_sound (head.Var place) = tt
    head_sound (head.Truth b) = tt
    head_sound (head.Declared f) = named_sound m sound (is_declared f)
    head_sound (head.Skolem assertion place) = named_sound m sound (is_skolem assertion place)
    head_sound (head.Seed s) = named_sound m sound (is_seed s)
    head_sound head.Far = named_sound m sound is_far
    head_sound (head.Diff k) = difference_sound m sound (pair_at l k).left (pair_at l k).right
    head_sound (head.Read k) = array_sound m sound (out-ArrayTerm (array_at l k))
    head_sound (head.Default k) = tt

    pub head_small : (h : Head) (vs : List Value) → IsSmall (head_gives m l h vs)
    head_small h vs = given_or_small (table_of_head m l h) (untabled_head m h) vs (head_sound h) (untabled_head_small h)

-- the same of numbers and of their trees
shape_of_map : {X Y : Type 0} → (l : Lists) (h : Head) (f : X → Y) (xs : List X) → HasShape l h xs → HasShape l h (map f xs)
shape_of_map l head.Zero f xs shape = ap (map f) shape
shape_of_map l (head.Var place) f xs shape = ap (map f) shape
shape_of_map l (head.Truth b) f xs shape = ap (map f) shape
shape_of_map l (head.Declared g) f xs shape = tt
shape_of_map l (head.Skolem assertion place) f xs shape = tt
shape_of_map l (head.Seed s) f xs shape = tt
shape_of_map l head.Far f xs shape = tt
shape_of_map l (head.Diff k) f xs shape = shape
shape_of_map l (head.Read k) f xs shape = (shape.0, length-map xs f ∙ shape.1)
shape_of_map l (head.Default k) f xs shape = (shape.0, ap (map f) shape.1)

all_of_map : {X Y : Type 0} → (P : Y → Type 0) (f : X → Y) (xs : List X) → All P (map f xs) → All (λ x. P (f x)) xs
all_of_map P f xs all k d h = subst P (get_or-map f xs k d (f d) h) (all k (f d) (omega (arith, h, length-map xs f)))

-- the term of a number, by its node
module _ (s : Store) (id : TermId) (node : Node) (tree : HasTree s id (tree_of_node s node)) (shape : HasShape s.lists node.head node.args) where
  abbrev args_trees : List Term
  args_trees = map (tree_at (trees_of s.lists s.nodes)) node.args

  stored_is : stored_tree s id ≡ tree_of_node s node
  stored_is = get_or_from_slice_get (trees_of s.lists s.nodes) id.0 (tree_of_node s node) (term.Num (pos 0)) tree

  pub numeral_value : (m : FunctionModel) → node.head ≡ head.Zero → Num node.plus ≡ stored_value m s id
  numeral_value m zeroth =
      sym (ap (λ t. value_of m t nowhere) (stored_is ∙ ap (λ h. applied s.lists h args_trees node.plus) zeroth) ∙ value_number m nowhere node.plus)

  module _ (other : node.head ≢ head.Zero) where
    stored_sum : stored_tree s id ≡ sum_of (roll-Term (head_layer s.lists node.head args_trees)) node.plus
    stored_sum = stored_is ∙ applied_sum s.lists node.head other args_trees node.plus

    base_is : IsEvaluable (stored_tree s id) → IsEvaluable (roll-Term (head_layer s.lists node.head args_trees))
    base_is is = base_of_sum (roll-Term (head_layer s.lists node.head args_trees)) node.plus (subst IsEvaluable stored_sum is)

    pub node_number : IsEvaluable (stored_tree s id) → IsBelow node.plus 124
    node_number is = number_of_sum (roll-Term (head_layer s.lists node.head args_trees)) node.plus (subst IsEvaluable stored_sum is)

    pub node_head : IsEvaluable (stored_tree s id) → IsTabledHead s.lists node.head
    node_head is = tabled_head s.lists node.head args_trees (shape_of_map s.lists node.head (tree_at (trees_of s.lists s.nodes)) node.args shape) (base_is is)

    pub node_args : IsEvaluable (stored_tree s id) → All (λ arg. IsEvaluable (stored_tree s arg)) node.args
    node_args is =
        all_of_map IsEvaluable (tree_at (trees_of s.lists s.nodes)) node.args
        (head_args s.lists node.head args_trees (shape_of_map s.lists node.head (tree_at (trees_of s.lists s.nodes)) node.args shape) (base_is is))

    pub node_value : (m : FunctionModel) → IsEvaluable (stored_tree s id)
        → plus_number (head_gives m s.lists node.head (map (stored_value m s) node.args)) node.plus ≡ stored_value m s id
    node_value m is =
        let base = head_value m s.lists node.head other args_trees (shape_of_map s.lists node.head (tree_at (trees_of s.lists s.nodes)) node.args shape) (node_head is) in
        let vs = map-map (λ t. value_of m t nowhere) (tree_at (trees_of s.lists s.nodes)) node.args in
        let whole = ap (λ t. value_of m t nowhere) stored_sum ∙ value_of_sum m (roll-Term (head_layer s.lists node.head args_trees)) node.plus in
        sym (whole ∙ (ap (λ v. plus_number v node.plus) base ∙ ap (λ some. plus_number (head_gives m s.lists node.head some) node.plus) vs))

-- the tree that a number has
pub given_tree : (s : Store) (id : TermId) (t : Term) → HasTree s id t → stored_tree s id ≡ t
given_tree s id t has = get_or_from_slice_get (trees_of s.lists s.nodes) id.0 t (term.Num (pos 0)) has

-- a stored number has a tree, which the condition speaks of
pub stored_is_evaluable : (s : Store) (id : TermId) → id.0 < length s.nodes → ((t : Term) → HasTree s id t → IsEvaluable t) → IsEvaluable (stored_tree s id)
stored_is_evaluable s id stored each =
    each (stored_tree s id) (slice_get-get_or (trees_of s.lists s.nodes) id.0 (term.Num (pos 0)) (omega (arith, stored, length-trees s.lists s.nodes)))
