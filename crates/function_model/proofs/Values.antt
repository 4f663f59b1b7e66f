-- The value of each kind of term, by those of its parts, and the reads of each kind of array term.
use Rattle.std.proofs.Common.{◌≡◌, ℕ, ℤ, pos, ◌+ℤ◌, Bool, true, false, ◌&&◌, List, [], ◌∷◌, map, refl, sym, ap, ◌∙◌, rules, if◌then◌else◌}
use Rattle.std.specs.List.{AllByRecursion}
use Rattle.std.proofs.lemmas.Simd.{map-map}
use Rattle.mbqi_values.specs.Value.{is_same, plus_number}
use Rattle.mbqi_values.specs.declared.value.Value.{Value}
use Rattle.mbqi_values.specs.declared.value.Value.TheVariants as value
use Rattle.mbqi_terms.specs.declared.sort.Sort.{Sort}
use Rattle.mbqi_terms.specs.declared.term.ArrayTerm as arrays
use Rattle.mbqi_terms.specs.declared.term.ArrayTerm.{ArrayTerm}
use Rattle.mbqi_terms.specs.declared.term.ArrayTerm.TheFolds.{fold-Symbol, fold-roll-ArrayTerm, fold-roll-Symbol, fold-roll-Term, map-ArrayTerm, map-Symbol, map-Term}
use Rattle.mbqi_terms.specs.declared.term.ArrayTerm.TheOpen.{ArrayTerm-F, Symbol-F, Term-F}
use Rattle.mbqi_terms.specs.declared.term.ArrayTerm.TheVariants as array
use Rattle.mbqi_terms.specs.declared.term.ArrayTerm.TheViews.{roll-ArrayTerm, roll-Symbol, roll-Term}
use Rattle.mbqi_terms.specs.declared.term.MapOp.{MapOp}
use Rattle.mbqi_terms.specs.declared.term.Symbol as symbols
use Rattle.mbqi_terms.specs.declared.term.Symbol.{Symbol}
use Rattle.mbqi_terms.specs.declared.term.Symbol.TheVariants as symbol
use Rattle.mbqi_terms.specs.declared.term.Term as terms
use Rattle.mbqi_terms.specs.declared.term.Term.{Term}
use Rattle.mbqi_terms.specs.declared.term.Term.TheVariants as term
use Rattle.function_model.specs.declared.model.FunctionModel.{FunctionModel}
use Rattle.function_model.specs.Lookup.{given_by, is_declared, is_default, is_difference, is_far, is_full, is_read, is_seed, is_skolem, table_where}
use Rattle.function_model.specs.ValueOf.{MeantArray, MeantSymbol, MeantTerm, Point, applied, array_meaning, array_of, array_tree, greater, is_compound_layer, last_knot, meant_array, meant_term, number_of, pointwise, symbol_meaning, term_meaning, top_of, value_of}
use Rattle.function_model.proofs.Induction.{Cases, each_array, each_term}

module _ (m : FunctionModel) (p : Point) where
  abbrev pub meant_symbol : Symbol → MeantSymbol
  meant_symbol f = fold-Symbol MeantArray MeantSymbol MeantTerm (array_meaning m) (symbol_meaning m) (term_meaning m p) f

  -- what a level means, by what its parts mean
  rolled_array : (layer : ArrayTerm-F ArrayTerm Symbol Term) → meant_array m p (roll-ArrayTerm layer)
      ≡ array_meaning m (map-ArrayTerm ArrayTerm Symbol Term MeantArray MeantSymbol MeantTerm (meant_array m p) meant_symbol (meant_term m p) layer)
  rolled_array = fold-roll-ArrayTerm MeantArray MeantSymbol MeantTerm (array_meaning m) (symbol_meaning m) (term_meaning m p)

  rolled_symbol : (layer : Symbol-F ArrayTerm Symbol Term) → meant_symbol (roll-Symbol layer)
      ≡ symbol_meaning m (map-Symbol ArrayTerm Symbol Term MeantArray MeantSymbol MeantTerm (meant_array m p) meant_symbol (meant_term m p) layer)
  rolled_symbol = fold-roll-Symbol MeantArray MeantSymbol MeantTerm (array_meaning m) (symbol_meaning m) (term_meaning m p)

  rolled_term : (layer : Term-F ArrayTerm Symbol Term) → meant_term m p (roll-Term layer)
      ≡ term_meaning m p (map-Term ArrayTerm Symbol Term MeantArray MeantSymbol MeantTerm (meant_array m p) meant_symbol (meant_term m p) layer)
  rolled_term = fold-roll-Term MeantArray MeantSymbol MeantTerm (array_meaning m) (symbol_meaning m) (term_meaning m p)

  meant_store : (a : ArrayTerm) (i v : Term)
      → meant_array m p (array.Store a i v) ≡ array_meaning m (ArrayTerm-F.Store (meant_array m p a) (meant_term m p i) (meant_term m p v))
  meant_store a i v = ap (meant_array m p) (sym (array.rolls-Store a i v)) ∙ rolled_array (ArrayTerm-F.Store a i v)

  meant_constant : (s : Sort) (v : Term) → meant_array m p (array.Const s v) ≡ array_meaning m (ArrayTerm-F.Const s (meant_term m p v))
  meant_constant s v = ap (meant_array m p) (sym (array.rolls-Const s v)) ∙ rolled_array (ArrayTerm-F.Const s v)

  meant_map : (f : MapOp) (parts : List ArrayTerm) → meant_array m p (array.Map f parts) ≡ array_meaning m (ArrayTerm-F.Map f (map (meant_array m p) parts))
  meant_map f parts = ap (meant_array m p) (sym (array.rolls-Map f parts)) ∙ rolled_array (ArrayTerm-F.Map f parts)

  meant_difference : (a b : ArrayTerm) → meant_symbol (symbol.Diff a b) ≡ symbol_meaning m (Symbol-F.Diff (meant_array m p a) (meant_array m p b))
  meant_difference a b = ap meant_symbol (sym (symbol.rolls-Diff a b)) ∙ rolled_symbol (Symbol-F.Diff a b)

  meant_apply : (f : Symbol) (ts : List Term)
      → meant_term m p (term.Apply f ts) ≡ term_meaning m p (Term-F.Apply (meant_symbol f) (map (meant_term m p) ts))
  meant_apply f ts = ap (meant_term m p) (sym (term.rolls-Apply f ts)) ∙ rolled_term (Term-F.Apply f ts)

  meant_read : (a : ArrayTerm) (i : Term) → meant_term m p (term.Read a i) ≡ term_meaning m p (Term-F.Read (meant_array m p a) (meant_term m p i))
  meant_read a i = ap (meant_term m p) (sym (term.rolls-Read a i)) ∙ rolled_term (Term-F.Read a i)

  meant_default : (a : ArrayTerm) → meant_term m p (term.Default a) ≡ term_meaning m p (Term-F.Default (meant_array m p a))
  meant_default a = ap (meant_term m p) (sym (term.rolls-Default a)) ∙ rolled_term (Term-F.Default a)

  -- the tree that stands beside a meaning is the tree itself
  trees_are : {X : Type 0} → {Y : Type 0} → (tree : X → Y) (meant : Y → X) (ys : List Y) → AllByRecursion (λ y. tree (meant y) ≡ y) ys
      → map tree (map meant ys) ≡ ys
  trees_are tree meant [] all = refl
  trees_are tree meant (y ∷ ys) all = λ k. all.0 k ∷ trees_are tree meant ys all.1 k

  abbrev IsArray : ArrayTerm → Type 0
  IsArray a = (meant_array m p a).tree ≡ a

  abbrev IsSymbol : Symbol → Type 0
  IsSymbol f = (meant_symbol f).tree ≡ f

  abbrev IsTerm : Term → Type 0
  IsTerm t = (meant_term m p t).tree ≡ t

  trees : Cases IsArray IsSymbol IsTerm
  trees = record {
    name = λ f. search (rules, arrays.the_lemmas);
    store = λ a i v left index worth.
        ap (λ x. x.tree) (meant_store a i v) ∙ ((λ k. roll-ArrayTerm (ArrayTerm-F.Store (left k) (index k) (worth k))) ∙ array.rolls-Store a i v);
    constant = λ s v worth. ap (λ x. x.tree) (meant_constant s v) ∙ ((λ k. roll-ArrayTerm (ArrayTerm-F.Const s (worth k))) ∙ array.rolls-Const s v);
    pointwise = λ f parts all.
        ap (λ x. x.tree) (meant_map f parts)
        ∙ (ap (λ ys. roll-ArrayTerm (ArrayTerm-F.Map f ys)) (trees_are (λ x. x.tree) (meant_array m p) parts all) ∙ array.rolls-Map f parts);
    declared = λ f. search (rules, symbols.the_lemmas);
    skolem = λ assertion place. search (rules, symbols.the_lemmas);
    seed = λ s. search (rules, symbols.the_lemmas);
    far = search (rules, symbols.the_lemmas);
    difference = λ a b left right.
        ap (λ x. x.tree) (meant_difference a b) ∙ ((λ k. roll-Symbol (Symbol-F.Diff (left k) (right k))) ∙ symbol.rolls-Diff a b);
    numeral = λ n. search (rules, terms.the_lemmas);
    sum = λ t n is. search (rules, terms.the_lemmas) ∙ ap (λ u. term.Plus u n) is;
    variable = λ place. search (rules, terms.the_lemmas);
    truth = λ b. search (rules, terms.the_lemmas);
    application = λ f ts is all.
        ap (λ x. x.tree) (meant_apply f ts)
        ∙ ((λ k. roll-Term (Term-F.Apply (is k) (trees_are (λ x. x.tree) (meant_term m p) ts all k))) ∙ term.rolls-Apply f ts);
    reading = λ a i left index. ap (λ x. x.tree) (meant_read a i) ∙ ((λ k. roll-Term (Term-F.Read (left k) (index k))) ∙ term.rolls-Read a i);
    default = λ a is. ap (λ x. x.tree) (meant_default a) ∙ ((λ k. roll-Term (Term-F.Default (is k))) ∙ term.rolls-Default a);
  }

  pub array_tree_is : (a : ArrayTerm) → (meant_array m p a).tree ≡ a
  array_tree_is = each_array IsArray IsSymbol IsTerm trees

  pub term_tree_is : (t : Term) → (meant_term m p t).tree ≡ t
  term_tree_is = each_term IsArray IsSymbol IsTerm trees

  -- the value of each kind of term
  pub value_number : (n : ℤ) → value_of m (term.Num n) p ≡ value.Num n
  unfolding value_of
  value_number n = search (rules, terms.the_lemmas)

  pub value_sum : (t : Term) (n : ℤ) → value_of m (term.Plus t n) p ≡ plus_number (value_of m t p) n
  unfolding value_of
  value_sum t n = search (rules, terms.the_lemmas)

  pub value_variable : (place : ℕ) → value_of m (term.Var place) p ≡ p place
  unfolding value_of
  value_variable place = search (rules, terms.the_lemmas)

  pub value_truth : (b : Bool) → value_of m (term.Truth b) p ≡ value.Truth b
  unfolding value_of
  value_truth b = search (rules, terms.the_lemmas)

  pub value_symbol : (f : Symbol) (ts : List Term) → value_of m (term.Apply f ts) p ≡ (meant_symbol f).means (map (λ t. value_of m t p) ts)
  unfolding value_of
  value_symbol f ts = ap (λ x. x.means) (meant_apply f ts) ∙ ap (meant_symbol f).means (map-map (λ (x : MeantTerm). x.means) (meant_term m p) ts)

  pub means_declared : (f : ℕ) (vs : List Value) → (meant_symbol (symbol.Declared f)).means vs ≡ given_by (is_declared f) m vs
  means_declared f vs = search (rules, symbols.the_lemmas)

  pub means_skolem : (assertion place : ℕ) (vs : List Value) → (meant_symbol (symbol.Skolem assertion place)).means vs ≡ given_by (is_skolem assertion place) m vs
  means_skolem assertion place vs = search (rules, symbols.the_lemmas)

  pub means_seed : (s : ℕ) (vs : List Value) → (meant_symbol (symbol.Seed s)).means vs ≡ given_by (is_seed s) m vs
  means_seed s vs = search (rules, symbols.the_lemmas)

  pub means_far : (vs : List Value) → (meant_symbol symbol.Far).means vs ≡ given_by is_far m vs
  means_far vs = search (rules, symbols.the_lemmas)

  pub means_difference : (a b : ArrayTerm) (vs : List Value)
      → (meant_symbol (symbol.Diff a b)).means vs ≡ (if is_full m then given_by (is_difference a b) m vs else value.Num (pos 0))
  means_difference a b vs =
      ap (λ x. x.means vs) (meant_difference a b)
      ∙ (λ k. if is_full m then given_by (is_difference (array_tree_is a k) (array_tree_is b k)) m vs else value.Num (pos 0))

  pub value_apply : (f : ℕ) (ts : List Term) → value_of m (term.Apply (symbol.Declared f) ts) p ≡ given_by (is_declared f) m (map (λ t. value_of m t p) ts)
  value_apply f ts = value_symbol (symbol.Declared f) ts ∙ means_declared f (map (λ t. value_of m t p) ts)

  pub value_skolem : (assertion place : ℕ) (ts : List Term)
      → value_of m (term.Apply (symbol.Skolem assertion place) ts) p ≡ given_by (is_skolem assertion place) m (map (λ t. value_of m t p) ts)
  value_skolem assertion place ts = value_symbol (symbol.Skolem assertion place) ts ∙ means_skolem assertion place (map (λ t. value_of m t p) ts)

  pub value_seed : (s : ℕ) → value_of m (term.Apply (symbol.Seed s) []) p ≡ given_by (is_seed s) m []
  value_seed s = value_symbol (symbol.Seed s) [] ∙ means_seed s []

  pub value_far : value_of m (term.Apply symbol.Far []) p ≡ given_by is_far m []
  value_far = value_symbol symbol.Far [] ∙ means_far []

  pub value_difference : (a b : ArrayTerm)
      → value_of m (term.Apply (symbol.Diff a b) []) p ≡ (if is_full m then given_by (is_difference a b) m [] else value.Num (pos 0))
  value_difference a b = value_symbol (symbol.Diff a b) [] ∙ means_difference a b []

  pub value_read : (a : ArrayTerm) (i : Term) → value_of m (term.Read a i) p ≡ (array_of m a p).read (value_of m i p)
  unfolding value_of array_of
  value_read a i = ap (λ x. x.means) (meant_read a i)

  pub value_default : (a : ArrayTerm) → value_of m (term.Default a) p
      ≡ (if is_full m then given_by (is_default a) m [] else (array_of m a p).read (value.Num (array_of m a p).top))
  unfolding value_of array_of
  value_default a =
      ap (λ x. x.means) (meant_default a)
      ∙ (λ k. if is_full m then given_by (is_default (array_tree_is a k)) m [] else (meant_array m p a).means.read (value.Num (meant_array m p a).means.top))

  -- the reads of each kind of array term: those of a compound one have their own table in a full model
  meant_name : (f : ℕ) → meant_array m p (array.Name f) ≡ array_meaning m (ArrayTerm-F.Name f)
  meant_name f = ap (meant_array m p) (sym (array.rolls-Name f)) ∙ rolled_array (ArrayTerm-F.Name f)

  with_false : (b : Bool) → (b && false) ≡ false
  with_false true = refl
  with_false false = refl

  with_true : (b : Bool) → (b && true) ≡ b
  with_true true = refl
  with_true false = refl

  pub read_name : (f : ℕ) (i : Value) → (array_of m (array.Name f) p).read i ≡ given_by (is_declared f) m (i ∷ [])
  unfolding array_of
  read_name f i =
      ap (λ x. x.means.read i) (meant_name f)
      ∙ ap (λ b. if b then given_by (is_read (roll-ArrayTerm (ArrayTerm-F.Name f))) m (i ∷ []) else given_by (is_declared f) m (i ∷ [])) (with_false (is_full m))

  read_compound : (a : ArrayTerm) (layer : ArrayTerm-F MeantArray MeantSymbol MeantTerm) → meant_array m p a ≡ array_meaning m layer
      → is_compound_layer layer ≡ true → (j : Value)
      → (array_of m a p).read j ≡ (if is_full m then given_by (is_read a) m (j ∷ []) else (pointwise m layer).read j)
  unfolding array_of
  read_compound a layer meant compound j =
      let tree : array_tree layer ≡ a = sym (ap (λ x. x.tree) meant) ∙ array_tree_is a in
      let both : (is_full m && is_compound_layer layer) ≡ is_full m = ap (λ b. is_full m && b) compound ∙ with_true (is_full m) in
      ap (λ x. x.means.read j) meant
      ∙ (λ k. if both k then given_by (is_read (tree k)) m (j ∷ []) else (pointwise m layer).read j)

  pub read_store : (a : ArrayTerm) (i v : Term) (j : Value) → (array_of m (array.Store a i v) p).read j
      ≡ (if is_full m then given_by (is_read (array.Store a i v)) m (j ∷ [])
      else (if is_same (value_of m i p) j then value_of m v p else (array_of m a p).read j))
  unfolding value_of array_of
  read_store a i v j =
      read_compound (array.Store a i v) (ArrayTerm-F.Store (meant_array m p a) (meant_term m p i) (meant_term m p v)) (meant_store a i v) refl j

  pub read_constant : (s : Sort) (v : Term) (j : Value) → (array_of m (array.Const s v) p).read j
      ≡ (if is_full m then given_by (is_read (array.Const s v)) m (j ∷ []) else value_of m v p)
  unfolding value_of array_of
  read_constant s v j = read_compound (array.Const s v) (ArrayTerm-F.Const s (meant_term m p v)) (meant_constant s v) refl j

  pub read_map : (f : MapOp) (parts : List ArrayTerm) (j : Value) → (array_of m (array.Map f parts) p).read j
      ≡ (if is_full m then given_by (is_read (array.Map f parts)) m (j ∷ []) else applied m f (map (λ a. (array_of m a p).read j) parts))
  unfolding array_of
  read_map f parts j =
      read_compound (array.Map f parts) (ArrayTerm-F.Map f (map (meant_array m p) parts)) (meant_map f parts) refl j
      ∙ ap (λ vs. if is_full m then given_by (is_read (array.Map f parts)) m (j ∷ []) else applied m f vs)
      (map-map (λ (x : MeantArray). x.means.read j) (meant_array m p) parts)

  -- and their tops
  pub top_name : (f : ℕ) → (array_of m (array.Name f) p).top ≡ last_knot (table_where (is_declared f) m)
  unfolding array_of
  top_name f = ap (λ x. x.means.top) (meant_name f)

  pub top_store : (a : ArrayTerm) (i v : Term)
      → (array_of m (array.Store a i v) p).top ≡ greater (array_of m a p).top (number_of (value_of m i p) +ℤ pos 1)
  unfolding value_of array_of
  top_store a i v = ap (λ x. x.means.top) (meant_store a i v)

  pub top_constant : (s : Sort) (v : Term) → (array_of m (array.Const s v) p).top ≡ pos 0
  unfolding array_of
  top_constant s v = ap (λ x. x.means.top) (meant_constant s v)

  pub top_map : (f : MapOp) (parts : List ArrayTerm) → (array_of m (array.Map f parts) p).top ≡ top_of (map (λ a. array_of m a p) parts)
  unfolding array_of
  top_map f parts = ap (λ x. x.means.top) (meant_map f parts) ∙ ap top_of (map-map (λ (x : MeantArray). x.means) (meant_array m p) parts)
