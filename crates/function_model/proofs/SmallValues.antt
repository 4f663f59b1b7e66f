-- Values in sound models at points of small numbers are small, but for numerals and sums.
use Rattle.std.proofs.Common.{◌≡◌, ℕ, pos, Bool, true, false, List, [], ◌∷◌, map, if◌then◌else◌, cond, refl, ap, sym, subst, ◌∙◌, arith}
use Rattle.std.specs.Prelude.{All, IfSome, Option, None, Some, find}
use Rattle.std.proofs.lemmas.Int.{ints}
use Rattle.std.proofs.lemmas.List.Elements.{All-head, All-tail}
use Rattle.mbqi_values.specs.Sum.{IsBelow}
use Rattle.mbqi_values.specs.declared.value.Value.{Value}
use Rattle.mbqi_values.specs.declared.value.Value.TheVariants.{Num, Truth}
use Rattle.mbqi_terms.specs.declared.term.ArrayTerm.{ArrayTerm}
use Rattle.mbqi_terms.specs.declared.term.ArrayTerm.TheOpen.{ArrayTerm-F, Symbol-F, Term-F}
use Rattle.mbqi_terms.specs.declared.term.ArrayTerm.TheViews.{roll-Term, roll-out-Term}
use Rattle.mbqi_terms.specs.declared.term.Symbol.{Symbol, out-Symbol}
use Rattle.mbqi_terms.specs.declared.term.Term.{Term, out-Term}
use Rattle.mbqi_terms.specs.declared.term.Term.TheVariants as term
use Rattle.mbqi_terms.specs.Tree.{IsBase, IsPart, Layer}
use Rattle.function_model.specs.Evaluable.{IsEvaluable, IsEvaluableLayer}
use Rattle.function_model.specs.Fits.{IsSmall}
use Rattle.function_model.specs.Lookup.{is_at, is_declared, is_difference, is_far, is_full, is_seed, is_skolem, looked_up_in, table_where, value_at}
use Rattle.function_model.specs.Sound.{IsSound, IsSoundTable}
use Rattle.function_model.specs.Tabled.{given_or, symbol_gives, table_of_array, table_of_layer, untabled_layer}
use Rattle.function_model.specs.ValueOf.{Point, value_of}
use Rattle.function_model.specs.declared.model.FunctionModel.{FunctionModel}
use Rattle.function_model.specs.declared.model.Row.{Row}
use Rattle.function_model.specs.declared.model.Table.{Table}
use Rattle.function_model.specs.declared.model.TableName.{TableName}
use Rattle.function_model.proofs.SymbolTables.{name_of, read_by_table, value_by_table}
use Rattle.function_model.proofs.Values.{value_read, value_truth, value_variable}

-- what a sound table gives
module _ (knots : List (List Value)) (vs : List Value) (default : Value) (small : IsSmall default) where
  abbrev HasSmall : Row → Type 0
  HasSmall row = IsSmall row.value

  given_small : (rows : List Row) → All HasSmall rows → IsSmall (value_at rows knots vs default)
  given_small [] all = small
  given_small (row ∷ rows) all = by (is_at row.places knots vs) (given_small rows (All-tail HasSmall row rows all))
    where
      by : (b : Bool) → IsSmall (value_at rows knots vs default) → IsSmall (if b then row.value else value_at rows knots vs default)
      by true rest = All-head HasSmall row rows all
      by false rest = rest

pub table_small : (table : Table) → IsSoundTable table → (vs : List Value) → IsSmall (looked_up_in table vs)
table_small table sound vs = given_small table.knots vs table.default sound.small_default table.rows sound.small_values

pub given_or_small : (o : Option Table) (other : Value) (vs : List Value) → IfSome o IsSoundTable → IsSmall other → IsSmall (given_or o other vs)
given_or_small None other vs sound small = small
given_or_small (Some table) other vs sound small = table_small table sound vs

-- a table that is found is sound
find_sound : (is_it : TableName → Bool) (tables : List Table) → All IsSoundTable tables → IfSome (find (λ (t : Table). is_it t.name) tables) IsSoundTable
find_sound is_it [] all = tt
find_sound is_it (t ∷ ts) all = by (is_it t.name) (find_sound is_it ts (All-tail IsSoundTable t ts all))
  where
    by : (b : Bool) → IfSome (find (λ (u : Table). is_it u.name) ts) IsSoundTable → IfSome (cond b (Some t) (find (λ (u : Table). is_it u.name) ts)) IsSoundTable
    by true rest = All-head IsSoundTable t ts all
    by false rest = rest

pub zero_small : IsBelow (pos 0) 124
zero_small = (omega (arith, ints), omega (arith, ints))

module _ (m : FunctionModel) (sound : IsSound m) where
  pub difference_sound : (a b : ArrayTerm) → IfSome (if is_full m then table_where (is_difference a b) m else None) IsSoundTable
  difference_sound a b = by (is_full m)
    where
      by : (full : Bool) → IfSome (if full then table_where (is_difference a b) m else None) IsSoundTable
      by true = find_sound (is_difference a b) m.tables sound.tables
      by false = tt

  pub layer_sound : (layer : Symbol-F ArrayTerm Symbol Term) → IfSome (table_of_layer m layer) IsSoundTable
  layer_sound (Symbol-F.Declared f) = find_sound (is_declared f) m.tables sound.tables
  layer_sound (Symbol-F.Skolem assertion place) = find_sound (is_skolem assertion place) m.tables sound.tables
  layer_sound (Symbol-F.Seed s) = find_sound (is_seed s) m.tables sound.tables
  layer_sound Symbol-F.Far = find_sound is_far m.tables sound.tables
  layer_sound (Symbol-F.Diff a b) = difference_sound a b

  untabled_small : (layer : Symbol-F ArrayTerm Symbol Term) → IsSmall (untabled_layer m layer)
  untabled_small (Symbol-F.Declared f) = tt
  untabled_small (Symbol-F.Skolem assertion place) = tt
  untabled_small (Symbol-F.Seed s) = tt
  untabled_small Symbol-F.Far = tt
  untabled_small (Symbol-F.Diff a b) = by (is_full m)
    where
      by : (full : Bool) → IsSmall (if full then Truth false else Num (pos 0))
      by true = tt
      by false = zero_small

  symbol_small : (f : Symbol) (vs : List Value) → IsSmall (symbol_gives m f vs)
  symbol_small f vs = given_or_small _ _ vs (layer_sound (out-Symbol f)) (untabled_small (out-Symbol f))

  pub named_sound : (is_it : TableName → Bool) → IfSome (table_where is_it m) IsSoundTable
  named_sound is_it = find_sound is_it m.tables sound.tables

  pub array_sound : (layer : ArrayTerm-F ArrayTerm Symbol Term) → IfSome (table_of_array m layer) IsSoundTable
  array_sound (ArrayTerm-F.Name f) = named_sound (is_declared f)
  array_sound (ArrayTerm-F.Store a i v) = tt
  array_sound (ArrayTerm-F.Const s v) = tt
  array_sound (ArrayTerm-F.Map f parts) = tt

  module _ (p : Point) (small : (place : ℕ) → IsSmall (p place)) where
    by_level : (t : Term) (layer : Layer) → out-Term t ≡ layer → IsBase layer → IsEvaluableLayer layer → IsSmall (value_of m t p)
    by_level t (Term-F.Num n) e base is = absurd base
    by_level t (Term-F.Plus u n) e base is = absurd base
    by_level t (Term-F.Var place) e base is =
        let whole : t ≡ term.Var place = sym (roll-out-Term t) ∙ (ap roll-Term e ∙ term.rolls-Var place) in
        subst IsSmall (sym (ap (λ u. value_of m u p) whole ∙ value_variable m p place)) (small place)
    by_level t (Term-F.Truth b) e base is =
        let whole : t ≡ term.Truth b = sym (roll-out-Term t) ∙ (ap roll-Term e ∙ term.rolls-Truth b) in
        let truth : IsSmall (Truth b) = tt in
        subst IsSmall (sym (ap (λ u. value_of m u p) whole ∙ value_truth m p b)) truth
    by_level t (Term-F.Apply f ts) e base is =
        let whole : t ≡ term.Apply f ts = sym (roll-out-Term t) ∙ (ap roll-Term e ∙ term.rolls-Apply f ts) in
        subst IsSmall (sym (ap (λ u. value_of m u p) whole ∙ value_by_table m p f ts)) (symbol_small f (map (λ u. value_of m u p) ts))
    by_level t (Term-F.Read a i) e base is =
        let whole : t ≡ term.Read a i = sym (roll-out-Term t) ∙ (ap roll-Term e ∙ term.rolls-Read a i) in
        let name = name_of m p a is in
        let value = ap (λ u. value_of m u p) whole ∙ (value_read m p a i ∙ read_by_table m p a name.0 name.1 (value_of m i p)) in
        let truth : IsSmall (Truth false) = tt in
        subst IsSmall (sym value) (given_or_small (table_where (is_declared name.0) m) (Truth false) (value_of m i p ∷ []) (named_sound (is_declared name.0)) truth)
    by_level t (Term-F.Default a) e base is = absurd is

    pub base_small : (t : Term) → IsBase (out-Term t) → IsEvaluable t → IsSmall (value_of m t p)
    base_small t base is = by_level t (out-Term t) refl base (is t (IsPart.itself t))
