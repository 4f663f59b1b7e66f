-- What symbols and reads give, by their tables.
use Rattle.std.proofs.Common.{◌≡◌, ℕ, zero, suc, ◌+◌, ◌<◌, pos, Bool, true, false, true≢false, cond, List, [], ◌∷◌, map, if◌then◌else◌, refl, ap, sym, ◌∙◌, arith, eqb-true}
use Rattle.std.specs.Prelude.{Option, None, Some, find, slice_get}
use Rattle.mbqi_values.specs.declared.value.Value.{Value}
use Rattle.mbqi_values.specs.declared.value.Value.TheVariants.{Num, Truth}
use Rattle.mbqi_terms.specs.declared.term.ArrayTerm.{ArrayTerm, out-ArrayTerm}
use Rattle.mbqi_terms.specs.declared.term.ArrayTerm.TheOpen.{ArrayTerm-F, Symbol-F}
use Rattle.mbqi_terms.specs.declared.term.ArrayTerm.TheVariants as array
use Rattle.mbqi_terms.specs.declared.term.ArrayTerm.TheViews.{roll-ArrayTerm, roll-Symbol, roll-out-ArrayTerm, roll-out-Symbol}
use Rattle.mbqi_terms.specs.declared.term.Symbol.{Symbol, out-Symbol}
use Rattle.mbqi_terms.specs.declared.term.Symbol.TheVariants as symbol
use Rattle.mbqi_terms.specs.declared.term.Term.{Term}
use Rattle.mbqi_terms.specs.declared.term.Term.TheVariants as term
use Rattle.function_model.specs.Lookup.{given_by, is_declared, is_difference, is_far, is_full, is_seed, is_skolem, looked_up, table_where}
use Rattle.function_model.specs.Sound.{IsSound}
use Rattle.function_model.specs.Tabled.{given_or, symbol_gives, table_of_layer, untabled_layer}
use Rattle.function_model.specs.ValueOf.{Point, array_of, is_compound, is_compound_layer, value_of}
use Rattle.function_model.specs.declared.model.FunctionModel.{FunctionModel}
use Rattle.function_model.specs.declared.model.Table.{Table}
use Rattle.function_model.specs.declared.model.TableName.{TableName}
use Rattle.function_model.specs.declared.model.TableName.TheVariants.{Declared, Skolem, Seed, Far, Diff, Default, Read, Same}
use Rattle.function_model.proofs.Values.{meant_symbol, means_declared, means_difference, means_far, means_seed, means_skolem, read_name, value_symbol}

pub looked_up_or : (o : Option Table) (vs : List Value) → looked_up o vs ≡ given_or o (Truth false) vs
looked_up_or None vs = refl
looked_up_or (Some table) vs = refl

module _ (m : FunctionModel) (p : Point) where
  means_at : (layer : Symbol-F ArrayTerm Symbol Term) (vs : List Value)
      → (meant_symbol m p (roll-Symbol layer)).means vs ≡ given_or (table_of_layer m layer) (untabled_layer m layer) vs
  means_at (Symbol-F.Declared f) vs =
      ap (λ g. (meant_symbol m p g).means vs) (symbol.rolls-Declared f) ∙ (means_declared m p f vs ∙ looked_up_or (table_where (is_declared f) m) vs)
  means_at (Symbol-F.Skolem assertion place) vs =
      ap (λ g. (meant_symbol m p g).means vs) (symbol.rolls-Skolem assertion place)
      ∙ (means_skolem m p assertion place vs ∙ looked_up_or (table_where (is_skolem assertion place) m) vs)
  means_at (Symbol-F.Seed s) vs =
      ap (λ g. (meant_symbol m p g).means vs) (symbol.rolls-Seed s) ∙ (means_seed m p s vs ∙ looked_up_or (table_where (is_seed s) m) vs)
  means_at Symbol-F.Far vs = ap (λ g. (meant_symbol m p g).means vs) symbol.rolls-Far ∙ (means_far m p vs ∙ looked_up_or (table_where is_far m) vs)
  means_at (Symbol-F.Diff a b) vs =
      ap (λ g. (meant_symbol m p g).means vs) (symbol.rolls-Diff a b) ∙ (means_difference m p a b vs ∙ by (is_full m))
    where
      by : (full : Bool) → (if full then given_by (is_difference a b) m vs else Num (pos 0))
          ≡ given_or (if full then table_where (is_difference a b) m else None) (if full then Truth false else Num (pos 0)) vs
      by true = looked_up_or (table_where (is_difference a b) m) vs
      by false = refl

  -- the value of an application
  pub value_by_table : (f : Symbol) (ts : List Term) → value_of m (term.Apply f ts) p ≡ symbol_gives m f (map (λ t. value_of m t p) ts)
  value_by_table f ts =
      value_symbol m p f ts
      ∙ (ap (λ g. (meant_symbol m p g).means (map (λ t. value_of m t p) ts)) (sym (roll-out-Symbol f)) ∙ means_at (out-Symbol f) (map (λ t. value_of m t p) ts))

  -- an array that isn't compound is a name
  name_at : (a : ArrayTerm) (layer : ArrayTerm-F ArrayTerm Symbol Term) → out-ArrayTerm a ≡ layer → is_compound_layer layer ≡ false → (f : ℕ) × (a ≡ array.Name f)
  name_at a (ArrayTerm-F.Name f) e h = (f, sym (roll-out-ArrayTerm a) ∙ (ap roll-ArrayTerm e ∙ array.rolls-Name f))
  name_at a (ArrayTerm-F.Store b i v) e h = absurd (true≢false h)
  name_at a (ArrayTerm-F.Const s v) e h = absurd (true≢false h)
  name_at a (ArrayTerm-F.Map g parts) e h = absurd (true≢false h)

  pub name_of : (a : ArrayTerm) → is_compound a ≡ false → (f : ℕ) × (a ≡ array.Name f)
  name_of a h = name_at a (out-ArrayTerm a) refl h

  -- its reads
  pub read_by_table : (a : ArrayTerm) (f : ℕ) → a ≡ array.Name f → (i : Value)
      → (array_of m a p).read i ≡ given_or (table_where (is_declared f) m) (Truth false) (i ∷ [])
  read_by_table a f e i =
      ap (λ b. (array_of m b p).read i) e ∙ (read_name m p f i ∙ looked_up_or (table_where (is_declared f) m) (i ∷ []))

-- the table of a declared function stands at its number
named : (f : ℕ) (name : TableName) → is_declared f name ≡ true → name ≡ Declared f
named f (Declared g) e = ap Declared (sym (eqb-true f g e))
named f (Skolem assertion place) e = absurd (true≢false (sym e))
named f (Seed s) e = absurd (true≢false (sym e))
named f Far e = absurd (true≢false (sym e))
named f (Diff a b) e = absurd (true≢false (sym e))
named f (Default a) e = absurd (true≢false (sym e))
named f (Read a) e = absurd (true≢false (sym e))
named f (Same a b) e = absurd (true≢false (sym e))

abbrev pub checked : ℕ → Option Table → Option Table
checked f None = None
checked f (Some table) = if is_declared f table.name then Some table else None

abbrev AreNumbered : ℕ → List Table → Type 0
AreNumbered n tables = (at f : ℕ) (table : Table) → slice_get tables at ≡ Some table → table.name ≡ Declared f → n + at ≡ f

module _ (f : ℕ) where
  numbered_behind : (n : ℕ) (t : Table) (ts : List Table) → AreNumbered n (t ∷ ts) → AreNumbered (n + 1) ts
  numbered_behind n t ts numbered at g table there name = omega (arith, numbered (suc at) g table there name)

  -- none stands behind its number
  none_behind : (n : ℕ) (tables : List Table) → AreNumbered n tables → f < n → find (λ (t : Table). is_declared f t.name) tables ≡ None
  none_behind n [] numbered behind = refl
  none_behind n (t ∷ ts) numbered behind =
      by (is_declared f t.name) refl (none_behind (n + 1) ts (numbered_behind n t ts numbered) (omega (arith, behind)))
    where
      by : (b : Bool) → is_declared f t.name ≡ b → find (λ (u : Table). is_declared f u.name) ts ≡ None
          → cond b (Some t) (find (λ (u : Table). is_declared f u.name) ts) ≡ None
      by true e rest = absurd (omega (arith, numbered 0 f t refl (named f t.name e), behind))
      by false e rest = rest

  at_number : (n k : ℕ) → f ≡ n + k → (tables : List Table) → AreNumbered n tables
      → find (λ (t : Table). is_declared f t.name) tables ≡ checked f (slice_get tables k)
  at_number n k e [] numbered = refl
  at_number n zero e (t ∷ ts) numbered = by (is_declared f t.name)
    where
      by : (b : Bool) → cond b (Some t) (find (λ (u : Table). is_declared f u.name) ts) ≡ (if b then Some t else None)
      by true = refl
      by false = none_behind (n + 1) ts (numbered_behind n t ts numbered) (omega (arith, e))
  at_number n (suc k) e (t ∷ ts) numbered =
      by (is_declared f t.name) refl (at_number (n + 1) k (omega (arith, e)) ts (numbered_behind n t ts numbered))
    where
      by : (b : Bool) → is_declared f t.name ≡ b → find (λ (u : Table). is_declared f u.name) ts ≡ checked f (slice_get ts k)
          → cond b (Some t) (find (λ (u : Table). is_declared f u.name) ts) ≡ checked f (slice_get ts k)
      by true here rest = absurd (omega (arith, numbered 0 f t refl (named f t.name here), e))
      by false here rest = rest

  pub declared_at : (m : FunctionModel) → IsSound m → table_where (is_declared f) m ≡ checked f (slice_get m.tables f)
  declared_at m sound =
      at_number 0 f (omega arith) m.tables (λ at g table there name. omega (arith, sound.numbered at g table there name))

-- as the code has the cases
module _ (m : FunctionModel) (f : ℕ) (sound : IsSound m) where
  pub none_at_number : slice_get m.tables f ≡ None → None ≡ table_where (is_declared f) m
  none_at_number e = sym (declared_at f m sound ∙ ap (checked f) e)

  pub own_at_number : (table : Table) → slice_get m.tables f ≡ Some table → is_declared f table.name ≡ true → Some table ≡ table_where (is_declared f) m
  own_at_number table e own = sym (declared_at f m sound ∙ (ap (checked f) e ∙ ap (λ b. if b then Some table else None) own))

  pub other_at_number : (table : Table) → slice_get m.tables f ≡ Some table → is_declared f table.name ≡ false → None ≡ table_where (is_declared f) m
  other_at_number table e other = sym (declared_at f m sound ∙ (ap (checked f) e ∙ ap (λ b. if b then Some table else None) other))

pub ruleset at_number_laws = (none_at_number, own_at_number, other_at_number)
