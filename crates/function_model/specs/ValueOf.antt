-- What terms are worth in a model, full or shown.
use Rattle.std.specs.Prelude.{ℕ, ℤ, pos, ◌+ℤ◌, Bool, true, false, not, ◌&&◌, List, [], ◌∷◌, map, Option, None, Some, if◌then◌else◌}
use Rattle.std.specs.List.{list_all, list_any, fold}
use Rattle.std.specs.Ordering.{is_le, int_cmp}
use Rattle.mbqi_values.specs.Value.{is_same, is_true, plus_number}
use Rattle.mbqi_values.specs.declared.value.Value.{Value}
use Rattle.mbqi_values.specs.declared.value.Value.TheVariants.{Num, Elem, Truth}
use Rattle.mbqi_terms.specs.declared.term.ArrayTerm.{ArrayTerm, out-ArrayTerm}
use Rattle.mbqi_terms.specs.declared.term.ArrayTerm.TheOpen.{ArrayTerm-F, Symbol-F, Term-F}
use Rattle.mbqi_terms.specs.declared.term.ArrayTerm.TheFolds.{fold-ArrayTerm, fold-Term, map-ArrayTerm, map-Symbol, map-Term}
use Rattle.mbqi_terms.specs.declared.term.ArrayTerm.TheViews.{roll-ArrayTerm, roll-Symbol, roll-Term}
use Rattle.mbqi_terms.specs.declared.term.MapOp.{MapOp}
use Rattle.mbqi_terms.specs.declared.term.MapOp.TheVariants as op
use Rattle.mbqi_terms.specs.declared.term.Symbol.{Symbol}
use Rattle.mbqi_terms.specs.declared.term.Term.{Term}
use Rattle.function_model.specs.declared.model.FunctionModel.{FunctionModel}
use Rattle.function_model.specs.declared.model.Table.{Table}
use Rattle.function_model.specs.Lookup.{given_by, table_where, is_declared, is_skolem, is_seed, is_far, is_difference, is_default, is_read, is_sameness, is_full}

-- The values of variables, by place.
abbrev pub Point : Type 0
Point = ℕ → Value

-- An array as its reads, and an index from which on each read is the same.
pub record ArrayMeaning : Type 0 where
  pub read : Value → Value
  pub top : ℤ

-- A tree beside what it means: a full model has tables that are found by the trees of array terms.
pub record Meant (Tree : Type 0) (Meaning : Type 0) : Type 0 where
  pub tree : Tree
  pub means : Meaning

abbrev pub MeantArray : Type 0
MeantArray = Meant ArrayTerm ArrayMeaning

abbrev pub MeantSymbol : Type 0
MeantSymbol = Meant Symbol (List Value → Value)

abbrev pub MeantTerm : Type 0
MeantTerm = Meant Term Value

abbrev pub meanings_in : {X : Type 0} → {Y : Type 0} → List (Meant X Y) → List Y
meanings_in {X} {Y} parts = map (λ (part : Meant X Y). part.means) parts

abbrev pub number_of : Value → ℤ
number_of (Num n) = n
number_of (Elem e) = pos 0
number_of (Truth t) = pos 0

abbrev pub greater : ℤ → ℤ → ℤ
greater a b = if is_le (int_cmp a b) then b else a

-- The last knot of a table with one argument.
abbrev pub last_of : List Value → ℤ
last_of [] = pos 0
last_of (k ∷ []) = number_of k
last_of (k ∷ l ∷ ks) = last_of (l ∷ ks)

abbrev pub last_knot : Option Table → ℤ
last_knot None = pos 0
last_knot (Some table) = last_of (fold (λ a ks. ks) [] table.knots)

-- The function or connective of a pointwise map (de Moura and Bjørner 2009).
abbrev pub applied : FunctionModel → MapOp → List Value → Value
applied m (op.Declared f) args = given_by (is_declared f) m args
applied m op.And args = Truth (list_all is_true args)
applied m op.Or args = Truth (list_any is_true args)
applied m op.Not args = Truth (not (list_any is_true args))

-- The greatest top of the parts of a map.
abbrev pub top_of : List ArrayMeaning → ℤ
top_of [] = pos 0
top_of (a ∷ parts) = fold (λ t (b : ArrayMeaning). greater t b.top) a.top parts

-- An array is read pointwise (SMT-LIB 2.6, theory ArraysEx; constant arrays and maps after de Moura and Bjørner
-- 2009). Its top is the last knot of a name, and one past each stored index (this project's own).
abbrev pub pointwise : FunctionModel → ArrayTerm-F MeantArray MeantSymbol MeantTerm → ArrayMeaning
pointwise m (ArrayTerm-F.Name f) = record {
  read = λ i. given_by (is_declared f) m (i ∷ []);
  top = last_knot (table_where (is_declared f) m);
}
pointwise m (ArrayTerm-F.Store a i v) = record {
  read = λ j. if is_same i.means j then v.means else a.means.read j;
  top = greater a.means.top (number_of i.means +ℤ pos 1);
}
pointwise m (ArrayTerm-F.Const sort v) = record { read = λ j. v.means; top = pos 0 }
pointwise m (ArrayTerm-F.Map f parts) = record {
  read = λ j. applied m f (map (λ (a : MeantArray). a.means.read j) parts);
  top = top_of (meanings_in parts);
}

-- An array term is compound where it is no name.
abbrev pub is_compound_layer : {A : Type 0} → {S : Type 0} → {T : Type 0} → ArrayTerm-F A S T → Bool
is_compound_layer (ArrayTerm-F.Name f) = false
is_compound_layer (ArrayTerm-F.Store a i v) = true
is_compound_layer (ArrayTerm-F.Const sort v) = true
is_compound_layer (ArrayTerm-F.Map f parts) = true

abbrev pub is_compound : ArrayTerm → Bool
is_compound a = is_compound_layer (out-ArrayTerm a)

-- The reads of an array term: those of a compound one go to its own table in a full model, and all others are pointwise.
abbrev pub reads_of : FunctionModel → Bool → ArrayTerm → ArrayMeaning → Value → Value
reads_of m is_compound a meaning i = if is_full m && is_compound then given_by (is_read a) m (i ∷ []) else meaning.read i

-- The tree of a level, of the trees of its parts.
abbrev pub array_tree : ArrayTerm-F MeantArray MeantSymbol MeantTerm → ArrayTerm
array_tree layer = roll-ArrayTerm (map-ArrayTerm MeantArray MeantSymbol MeantTerm ArrayTerm Symbol Term (λ a. a.tree) (λ f. f.tree) (λ t. t.tree) layer)

abbrev pub symbol_tree : Symbol-F MeantArray MeantSymbol MeantTerm → Symbol
symbol_tree layer = roll-Symbol (map-Symbol MeantArray MeantSymbol MeantTerm ArrayTerm Symbol Term (λ a. a.tree) (λ f. f.tree) (λ t. t.tree) layer)

abbrev pub term_tree : Term-F MeantArray MeantSymbol MeantTerm → Term
term_tree layer = roll-Term (map-Term MeantArray MeantSymbol MeantTerm ArrayTerm Symbol Term (λ a. a.tree) (λ f. f.tree) (λ t. t.tree) layer)

abbrev pub array_meaning : FunctionModel → ArrayTerm-F MeantArray MeantSymbol MeantTerm → MeantArray
array_meaning m layer = record {
  tree = array_tree layer;
  means = record {
    read = reads_of m (is_compound_layer layer) (array_tree layer) (pointwise m layer);
    top = (pointwise m layer).top;
  };
}

-- A symbol is its table. The index at which two arrays differ has one in full models alone, and is 0 in a shown one.
abbrev pub symbol_value : FunctionModel → Symbol-F MeantArray MeantSymbol MeantTerm → List Value → Value
symbol_value m (Symbol-F.Declared f) args = given_by (is_declared f) m args
symbol_value m (Symbol-F.Skolem assertion place) args = given_by (is_skolem assertion place) m args
symbol_value m (Symbol-F.Seed sort) args = given_by (is_seed sort) m args
symbol_value m Symbol-F.Far args = given_by is_far m args
symbol_value m (Symbol-F.Diff a b) args = if is_full m then given_by (is_difference a.tree b.tree) m args else Num (pos 0)

abbrev pub symbol_meaning : FunctionModel → Symbol-F MeantArray MeantSymbol MeantTerm → MeantSymbol
symbol_meaning m layer = record { tree = symbol_tree layer; means = symbol_value m layer }

-- A default has its own table in a full model, and is the read at the top in a shown one.
abbrev pub term_value : FunctionModel → Point → Term-F MeantArray MeantSymbol MeantTerm → Value
term_value m p (Term-F.Num n) = Num n
term_value m p (Term-F.Plus t n) = plus_number t.means n
term_value m p (Term-F.Var place) = p place
term_value m p (Term-F.Truth t) = Truth t
term_value m p (Term-F.Apply symbol args) = symbol.means (meanings_in args)
term_value m p (Term-F.Read a i) = a.means.read i.means
term_value m p (Term-F.Default a) = if is_full m then given_by (is_default a.tree) m [] else a.means.read (Num a.means.top)

abbrev pub term_meaning : FunctionModel → Point → Term-F MeantArray MeantSymbol MeantTerm → MeantTerm
term_meaning m p layer = record { tree = term_tree layer; means = term_value m p layer }

abbrev pub meant_term : FunctionModel → Point → Term → MeantTerm
meant_term m p t = fold-Term MeantArray MeantSymbol MeantTerm (array_meaning m) (symbol_meaning m) (term_meaning m p) t

abbrev pub meant_array : FunctionModel → Point → ArrayTerm → MeantArray
meant_array m p a = fold-ArrayTerm MeantArray MeantSymbol MeantTerm (array_meaning m) (symbol_meaning m) (term_meaning m p) a

-- The value of a term in a model at a point (SMT-LIB 2.6, section 5.3). In a full model reads of compound array terms, defaults and
-- the indices at which arrays differ are what their own tables give; in a shown one they are computed.
unfoldable pub value_of : FunctionModel → Term → Point → Value
value_of m t p = (meant_term m p t).means

-- The meaning of an array term there.
unfoldable pub array_of : FunctionModel → ArrayTerm → Point → ArrayMeaning
array_of m a p = (meant_array m p a).means

-- The truth that a full model's own table gives to the equality of two arrays.
abbrev pub sameness_in : FunctionModel → ArrayTerm → ArrayTerm → Value
sameness_in m a b = given_by (is_sameness a b) m []
