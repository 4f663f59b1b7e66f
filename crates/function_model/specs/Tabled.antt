-- What a symbol's table gives (this project's own). Private clauses alone cite it.
use Rattle.std.specs.Prelude.{◌≡◌, ◌<◌, false, pos, List, length, Option, None, Some, if◌then◌else◌}
use Rattle.mbqi_values.specs.declared.value.Value.{Value}
use Rattle.mbqi_values.specs.declared.value.Value.TheVariants.{Num, Truth}
use Rattle.mbqi_terms.specs.declared.store.lists.Lists.{Lists}
use Rattle.mbqi_terms.specs.declared.store.node.Head.{Head}
use Rattle.mbqi_terms.specs.declared.store.node.Head.TheVariants as head
use Rattle.mbqi_terms.specs.declared.term.ArrayTerm.{ArrayTerm, out-ArrayTerm}
use Rattle.mbqi_terms.specs.declared.term.ArrayTerm.TheOpen.{ArrayTerm-F, Symbol-F}
use Rattle.mbqi_terms.specs.declared.term.Symbol.{Symbol, out-Symbol}
use Rattle.mbqi_terms.specs.declared.term.Term.{Term}
use Rattle.mbqi_terms.specs.declared.term_id.TermId.{TermId}
use Rattle.mbqi_terms.specs.Store.{Store, array_at, pair_at, tree_at, trees_of}
use Rattle.function_model.specs.Holds.{nowhere}
use Rattle.function_model.specs.Lookup.{is_declared, is_difference, is_far, is_full, is_seed, is_skolem, looked_up_in, table_where}
use Rattle.function_model.specs.ValueOf.{is_compound, value_of}
use Rattle.function_model.specs.declared.model.FunctionModel.{FunctionModel}
use Rattle.function_model.specs.declared.model.Table.{Table}

-- The table of a symbol. In a shown model the index at which two arrays differ has none.
abbrev pub table_of_layer : FunctionModel → Symbol-F ArrayTerm Symbol Term → Option Table
table_of_layer m (Symbol-F.Declared f) = table_where (is_declared f) m
table_of_layer m (Symbol-F.Skolem assertion place) = table_where (is_skolem assertion place) m
table_of_layer m (Symbol-F.Seed s) = table_where (is_seed s) m
table_of_layer m Symbol-F.Far = table_where is_far m
table_of_layer m (Symbol-F.Diff a b) = if is_full m then table_where (is_difference a b) m else None

-- Its value where it has no table.
abbrev pub untabled_layer : FunctionModel → Symbol-F ArrayTerm Symbol Term → Value
untabled_layer m (Symbol-F.Declared f) = Truth false
untabled_layer m (Symbol-F.Skolem assertion place) = Truth false
untabled_layer m (Symbol-F.Seed s) = Truth false
untabled_layer m Symbol-F.Far = Truth false
untabled_layer m (Symbol-F.Diff a b) = if is_full m then Truth false else Num (pos 0)

abbrev pub table_of : FunctionModel → Symbol → Option Table
table_of m f = table_of_layer m (out-Symbol f)

abbrev pub untabled : FunctionModel → Symbol → Value
untabled m f = untabled_layer m (out-Symbol f)

-- The value of a table, or another one where there is none.
abbrev pub given_or : Option Table → Value → List Value → Value
given_or None other args = other
given_or (Some table) other args = looked_up_in table args

-- What a symbol gives.
abbrev pub symbol_gives : FunctionModel → Symbol → List Value → Value
symbol_gives m f args = given_or (table_of m f) (untabled m f) args

-- The table by which an array that is a name is read.
abbrev pub table_of_array : FunctionModel → ArrayTerm-F ArrayTerm Symbol Term → Option Table
table_of_array m (ArrayTerm-F.Name f) = table_where (is_declared f) m
table_of_array m (ArrayTerm-F.Store a i v) = None
table_of_array m (ArrayTerm-F.Const s v) = None
table_of_array m (ArrayTerm-F.Map f parts) = None

-- The table of a store's head, which numbers pairs and array terms by the store's lists, and its value where it has none.
abbrev pub table_of_head : FunctionModel → Lists → Head → Option Table
table_of_head m l head.Zero = None
table_of_head m l (head.Var place) = None
table_of_head m l (head.Truth b) = None
table_of_head m l (head.Declared f) = table_where (is_declared f) m
table_of_head m l (head.Skolem assertion place) = table_where (is_skolem assertion place) m
table_of_head m l (head.Seed s) = table_where (is_seed s) m
table_of_head m l head.Far = table_where is_far m
table_of_head m l (head.Diff k) = if is_full m then table_where (is_difference (pair_at l k).left (pair_at l k).right) m else None
table_of_head m l (head.Read k) = table_of_array m (out-ArrayTerm (array_at l k))
table_of_head m l (head.Default k) = None

abbrev pub untabled_head : FunctionModel → Head → Value
untabled_head m head.Zero = Num (pos 0)
untabled_head m (head.Var place) = Truth false
untabled_head m (head.Truth b) = Truth b
untabled_head m (head.Declared f) = Truth false
untabled_head m (head.Skolem assertion place) = Truth false
untabled_head m (head.Seed s) = Truth false
untabled_head m head.Far = Truth false
untabled_head m (head.Diff k) = if is_full m then Truth false else Num (pos 0)
untabled_head m (head.Read k) = Truth false
untabled_head m (head.Default k) = Truth false

abbrev pub head_gives : FunctionModel → Lists → Head → List Value → Value
head_gives m l head args = given_or (table_of_head m l head) (untabled_head m head) args

-- The head numbers an entry of its list, reads a name, and names no default.
abbrev pub IsTabledHead : Lists → Head → Type 0
IsTabledHead l head.Zero = Unit {0}
IsTabledHead l (head.Var place) = Unit {0}
IsTabledHead l (head.Truth b) = Unit {0}
IsTabledHead l (head.Declared f) = Unit {0}
IsTabledHead l (head.Skolem assertion place) = Unit {0}
IsTabledHead l (head.Seed s) = Unit {0}
IsTabledHead l head.Far = Unit {0}
IsTabledHead l (head.Diff k) = k < length l.arrays.atoms
IsTabledHead l (head.Read k) = (k < length l.arrays.terms) × (is_compound (array_at l k) ≡ false)
IsTabledHead l (head.Default k) = ⊥

-- The tree of a number in a store, and its value at no point.
abbrev pub stored_tree : Store → TermId → Term
stored_tree s id = tree_at (trees_of s.lists s.nodes) id

abbrev pub stored_value : FunctionModel → Store → TermId → Value
stored_value m s id = value_of m (stored_tree s id) nowhere
