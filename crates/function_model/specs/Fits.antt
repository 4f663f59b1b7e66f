-- Which models fit a script (this project's own).
use Rattle.std.specs.Prelude.{◌≡◌, ℕ, ◌≤◌, ◌+◌, true, List, [], ◌∷◌, ◌++◌, length, map, filter, All, Contains}
use Rattle.std.specs.List.{AllZip}
use Rattle.std.specs.Option.{unwrap_or}
use Rattle.std.specs.Ordering.{is_lt, ordering_then}
use Rattle.std.specs.declared.cmp.Ordering.{Ordering}
use Rattle.std.specs.declared.cmp.Ordering.TheVariants.{Less, Equal, Greater}
use Rattle.mbqi_values.specs.Sum.{IsBelow}
use Rattle.mbqi_values.specs.Value.{rank_of}
use Rattle.mbqi_values.specs.declared.value.Value.{Value}
use Rattle.mbqi_values.specs.declared.value.Value.TheVariants.{Num, Elem, Truth}
use Rattle.mbqi_terms.specs.declared.arrays.ArrayPair.{ArrayPair}
use Rattle.mbqi_terms.specs.declared.arrays.SkolemSort.{SkolemSort}
use Rattle.mbqi_terms.specs.declared.script.Function.{Function}
use Rattle.mbqi_terms.specs.declared.script.Script.{Script}
use Rattle.mbqi_terms.specs.declared.sort.Sort.{Sort}
use Rattle.mbqi_terms.specs.declared.sort.Sort.TheVariants as sort
use Rattle.mbqi_terms.specs.declared.store.lists.Lists.{Lists}
use Rattle.mbqi_terms.specs.declared.term.ArrayTerm.{ArrayTerm}
use Rattle.mbqi_terms.specs.Lists.{element_sort, index_sort}
use Rattle.mbqi_terms.specs.ScriptLists.{lists_of, skolems_of}
use Rattle.mbqi_terms.specs.Sort.{plain_sort}
use Rattle.function_model.specs.declared.model.FunctionModel.{FunctionModel}
use Rattle.function_model.specs.declared.model.Row.{Row}
use Rattle.function_model.specs.declared.model.Table.{Table}
use Rattle.function_model.specs.declared.model.TableName.{TableName}
use Rattle.function_model.specs.declared.model.TableName.TheVariants.{Declared, Skolem, Seed, Far, Diff, Default, Read, Same}
use Rattle.function_model.specs.Holds.{IsOf}
use Rattle.function_model.specs.ValueOf.{is_compound}

-- A number is absolutely below 2 ^ 124; other values are as small as their sort.
abbrev pub IsSmall : Value → Type 0
IsSmall (Num n) = IsBelow n 124
IsSmall (Elem e) = Unit {0}
IsSmall (Truth t) = Unit {0}

-- A value that a table may show at a sort.
abbrev pub IsShown : List ℕ → Sort → Value → Type 0
IsShown sizes s v = IsOf sizes s v × IsSmall v

-- Each value has the sort of its place, one for each sort.
abbrev pub AreShown : List ℕ → List Sort → List Value → Type 0
AreShown sizes [] [] = Unit {0}
AreShown sizes (s ∷ ss) (v ∷ vs) = IsShown sizes s v × AreShown sizes ss vs
AreShown sizes [] (v ∷ vs) = ⊥
AreShown sizes (s ∷ ss) [] = ⊥

-- Values of one sort that rise behind a first one.
abbrev pub RiseFrom : List ℕ → Sort → Value → List Value → Type 0
RiseFrom sizes s v [] = Unit {0}
RiseFrom sizes s v (w ∷ ws) = IsShown sizes s w × (is_lt (rank_of v w) ≡ true) × RiseFrom sizes s w ws

-- The knots of one argument: not empty, rising, and of the argument's sort.
abbrev pub AreKnots : List ℕ → Sort → List Value → Type 0
AreKnots sizes s [] = ⊥
AreKnots sizes s (v ∷ vs) = IsShown sizes s v × RiseFrom sizes s v vs

-- Knots for each argument.
abbrev pub HaveKnots : List ℕ → List Sort → List (List Value) → Type 0
HaveKnots sizes [] [] = Unit {0}
HaveKnots sizes (s ∷ ss) (ks ∷ kss) = AreKnots sizes s ks × HaveKnots sizes ss kss
HaveKnots sizes [] (ks ∷ kss) = ⊥
HaveKnots sizes (s ∷ ss) [] = ⊥

-- Each place of a row is a knot of its argument.
abbrev pub StandOn : List (List Value) → List Value → Type 0
StandOn [] [] = Unit {0}
StandOn (ks ∷ kss) (v ∷ vs) = Contains ks v × StandOn kss vs
StandOn [] (v ∷ vs) = ⊥
StandOn (ks ∷ kss) [] = ⊥

-- Places compared from the first on.
abbrev pub rank_of_places : List Value → List Value → Ordering
rank_of_places [] [] = Equal
rank_of_places [] (w ∷ ws) = Less
rank_of_places (v ∷ vs) [] = Greater
rank_of_places (v ∷ vs) (w ∷ ws) = ordering_then (rank_of v w) (rank_of_places vs ws)

-- A row of a table: its places are knots, and its value has the result's sort.
abbrev pub IsRow : List ℕ → List (List Value) → Sort → Row → Type 0
IsRow sizes knots s row = StandOn knots row.places × IsShown sizes s row.value

-- Rows that rise by their places behind a first one.
abbrev pub RowsRiseFrom : List ℕ → List (List Value) → Sort → Row → List Row → Type 0
RowsRiseFrom sizes knots s row [] = Unit {0}
RowsRiseFrom sizes knots s row (next ∷ rows) =
    IsRow sizes knots s next × (is_lt (rank_of_places row.places next.places) ≡ true) × RowsRiseFrom sizes knots s next rows

abbrev pub AreRows : List ℕ → List (List Value) → Sort → List Row → Type 0
AreRows sizes knots s [] = Unit {0}
AreRows sizes knots s (row ∷ rows) = IsRow sizes knots s row × RowsRiseFrom sizes knots s row rows

-- The sorts of a table: an array constant is a table of its index.
abbrev pub places_of : List Sort → Sort → List Sort
places_of args (sort.Array i e) = plain_sort i ∷ []
places_of args sort.Truth = args
places_of args sort.Int = args
places_of args (sort.Elem s) = args

abbrev pub values_of : Sort → Sort
values_of (sort.Array i e) = plain_sort e
values_of sort.Truth = sort.Truth
values_of sort.Int = sort.Int
values_of (sort.Elem s) = sort.Elem s

-- A table of these argument sorts and this result sort.
pub record FitsTable (sizes : List ℕ) (args : List Sort) (result : Sort) (table : Table) : Type 0 where
  pub knots : HaveKnots sizes args table.knots
  pub rows : AreRows sizes table.knots result table.rows
  pub default : IsShown sizes result table.default

-- The name of a table, with the sorts of its arguments and of its values.
pub record Signature : Type 0 where
  pub name : TableName
  pub args : List Sort
  pub result : Sort

pub record FitsSignature (sizes : List ℕ) (signature : Signature) (table : Table) : Type 0 where
  pub name : table.name ≡ signature.name
  pub fits : FitsTable sizes signature.args signature.result table

-- The declared functions in order, from number f on.
abbrev pub function_signature : ℕ → Function → Signature
function_signature f function =
    record { name = Declared f; args = places_of function.args function.result; result = values_of function.result }

abbrev pub function_signatures : ℕ → List Function → List Signature
function_signatures f [] = []
function_signatures f (function ∷ functions) = function_signature f function ∷ function_signatures (f + 1) functions

abbrev pub skolem_signature : SkolemSort → Signature
skolem_signature skolem = record { name = Skolem skolem.assertion skolem.place; args = skolem.args; result = skolem.result }

-- What is shown: the declared functions, and behind them the Skolem symbols by assertion and place.
abbrev pub shown_signatures : Script → List Signature
shown_signatures script = function_signatures 0 script.functions ++ map skolem_signature (skolems_of script)

-- The seed of each declared sort in order, from number s on. The names of the sorts count them.
abbrev pub seed_signatures : ℕ → List (List ℕ) → List Signature
seed_signatures s [] = []
seed_signatures s (name ∷ names) = record { name = Seed s; args = []; result = sort.Elem s } ∷ seed_signatures (s + 1) names

-- The integer past which each array has its default.
abbrev pub far_signature : Signature
far_signature = record { name = Far; args = []; result = sort.Int }

-- The sorts of an array's index and elements by the lists. An array term of a script in form has both.
abbrev pub index_by : Lists → ArrayTerm → Sort
index_by l a = unwrap_or (index_sort l a) sort.Int

abbrev pub element_by : Lists → ArrayTerm → Sort
element_by l a = unwrap_or (element_sort l a) sort.Int

-- The index at which two arrays differ, the default of an array, the reads of a compound array term, and whether two arrays are the same.
abbrev pub difference_signature : Lists → ArrayPair → Signature
difference_signature l pair = record { name = Diff pair.left pair.right; args = []; result = index_by l pair.left }

abbrev pub default_signature : Lists → ArrayTerm → Signature
default_signature l a = record { name = Default a; args = []; result = element_by l a }

abbrev pub read_signature : Lists → ArrayTerm → Signature
read_signature l a = record { name = Read a; args = index_by l a ∷ []; result = element_by l a }

abbrev pub sameness_signature : ArrayPair → Signature
sameness_signature pair = record { name = Same pair.left pair.right; args = []; result = sort.Truth }

-- The hidden names of arrays, kind by kind, each kind in the order of its list.
abbrev pub array_signatures : Lists → List Signature
array_signatures l =
    map (difference_signature l) l.arrays.atoms ++ (map (default_signature l) l.arrays.defaults
    ++ (map (read_signature l) (filter is_compound l.arrays.terms) ++ map sameness_signature l.arrays.atoms))

-- What is hidden: the seeds, the far integer, and behind it the names of the script's arrays.
abbrev pub hidden_signatures : Script → List Signature
hidden_signatures script = seed_signatures 0 script.sorts ++ (far_signature ∷ array_signatures (lists_of script))

-- A shown model fits a script: a size of at least 1 for each declared sort, and a table for each shown name, in order.
pub record Fits (script : Script) (model : FunctionModel) : Type 0 where
  pub sorts : length model.sizes ≡ length script.sorts
  pub sizes : All (λ size. 1 ≤ size) model.sizes
  pub tables : AllZip (FitsSignature model.sizes) (shown_signatures script) model.tables

-- A full model fits a script: it has also a table for each hidden name, behind those of the shown ones.
pub record FitsFull (script : Script) (model : FunctionModel) : Type 0 where
  pub sorts : length model.sizes ≡ length script.sorts
  pub sizes : All (λ size. 1 ≤ size) model.sizes
  pub tables : AllZip (FitsSignature model.sizes) (shown_signatures script ++ hidden_signatures script) model.tables

-- No table without arguments has a row: its default is its value. A model text may show such rows; the models that are made have none.
abbrev pub NoRowsWithoutArguments : FunctionModel → Type 0
NoRowsWithoutArguments model = All (λ table. table.knots ≡ [] → table.rows ≡ []) model.tables
