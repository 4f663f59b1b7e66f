-- Values of atoms in a model that fits.
use Rattle.std.proofs.Common.{◌≡◌, ℕ, zero, suc, Bool, true, false, List, [], ◌∷◌, ◌++◌, map, refl, sym, ap, subst, ◌∙◌}
use Rattle.std.specs.Prelude.{◌+◌, ◌==◌, Some, slice_get, find}
use Rattle.std.proofs.Common.{rules}
use Rattle.std.specs.List.{AllZip}
use Rattle.mbqi_values.specs.declared.value.Value.{Value}
use Rattle.mbqi_values.specs.declared.value.Value.TheVariants.{Num, Elem, Truth}
use Rattle.mbqi_terms.specs.declared.script.Function.{Function}
use Rattle.mbqi_terms.specs.declared.script.Script.{Script}
use Rattle.mbqi_terms.specs.declared.sort.Sort.{Sort}
use Rattle.mbqi_terms.specs.declared.sort.Sort.TheVariants as sort
use Rattle.mbqi_terms.specs.declared.term.Term.{Term}
use Rattle.function_model.specs.Fits.{IsShown, AreRows, RowsRiseFrom, Fits, FitsSignature, Signature, function_signature, function_signatures, skolem_signature}
use Rattle.function_model.specs.Lookup.{is_at, value_at, looked_up_in, looked_up, is_declared}
use Rattle.function_model.specs.ValueOf.{Point, value_of}
use Rattle.function_model.specs.declared.model.FunctionModel.{FunctionModel}
use Rattle.function_model.specs.declared.model.Row.{Row}
use Rattle.function_model.specs.declared.model.Table.{Table}
use Rattle.function_model.proofs.Values.{value_apply}
use Rattle.mbqi_terms.specs.ScriptLists.{skolems_of}
use Rattle.element_atoms.specs.Profile.{IsAtom}
use Rattle.std.proofs.Common.{arith, cond}

-- a row's value and the default have the result's sort
abbrev HaveSort : List ℕ → Sort → List Row → Type 0
HaveSort sizes s [] = Unit {0}
HaveSort sizes s (row ∷ rows) = IsShown sizes s row.value × HaveSort sizes s rows

rest_have : (sizes : List ℕ) (knots : List (List Value)) (s : Sort) (row : Row) (rows : List Row) → RowsRiseFrom sizes knots s row rows → HaveSort sizes s rows
rest_have sizes knots s row [] h = tt
rest_have sizes knots s row (next ∷ rows) h = (h.0.1, rest_have sizes knots s next rows h.2)

rows_have : (sizes : List ℕ) (knots : List (List Value)) (s : Sort) (rows : List Row) → AreRows sizes knots s rows → HaveSort sizes s rows
rows_have sizes knots s [] h = tt
rows_have sizes knots s (row ∷ rows) h = (h.0.1, rest_have sizes knots s row rows h.1)

either : (P : Value → Type 0) (b : Bool) (v w : Value) → P v → P w → P (cond b v w)
either P true v w p q = p
either P false v w p q = q

value_has : (sizes : List ℕ) (s : Sort) (rows : List Row) (knots : List (List Value)) (args : List Value) (default : Value)
    → HaveSort sizes s rows → IsShown sizes s default → IsShown sizes s (value_at rows knots args default)
value_has sizes s [] knots args default h d = d
value_has sizes s (row ∷ rows) knots args default h d =
    either (IsShown sizes s) (is_at row.places knots args) row.value (value_at rows knots args default) h.0 (value_has sizes s rows knots args default h.1 d)

-- the table of a function that a model has
abbrev HasTable : List ℕ → ℕ → ℕ → Function → List Table → Type 0
HasTable sizes f k function tables =
    (table : Table) × (find (λ (t : Table). is_declared k t.name) tables ≡ Some table) × FitsSignature sizes (function_signature k function) table

same_number : (k : ℕ) → (k == k) ≡ true
same_number k = search (rules, arith)

here : (sizes : List ℕ) (f : ℕ) (function : Function) (table : Table) (tables : List Table) → FitsSignature sizes (function_signature f function) table
    → find (λ (t : Table). is_declared f t.name) (table ∷ tables) ≡ Some table
here sizes f function table tables fits =
    let e : is_declared f table.name ≡ true = ap (is_declared f) fits.name ∙ same_number f in
    ap (λ b. cond b (Some table) (find (λ (t : Table). is_declared f t.name) tables)) e

later : (sizes : List ℕ) (f k : ℕ) (function : Function) (table : Table) (tables : List Table) → FitsSignature sizes (function_signature f function) table → (k == f) ≡ false
    → find (λ (t : Table). is_declared k t.name) (table ∷ tables) ≡ find (λ (t : Table). is_declared k t.name) tables
later sizes f k function table tables fits other =
    let e : is_declared k table.name ≡ false = ap (is_declared k) fits.name ∙ other in
    ap (λ b. cond b (Some table) (find (λ (t : Table). is_declared k t.name) tables)) e

-- it stands among those of the declared functions, whatever is asked behind them
table_there : (sizes : List ℕ) (f i : ℕ) (functions : List Function) (behind : List Signature) (tables : List Table) (function : Function)
    → AllZip (FitsSignature sizes) (function_signatures f functions ++ behind) tables → slice_get functions i ≡ Some function
    → HasTable sizes f (f + i) function tables
table_there sizes f i [] behind tables function fits there = cc
table_there sizes f i (first ∷ functions) behind [] function fits there = absurd fits
table_there sizes f zero (first ∷ functions) behind (table ∷ tables) function fits there =
    let e : first ≡ function = cc in
    let n : f ≡ f + zero = omega arith in
    let P : Function → Type 0 = λ g. HasTable sizes f f g (table ∷ tables) in
    let Q : ℕ → Type 0 = λ k. HasTable sizes f k function (table ∷ tables) in
    subst Q n (subst P e (table, here sizes f first table tables fits.0, fits.0))
table_there sizes f (suc i) (first ∷ functions) behind (table ∷ tables) function fits there =
    let rest : HasTable sizes (f + 1) (f + 1 + i) function tables = table_there sizes (f + 1) i functions behind tables function fits.1 there in
    let n : f + 1 + i ≡ f + suc i = omega arith in
    let Q : ℕ → Type 0 = λ k. HasTable sizes f k function (table ∷ tables) in
    let other : (f + 1 + i == f) ≡ false = search (rules, arith) in
    subst Q n (rest.0, later sizes f (f + 1 + i) first table tables fits.0 other ∙ rest.1, rest.2)

-- the value of a predicate's table is a truth
abbrev pub IsTruth : Value → Type 0
IsTruth v = (b : Bool) × (v ≡ Truth b)

truth_shown : (sizes : List ℕ) (v : Value) → IsShown sizes sort.Truth v → IsTruth v
truth_shown sizes (Truth b) h = (b, refl)
truth_shown sizes (Num n) h = absurd h.0
truth_shown sizes (Elem e) h = absurd h.0

predicate_values : (sizes : List ℕ) (k : ℕ) (name : List ℕ) (args : List Sort) (table : Table) (vs : List Value)
    → FitsSignature sizes (function_signature k (record { name = name; args = args; result = sort.Truth })) table → IsTruth (looked_up_in table vs)
predicate_values sizes k name args table vs fits =
    truth_shown sizes (looked_up_in table vs) (value_has sizes sort.Truth table.rows table.knots vs table.default
    (rows_have sizes table.knots sort.Truth table.rows fits.fits.rows) fits.fits.default)

found_value : (sizes : List ℕ) (k : ℕ) (name : List ℕ) (args : List Sort) (result : Sort) (table : Table) (vs : List Value) → result ≡ sort.Truth
    → FitsSignature sizes (function_signature k (record { name = name; args = args; result = result })) table → IsTruth (looked_up_in table vs)
found_value sizes k name args result table vs e fits =
    let P : Sort → Type 0 = λ s. FitsSignature sizes (function_signature k (record { name = name; args = args; result = s })) table in
    predicate_values sizes k name args table vs (subst P e fits)

-- an atom has a truth in a model that fits
pub atom_value : (script : Script) (m : FunctionModel) (p : Point) (IsArg : Term → Type 0) (t : Term) → Fits script m → IsAtom script.functions IsArg t
    → IsTruth (value_of m t p)
atom_value script m p IsArg t fits is =
    let values : List Value = map (λ (u : Term). value_of m u p) is.2 in
    let n : 0 + is.0 ≡ is.0 = omega arith in
    let has : HasTable m.sizes 0 is.0 is.1 m.tables =
    subst (λ k. HasTable m.sizes 0 k is.1 m.tables) n (table_there m.sizes 0 is.0 script.functions (map skolem_signature (skolems_of script)) m.tables is.1 fits.tables is.4) in
    let e : value_of m t p ≡ looked_up_in has.0 values =
    ap (λ u. value_of m u p) is.3 ∙ (value_apply m p is.0 is.2 ∙ ap (λ o. looked_up o values) has.1) in
    subst IsTruth (sym e) (found_value m.sizes is.0 is.1.name is.1.args is.1.result has.0 values is.5.0 has.2)
