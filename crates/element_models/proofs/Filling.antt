-- Tables with more rows.
use Rattle.std.proofs.Common.{◌≡◌, ◌≢◌, ℕ, zero, suc, ◌+◌, ◌<◌, ◌≤◌, Bool, true, false, true≢false, List, [], ◌∷◌, ◌++◌, append_assoc, append-nil, length, drop, get_or, refl, ap, sym, subst, ◌∙◌, arith, eq-eqb}
use Rattle.std.specs.Prelude.{All, slice_set, ◌==◌, if◌then◌else◌}
use Rattle.std.specs.List.{AllByRecursion}
use Rattle.std.proofs.lemmas.Bool.{ne_eqb}
use Rattle.std.proofs.lemmas.List.{drop_more}
use Rattle.std.proofs.lemmas.List.Elements.{All-from_recursion, recursion_from_All}
use Rattle.std.proofs.lemmas.Option.{slice_get_within, get_or_from_slice_get}
use Rattle.mbqi_values.specs.declared.value.Value.{Value}
use Rattle.mbqi_values.specs.declared.value.Value.TheVariants as value
use Rattle.mbqi_terms.specs.Distinct.{AreDistinct}
use Rattle.mbqi_terms.specs.declared.script.Function.{Function}
use Rattle.mbqi_terms.specs.declared.sort.Sort.{Sort}
use Rattle.function_model.specs.Rising.{AgreeAtSamePlaces}
use Rattle.function_model.specs.declared.model.Row.{Row}
use Rattle.function_model.specs.declared.model.Table.{Table}
use Rattle.function_model.specs.declared.model.TableName.TheVariants.{Declared}
use Rattle.element_atoms.specs.Profile.{is_constant}
use Rattle.element_atoms.specs.declared.atoms.GroundAtom.{GroundAtom}
use Rattle.element_models.specs.Elements.{knots_of, bare_table, last_value, shown_rows, constant_table, predicate_table, table_for, tables_from, next_element, no_rows}
use Rattle.element_models.specs.Filling.{NamesPredicate, put_in, with_row, with_rows}
use Rattle.element_models.specs.Rows.{row_of, rows_of}
use Rattle.element_models.proofs.AtomRows.{rows_agree}

pub length_with_row : (tables : List Table) (f : ℕ) (row : Row) → length (with_row tables f row) ≡ length tables
length_with_row [] f row = refl
length_with_row (table ∷ tables) zero row = refl
length_with_row (table ∷ tables) (suc f) row = ap suc (length_with_row tables f row)

set_is : (tables : List Table) (f : ℕ) (row : Row) (d : Table) → f < length tables
    → slice_set tables f (put_in (get_or tables f d).knots (get_or tables f d) row) ≡ with_row tables f row
set_is [] f row d h = absurd (omega arith)
set_is (table ∷ tables) zero row d h = refl
set_is (table ∷ tables) (suc f) row d h = ap (λ rest. table ∷ rest) (set_is tables f row d (omega arith))

-- a row put into the table at a place
pub put_at : (tables : List Table) (f : ℕ) (row : Row) (table put : Table) → f < length tables → table ≡ get_or tables f table
    → put ≡ put_in table.knots table row → slice_set tables f put ≡ with_row tables f row
put_at tables f row table put h at is =
    ap (λ (t : Table). slice_set tables f t) is
    ∙ (ap (λ (t : Table). slice_set tables f (put_in t.knots t row)) at ∙ set_is tables f row table h)

-- one turn of the loop over the atoms
pub put_next : (tables : List Table) (atoms : List GroundAtom) (truths : List Bool) (i : ℕ) (atom : GroundAtom) (d : Bool)
    → i < length atoms → i < length truths → atom ≡ get_or atoms i atom
    → with_rows tables (drop i atoms) (drop i truths)
    ≡ with_rows (with_row tables atom.predicate (row_of atom (get_or truths i d))) (drop (i + 1) atoms) (drop (i + 1) truths)
put_next tables atoms truths i atom d h k is =
    let first : drop i atoms ≡ atom ∷ drop (i + 1) atoms = drop_more atoms i atom h ∙ ap (λ x. x ∷ drop (i + 1) atoms) (sym is) in
    let second : drop i truths ≡ get_or truths i d ∷ drop (i + 1) truths = drop_more truths i d k in
    rw (first, second) refl

-- the tables of functions depend on the rows of their own numbers alone
pub alike : (rows others : ℕ → List Row) (f e size : ℕ) (functions : List Function) → ((g : ℕ) → f ≤ g → rows g ≡ others g)
    → tables_from rows f e size functions ≡ tables_from others f e size functions
alike rows others f e size [] same = refl
alike rows others f e size (function ∷ functions) same =
    let head : table_for rows f e size function ≡ table_for others f e size function =
    ap (λ (r : List Row). if is_constant function then constant_table f e else predicate_table r f size function.args) (same f (omega arith)) in
    let tail = alike rows others (f + 1) (next_element function e) size functions (λ g h. same g (omega arith)) in
    λ i. head i ∷ tail i

last_of : (v : Value) (rows : List Row) (row : Row) → last_value v (rows ++ row ∷ []) ≡ row.value
last_of v [] row = refl
last_of v (first ∷ rows) row = last_of first.value rows row

-- one more row of a predicate
put_one : (rows : List Row) (row : Row) (f size : ℕ) (args : List Sort)
    → put_in (knots_of size args) (predicate_table rows f size args) row ≡ predicate_table (rows ++ row ∷ []) f size args
put_one rows row f size [] = ap (bare_table (Declared f)) (sym (last_of (value.Truth false) rows row))
put_one rows row f size (arg ∷ args) = refl

in_predicate : (b : Bool) (rows : List Row) (row : Row) (more : List Row) (f e size : ℕ) (args : List Sort) → b ≡ false → more ≡ rows ++ row ∷ []
    → (let table = if b then constant_table f e else predicate_table rows f size args in put_in table.knots table row)
    ≡ (if b then constant_table f e else predicate_table more f size args)
in_predicate true rows row more f e size args bare is = absurd (true≢false bare)
in_predicate false rows row more f e size args bare is = put_one rows row f size args ∙ ap (λ (r : List Row). predicate_table r f size args) (sym is)

with_row_from : (rows more : ℕ → List Row) (row : Row) (f e size k : ℕ) (functions : List Function) (d : Function) → k < length functions
    → is_constant (get_or functions k d) ≡ false → more (f + k) ≡ rows (f + k) ++ row ∷ []
    → ((g : ℕ) → g ≢ f + k → rows g ≡ more g)
    → with_row (tables_from rows f e size functions) k row ≡ tables_from more f e size functions
with_row_from rows more row f e size k [] d h bare here there = absurd (omega arith)
with_row_from rows more row f e size zero (function ∷ functions) d h bare here there =
    let is : more f ≡ rows f ++ row ∷ [] = let P : ℕ → Type 0 = λ n. more n ≡ rows n ++ row ∷ [] in let n : f + 0 ≡ f = omega arith in subst P n here in
    let head = in_predicate (is_constant function) (rows f) row (more f) f e size function.args bare is in
    let tail = alike rows more (f + 1) (next_element function e) size functions (λ g h. there g (λ (n : g ≡ f + 0). absurd (omega arith))) in
    λ i. head i ∷ tail i
with_row_from rows more row f e size (suc k) (function ∷ functions) d h bare here there =
    let n : f + suc k ≡ f + 1 + k = omega arith in
    let first : rows f ≡ more f = there f (λ (n : f ≡ f + suc k). absurd (omega arith)) in
    let head : table_for rows f e size function ≡ table_for more f e size function =
    ap (λ (r : List Row). if is_constant function then constant_table f e else predicate_table r f size function.args) first in
    let tail = with_row_from rows more row (f + 1) (next_element function e) size k functions d (omega arith) bare
    (let P : ℕ → Type 0 = λ n. more n ≡ rows n ++ row ∷ [] in subst P n here)
    (λ g other. there g (λ (same : g ≡ f + suc k). other (same ∙ n))) in
    λ i. head i ∷ tail i

pub length_tables : (rows : ℕ → List Row) (f e size : ℕ) (functions : List Function) → length (tables_from rows f e size functions) ≡ length functions
length_tables rows f e size [] = refl
length_tables rows f e size (function ∷ functions) = ap suc (length_tables rows (f + 1) (next_element function e) size functions)

-- the rows with those of more atoms
abbrev more_rows : (ℕ → List Row) → List GroundAtom → List Bool → ℕ → List Row
more_rows rows atoms truths f = rows f ++ rows_of atoms truths f

abbrev one_more : (ℕ → List Row) → ℕ → Row → ℕ → List Row
one_more rows p row f = if f == p then rows f ++ row ∷ [] else rows f

step : (b : Bool) (rows later : List Row) (row : Row)
    → (if b then rows ++ row ∷ [] else rows) ++ later ≡ rows ++ (if b then row ∷ later else later)
step true rows later row = append_assoc rows (row ∷ []) later
step false rows later row = refl

all_filled : (rows : ℕ → List Row) (size : ℕ) (functions : List Function) (atoms : List GroundAtom) (truths : List Bool)
    → length truths ≡ length atoms → AllByRecursion (NamesPredicate functions) atoms
    → with_rows (tables_from rows 0 0 size functions) atoms truths ≡ tables_from (more_rows rows atoms truths) 0 0 size functions
all_filled rows size functions [] truths many names =
    alike rows (more_rows rows [] truths) 0 0 size functions (λ g h. sym (append-nil (rows g)))
all_filled rows size functions (atom ∷ atoms) [] many names = absurd (omega (arith, many))
all_filled rows size functions (atom ∷ atoms) (truth ∷ truths) many names =
    let p = atom.predicate in
    let row = row_of atom truth in
    let function = names.0.0 in
    let within = slice_get_within functions p function names.0.1 in
    let named = ap is_constant (get_or_from_slice_get functions p function function names.0.1) ∙ names.0.2 in
    let same : 0 + p ≡ p = omega arith in
    let here : one_more rows p row (0 + p) ≡ rows (0 + p) ++ row ∷ [] =
    ap (λ b. if b then rows (0 + p) ++ row ∷ [] else rows (0 + p)) (eq-eqb (0 + p) p same) in
    let there = λ (g : ℕ) (other : g ≢ 0 + p).
    sym (ap (λ b. if b then rows g ++ row ∷ [] else rows g) (ne_eqb g p (λ (e : g ≡ p). other (e ∙ sym same)))) in
    ap (λ (tables : List Table). with_rows tables atoms truths) (with_row_from rows (one_more rows p row) row 0 0 size p functions function within named here there)
    ∙ (all_filled (one_more rows p row) size functions atoms truths (omega (arith, many)) names.1
    ∙ alike (more_rows (one_more rows p row) atoms truths) (more_rows rows (atom ∷ atoms) (truth ∷ truths)) 0 0 size functions
    (λ g h. step (g == p) (rows g) (rows_of atoms truths g) row))

-- tables without rows, filled with those of atoms
pub filled : (size : ℕ) (functions : List Function) (atoms : List GroundAtom) (truths : List Bool) → length truths ≡ length atoms
    → All (NamesPredicate functions) atoms
    → with_rows (tables_from no_rows 0 0 size functions) atoms truths ≡ tables_from (rows_of atoms truths) 0 0 size functions
filled size functions atoms truths many names =
    all_filled no_rows size functions atoms truths many (recursion_from_All (NamesPredicate functions) atoms names)

-- where the rows of each predicate agree, those of each table do
shown_agree : (rows : List Row) (args : List Sort) → AgreeAtSamePlaces rows → AgreeAtSamePlaces (shown_rows args rows)
shown_agree rows [] agree a b in_a in_b = absurd (omega (arith, in_a.1))
shown_agree rows (arg ∷ args) agree a b in_a in_b = agree a b in_a in_b

agree_in : (b : Bool) (rows : List Row) (f e size : ℕ) (args : List Sort) → AgreeAtSamePlaces rows
    → AgreeAtSamePlaces (if b then constant_table f e else predicate_table rows f size args).rows
agree_in true rows f e size args agree a b in_a in_b = absurd (omega (arith, in_a.1))
agree_in false rows f e size args agree a b in_a in_b = shown_agree rows args agree a b in_a in_b

each_agrees : (rows : ℕ → List Row) (f e size : ℕ) (functions : List Function) → ((g : ℕ) → AgreeAtSamePlaces (rows g))
    → AllByRecursion (λ table. AgreeAtSamePlaces table.rows) (tables_from rows f e size functions)
each_agrees rows f e size [] agree = tt
each_agrees rows f e size (function ∷ functions) agree =
    (agree_in (is_constant function) (rows f) f e size function.args (agree f), each_agrees rows (f + 1) (next_element function e) size functions agree)

pub tables_agree : (size : ℕ) (functions : List Function) (atoms : List GroundAtom) (truths : List Bool) → AreDistinct atoms
    → All (λ table. AgreeAtSamePlaces table.rows) (tables_from (rows_of atoms truths) 0 0 size functions)
tables_agree size functions atoms truths distinct =
    All-from_recursion (λ table. AgreeAtSamePlaces table.rows) (tables_from (rows_of atoms truths) 0 0 size functions)
    (each_agrees (rows_of atoms truths) 0 0 size functions (λ f. rows_agree atoms truths f distinct))
