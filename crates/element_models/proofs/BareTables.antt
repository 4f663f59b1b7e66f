-- Tables without arguments: they have no rows, and the default is what the rows would give.
use Rattle.std.proofs.Common.{◌≡◌, ℕ, zero, suc, ◌+◌, Bool, true, false, List, [], ◌∷◌, ◌++◌, length, refl, ap, sym, ◌∙◌, arith}
use Rattle.std.specs.Prelude.{All, Contains, if◌then◌else◌}
use Rattle.std.specs.List.{AllByRecursion, AllZip}
use Rattle.std.proofs.lemmas.List.Elements.{All-from_recursion}
use Rattle.mbqi_values.specs.declared.value.Value.{Value}
use Rattle.mbqi_values.specs.declared.value.Value.TheVariants as value
use Rattle.mbqi_terms.specs.declared.script.Function.{Function}
use Rattle.mbqi_terms.specs.declared.sort.Sort.{Sort}
use Rattle.mbqi_terms.specs.declared.sort.Sort.TheVariants as sort
use Rattle.function_model.specs.Fits.{IsRow, IsShown, StandOn}
use Rattle.function_model.specs.Lookup.{is_at, value_at, looked_up_in}
use Rattle.function_model.specs.Rising.{AgreeAtSamePlaces}
use Rattle.function_model.specs.declared.model.Row.{Row}
use Rattle.function_model.specs.declared.model.Table.{Table}
use Rattle.element_atoms.specs.Profile.{is_constant}
use Rattle.element_models.specs.Elements.{knots_of, last_value, shown_rows, default_of, constant_table, predicate_table, next_element, tables_from, hidden_from}
use Rattle.element_models.specs.Filling.{IsRaised}

-- A table without arguments has no rows.
abbrev pub IsBare : Table → Type 0
IsBare table = table.knots ≡ [] → table.rows ≡ []

-- the rows that are shown are some of all
pub shown_are : (P : Row → Type 0) (args : List Sort) (rows : List Row) → AllByRecursion P rows → AllByRecursion P (shown_rows args rows)
shown_are P [] rows all = tt
shown_are P (arg ∷ args) rows all = all

-- the default is a truth
last_is_shown : (size : ℕ) (knots : List (List Value)) (v : Value) (rows : List Row) → IsShown (size ∷ []) sort.Truth v
    → AllByRecursion (IsRow (size ∷ []) knots sort.Truth) rows → IsShown (size ∷ []) sort.Truth (last_value v rows)
last_is_shown size knots v [] is all = is
last_is_shown size knots v (row ∷ rows) is all = last_is_shown size knots row.value rows all.0.1 all.1

pub default_is_shown : (size : ℕ) (knots : List (List Value)) (args : List Sort) (rows : List Row)
    → AllByRecursion (IsRow (size ∷ []) knots sort.Truth) rows → IsShown (size ∷ []) sort.Truth (default_of args rows)
default_is_shown size knots [] rows all = last_is_shown size knots (value.Truth false) rows (tt, tt) all
default_is_shown size knots (arg ∷ args) rows all = (tt, tt)

-- rows at no places that agree have one value, which the default is
same_value : (v : Value) (rows : List Row) → AllByRecursion (λ row. row.value ≡ v) rows → last_value v rows ≡ v
same_value v [] all = refl
same_value v (row ∷ rows) all = ap (λ w. last_value w rows) all.0 ∙ same_value v rows all.1

each_same : (row : Row) (all rows : List Row) → AgreeAtSamePlaces all → Contains all row → row.places ≡ []
    → ((other : Row) → Contains rows other → Contains all other) → AllByRecursion (λ row. row.places ≡ []) rows
    → AllByRecursion (λ other. other.value ≡ row.value) rows
each_same row all [] agree there bare among each = tt
each_same row all (other ∷ rows) agree there bare among each = (
  agree other row (among other (0, omega arith, refl)) there (each.0 ∙ sym bare),
  each_same row all rows agree there bare (λ o c. among o (suc c.0, omega (arith, c.1), c.2)) each.1,
)

last_is_first : (rows : List Row) (default : Value) → AllByRecursion (λ row. row.places ≡ []) rows → AgreeAtSamePlaces rows
    → last_value default rows ≡ value_at rows [] [] default
last_is_first [] default each agree = refl
last_is_first (row ∷ rows) default each agree =
    same_value row.value rows
    (each_same row (row ∷ rows) rows agree (0, omega arith, refl) each.0 (λ o c. (suc c.0, omega (arith, c.1), c.2)) each.1)
    ∙ ap (λ (places : List Value). if is_at places [] [] then row.value else value_at rows [] [] default) (sym each.0)

stands_nowhere : (places : List Value) → StandOn [] places → places ≡ []
stands_nowhere [] on = refl
stands_nowhere (place ∷ places) on = absurd on

at_no_places : (size : ℕ) (rows : List Row) → AllByRecursion (IsRow (size ∷ []) [] sort.Truth) rows → AllByRecursion (λ row. row.places ≡ []) rows
at_no_places size [] all = tt
at_no_places size (row ∷ rows) all = (stands_nowhere row.places all.0.0, at_no_places size rows all.1)

-- a predicate's table gives what its rows would give
pub predicate_gives : (rows : List Row) (f size : ℕ) (args : List Sort) (values : List Value) → length values ≡ length args
    → AllByRecursion (IsRow (size ∷ []) (knots_of size args) sort.Truth) rows → AgreeAtSamePlaces rows
    → looked_up_in (predicate_table rows f size args) values ≡ value_at rows (knots_of size args) values (value.Truth false)
predicate_gives rows f size [] [] many all agree = last_is_first rows (value.Truth false) (at_no_places size rows all) agree
predicate_gives rows f size [] (v ∷ values) many all agree = absurd (omega (arith, many))
predicate_gives rows f size (arg ∷ args) values many all agree = refl

-- the tables without arguments have no rows, also once the rows are in order
none_contained : (rows : List Row) → ((row : Row) → Contains rows row → ⊥) → rows ≡ []
none_contained [] none = refl
none_contained (row ∷ rows) none = absurd (none row (0, omega arith, refl))

raised_is_bare : (given raised : Table) → IsRaised given raised → IsBare given → IsBare raised
raised_is_bare given raised is bare empty =
    let none : given.rows ≡ [] = bare (sym is.knots ∙ empty) in
    none_contained raised.rows
    (λ row c.
    let there = (is.contains row).0 c in
    absurd (omega (arith, there.1, ap length none)))

predicate_is_bare : (rows : List Row) (f size : ℕ) (args : List Sort) → IsBare (predicate_table rows f size args)
predicate_is_bare rows f size [] empty = refl
predicate_is_bare rows f size (arg ∷ args) empty = absurd (omega (arith, ap length empty))

table_is_bare : (b : Bool) (rows : List Row) (f e size : ℕ) (args : List Sort)
    → IsBare (if b then constant_table f e else predicate_table rows f size args)
table_is_bare true rows f e size args empty = refl
table_is_bare false rows f e size args empty = predicate_is_bare rows f size args empty

declared_are_bare : (rows : ℕ → List Row) (f e size : ℕ) (functions : List Function) (raised : List Table)
    → AllZip IsRaised (tables_from rows f e size functions) raised → (hidden : List Table) → AllByRecursion IsBare hidden
    → AllByRecursion IsBare (raised ++ hidden)
declared_are_bare rows f e size [] [] each hidden last = last
declared_are_bare rows f e size [] (r ∷ raised) each hidden last = absurd each
declared_are_bare rows f e size (function ∷ functions) [] each hidden last = absurd each
declared_are_bare rows f e size (function ∷ functions) (r ∷ raised) each hidden last = (
  raised_is_bare (if is_constant function then constant_table f e else predicate_table (rows f) f size function.args) r each.0
      (table_is_bare (is_constant function) (rows f) f e size function.args),
  declared_are_bare rows (f + 1) (next_element function e) size functions raised each.1 hidden last,
)

hidden_are_bare : (e s n : ℕ) → AllByRecursion IsBare (hidden_from e s n)
hidden_are_bare e s zero = (λ empty. refl, tt)
hidden_are_bare e s (suc n) = (λ empty. refl, hidden_are_bare e (s + 1) n)

pub all_are_bare : (rows : ℕ → List Row) (size e sorts : ℕ) (functions : List Function) (raised : List Table)
    → AllZip IsRaised (tables_from rows 0 0 size functions) raised → All IsBare (raised ++ hidden_from e 0 sorts)
all_are_bare rows size e sorts functions raised each =
    All-from_recursion IsBare (raised ++ hidden_from e 0 sorts)
    (declared_are_bare rows 0 0 size functions raised each (hidden_from e 0 sorts) (hidden_are_bare e 0 sorts))
