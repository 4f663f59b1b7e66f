-- What the tables of the functions give: an element for each constant, and the rows of each predicate.
use Rattle.std.proofs.Common.{◌≡◌, ℕ, zero, suc, ◌+◌, ◌<◌, ◌≤◌, Bool, true, false, List, [], ◌∷◌, length, get_or, refl, ap, sym, ◌∙◌, cond, arith}
use Rattle.std.specs.Prelude.{◌==◌, if◌then◌else◌, Option, Some}
use Rattle.std.specs.List.{AllZip, find}
use Rattle.std.proofs.lemmas.Bool.{eq-eqb, ne_eqb}
use Rattle.mbqi_values.specs.declared.value.Value.{Value}
use Rattle.mbqi_values.specs.declared.value.Value.TheVariants as value
use Rattle.mbqi_terms.specs.declared.script.Function.{Function}
use Rattle.mbqi_terms.specs.declared.sort.Sort.{Sort}
use Rattle.mbqi_terms.specs.declared.term.Term.{Term}
use Rattle.function_model.specs.Lookup.{value_at, looked_up, looked_up_in, is_declared}
use Rattle.function_model.specs.declared.model.Row.{Row}
use Rattle.function_model.specs.declared.model.Table.{Table}
use Rattle.element_atoms.specs.Profile.{is_constant, constant, constants_from}
use Rattle.element_models.specs.Elements.{constant_table, predicate_table, next_element, table_for, tables_from}
use Rattle.element_models.specs.Filling.{IsRaised}

-- The table of a declared function.
abbrev pub table_of : ℕ → List Table → Option Table
table_of g tables = find (λ table. is_declared g table.name) tables

-- tables that were brought into order give the same
raised_gives : (given raised : Table) (args : List Value) → IsRaised given raised → looked_up_in raised args ≡ looked_up_in given args
raised_gives given raised args is =
    is.same raised.knots args raised.default
    ∙ (ap (λ knots. value_at given.rows knots args raised.default) is.knots ∙ ap (value_at given.rows given.knots args) is.default)

first_or : (b : Bool) (given raised : Table) (x y : Option Table) (args : List Value)
    → looked_up_in raised args ≡ looked_up_in given args → looked_up y args ≡ looked_up x args
    → looked_up (cond b (Some raised) y) args ≡ looked_up (cond b (Some given) x) args
first_or true given raised x y args first later = first
first_or false given raised x y args first later = later

pub raised_give : (g : ℕ) (args : List Value) (given raised : List Table) → AllZip IsRaised given raised
    → looked_up (table_of g raised) args ≡ looked_up (table_of g given) args
raised_give g args [] [] each = refl
raised_give g args [] (r ∷ raised) each = absurd each
raised_give g args (t ∷ given) [] each = absurd each
raised_give g args (t ∷ given) (r ∷ raised) each =
    ap (λ name. looked_up (cond (is_declared g name) (Some r) (table_of g raised)) args) each.0.name
    ∙ first_or (is_declared g t.name) t r (table_of g given) (table_of g raised) args (raised_gives t r args each.0)
    (raised_give g args given raised each.1)

-- the name of a function's table
named : (b : Bool) (rows : List Row) (f e size g : ℕ) (args : List Sort)
    → is_declared g (if b then constant_table f e else predicate_table rows f size args).name ≡ (g == f)
named true rows f e size g args = refl
named false rows f e size g args = refl

module _ (rows : ℕ → List Row) (size : ℕ) where
  -- the first table has the number
  here : (f e g : ℕ) (function : Function) (tables : List Table) → g ≡ f
      → table_of g (table_for rows f e size function ∷ tables) ≡ Some (table_for rows f e size function)
  here f e g function tables is =
      ap (λ b. cond b (Some (table_for rows f e size function)) (table_of g tables))
      (named (is_constant function) (rows f) f e size g function.args ∙ eq-eqb g f is)

  later : (f e g : ℕ) (function : Function) (tables : List Table) → f < g
      → table_of g (table_for rows f e size function ∷ tables) ≡ table_of g tables
  later f e g function tables other =
      ap (λ b. cond b (Some (table_for rows f e size function)) (table_of g tables))
      (named (is_constant function) (rows f) f e size g function.args ∙ ne_eqb g f (λ (s : g ≡ f). absurd (omega arith)))

  pub predicate_found : (f e k : ℕ) (functions : List Function) (d : Function) → k < length functions → is_constant (get_or functions k d) ≡ false
      → table_of (f + k) (tables_from rows f e size functions) ≡ Some (predicate_table (rows (f + k)) (f + k) size (get_or functions k d).args)
  predicate_found f e k [] d h is = absurd (omega arith)
  predicate_found f e zero (function ∷ functions) d h is =
      let at : f + 0 ≡ f = omega arith in
      here f e (f + 0) function (tables_from rows (f + 1) (next_element function e) size functions) at
      ∙ (ap (λ b. Some (if b then constant_table f e else predicate_table (rows f) f size function.args)) is
      ∙ ap (λ g. Some (predicate_table (rows g) g size function.args)) (sym at))
  predicate_found f e (suc k) (function ∷ functions) d h is =
      let at : f + 1 + k ≡ f + suc k = omega arith in
      later f e (f + suc k) function (tables_from rows (f + 1) (next_element function e) size functions) (omega arith)
      ∙ (ap (λ g. table_of g (tables_from rows (f + 1) (next_element function e) size functions)) (sym at)
      ∙ (predicate_found (f + 1) (next_element function e) k functions d (omega arith) is
      ∙ ap (λ g. Some (predicate_table (rows g) g size (get_or functions k d).args)) at))

  -- the constant of a number among the constants has that number's element
  abbrev IsElement : ℕ → ℕ → List Function → ℕ → Term → Type 0
  IsElement f e functions k t =
      (c : ℕ) × (f ≤ c) × (t ≡ constant c) × (looked_up (table_of c (tables_from rows f e size functions)) [] ≡ value.Elem (e + k))

  next_is : (b : Bool) (function : Function) (e : ℕ) → is_constant function ≡ b → next_element function e ≡ (if b then e + 1 else e)
  next_is b function e is = ap (λ b. if b then e + 1 else e) is

  behind : (f e k n : ℕ) (function : Function) (functions : List Function) (t : Term) → next_element function e + k ≡ e + n
      → IsElement (f + 1) (next_element function e) functions k t → IsElement f e (function ∷ functions) n t
  behind f e k n function functions t at found = (
    found.0,
    omega (arith, found.1),
    found.2,
    ap (λ table. looked_up table []) (later f e found.0 function (tables_from rows (f + 1) (next_element function e) size functions) (omega (arith, found.1)))
        ∙ (found.3 ∙ ap value.Elem at),
  )

  among : (b : Bool) (f e k : ℕ) (function : Function) (functions : List Function) (d : Term) → is_constant function ≡ b
      → ((k : ℕ) → k < length (constants_from (f + 1) functions)
      → IsElement (f + 1) (next_element function e) functions k (get_or (constants_from (f + 1) functions) k d))
      → k < length (if b then constant f ∷ constants_from (f + 1) functions else constants_from (f + 1) functions)
      → IsElement f e (function ∷ functions) k (get_or (if b then constant f ∷ constants_from (f + 1) functions else constants_from (f + 1) functions) k d)
  among true f e zero function functions d is rest h = (
    f,
    omega arith,
    refl,
    ap (λ table. looked_up table []) (here f e f function (tables_from rows (f + 1) (next_element function e) size functions) refl)
        ∙ (ap (λ b. looked_up (Some (if b then constant_table f e else predicate_table (rows f) f size function.args)) []) is
        ∙ (let at : e ≡ e + 0 = omega arith in ap value.Elem at)),
  )
  among true f e (suc k) function functions d is rest h =
      behind f e k (suc k) function functions (get_or (constants_from (f + 1) functions) k d) (omega (arith, next_is true function e is)) (rest k (omega arith))
  among false f e k function functions d is rest h =
      behind f e k k function functions (get_or (constants_from (f + 1) functions) k d) (omega (arith, next_is false function e is)) (rest k h)

  pub constant_found : (f e k : ℕ) (functions : List Function) (d : Term) → k < length (constants_from f functions)
      → IsElement f e functions k (get_or (constants_from f functions) k d)
  constant_found f e k [] d h = absurd (omega arith)
  constant_found f e k (function ∷ functions) d h =
      among (is_constant function) f e k function functions d refl
      (λ k h. constant_found (f + 1) (next_element function e) k functions d h) h
