-- A model that fits a script is sound, and gives values of the script's sorts.
use Rattle.std.proofs.Common.{◌≡◌, ℕ, zero, suc, ◌+◌, Bool, true, false, cond, ◌==◌, ◌&&◌, List, [], ◌∷◌, ◌++◌, map, append-nil, append_assoc, zero-add, eq-eqb, ne_eqb, if◌then◌else◌, refl, ap, sym, subst, ◌∙◌, arith}
use Rattle.std.specs.Prelude.{All, None, Some, filter, find, slice_get}
use Rattle.std.specs.List.{AllByRecursion, AllZip}
use Rattle.std.proofs.lemmas.Cmp.{nat_eq_equiv}
use Rattle.std.proofs.lemmas.List.Elements.{All-cons, All-head, All-nil, All-tail}
use Rattle.mbqi_values.specs.declared.value.Value.{Value}
use Rattle.mbqi_terms.specs.declared.arrays.SkolemSort.{SkolemSort}
use Rattle.mbqi_terms.specs.declared.script.Function.{Function}
use Rattle.mbqi_terms.specs.declared.script.Script.{Script}
use Rattle.mbqi_terms.specs.declared.sort.Sort.{Sort}
use Rattle.mbqi_terms.specs.declared.store.lists.Lists.{Lists}
use Rattle.mbqi_terms.specs.InForm.{plain_lists}
use Rattle.mbqi_terms.specs.Lists.{skolem_of}
use Rattle.mbqi_terms.specs.ScriptLists.{lists_of, skolems_of}
use Rattle.function_model.specs.Fits.{AreRows, Fits, FitsFull, FitsSignature, FitsTable, HaveKnots, IsRow, IsSmall, RiseFrom, RowsRiseFrom, Signature, StandOn, array_signatures, default_signature, difference_signature, far_signature, function_signature, function_signatures, hidden_signatures, places_of, read_signature, sameness_signature, seed_signatures, skolem_signature, values_of}
use Rattle.function_model.specs.Holds.{IsOf}
use Rattle.function_model.specs.Lookup.{given_by, is_at, is_declared, is_skolem, looked_up, looked_up_in, value_at}
use Rattle.function_model.specs.Rising.{RowsRise}
use Rattle.function_model.specs.Sound.{GivesSorts, IsSound, IsSoundTable, KnotsRise}
use Rattle.function_model.specs.ValueOf.{is_compound}
use Rattle.function_model.specs.declared.model.FunctionModel.{FunctionModel}
use Rattle.function_model.specs.declared.model.Row.{Row}
use Rattle.function_model.specs.declared.model.Table.{Table}
use Rattle.function_model.specs.declared.model.TableName.{TableName}
use Rattle.function_model.specs.declared.model.TableName.TheVariants.{Declared, Skolem, Seed, Far, Diff, Default, Read, Same}

-- one table
module _ (sizes : List ℕ) where
  rises : (s : Sort) (v : Value) (vs : List Value) → RiseFrom sizes s v vs → KnotsRise (v ∷ vs)
  rises s v [] up = tt
  rises s v (w ∷ ws) up = (up.1, rises s w ws up.2)

  small_behind : (s : Sort) (v : Value) (vs : List Value) → RiseFrom sizes s v vs → All IsSmall vs
  small_behind s v [] up = All-nil IsSmall
  small_behind s v (w ∷ ws) up = All-cons IsSmall w ws up.0.1 (small_behind s w ws up.2)

  knots_rise : (args : List Sort) (kss : List (List Value)) → HaveKnots sizes args kss → All KnotsRise kss
  knots_rise [] [] fit = All-nil KnotsRise
  knots_rise [] (ks ∷ kss) fit = absurd fit
  knots_rise (s ∷ ss) [] fit = absurd fit
  knots_rise (s ∷ ss) ([] ∷ kss) fit = absurd fit.0
  knots_rise (s ∷ ss) ((v ∷ vs) ∷ kss) fit = All-cons KnotsRise (v ∷ vs) kss (rises s v vs fit.0.1) (knots_rise ss kss fit.1)

  small_knots : (args : List Sort) (kss : List (List Value)) → HaveKnots sizes args kss → All (All IsSmall) kss
  small_knots [] [] fit = All-nil (All IsSmall)
  small_knots [] (ks ∷ kss) fit = absurd fit
  small_knots (s ∷ ss) [] fit = absurd fit
  small_knots (s ∷ ss) ([] ∷ kss) fit = absurd fit.0
  small_knots (s ∷ ss) ((v ∷ vs) ∷ kss) fit =
      All-cons (All IsSmall) (v ∷ vs) kss (All-cons IsSmall v vs fit.0.0.1 (small_behind s v vs fit.0.1)) (small_knots ss kss fit.1)

  module _ (knots : List (List Value)) (s : Sort) where
    rise_behind : (row : Row) (rows : List Row) → RowsRiseFrom sizes knots s row rows → RowsRise (row ∷ rows)
    rise_behind row [] up = tt
    rise_behind row (next ∷ rows) up = (up.1, rise_behind next rows up.2)

    rows_rise : (rows : List Row) → AreRows sizes knots s rows → RowsRise rows
    rows_rise [] fit = tt
    rows_rise (row ∷ rows) fit = rise_behind row rows fit.1

    module _ (P : Row → Type 0) (each : (row : Row) → IsRow sizes knots s row → P row) where
      all_behind : (row : Row) (rows : List Row) → RowsRiseFrom sizes knots s row rows → All P rows
      all_behind row [] up = All-nil P
      all_behind row (next ∷ rows) up = All-cons P next rows (each next up.0) (all_behind next rows up.2)

      all_rows : (rows : List Row) → AreRows sizes knots s rows → All P rows
      all_rows [] fit = All-nil P
      all_rows (row ∷ rows) fit = All-cons P row rows (each row fit.0) (all_behind row rows fit.1)

  table_sound : (args : List Sort) (s : Sort) (table : Table) → FitsTable sizes args s table → IsSoundTable table
  table_sound args s table fit = record {
    knots = knots_rise args table.knots fit.knots;
    small_knots = small_knots args table.knots fit.knots;
    places = all_rows table.knots s (λ (row : Row). StandOn table.knots row.places) (λ row is. is.0) table.rows fit.rows;
    rise = rows_rise table.knots s table.rows fit.rows;
    small_values = all_rows table.knots s (λ (row : Row). IsSmall row.value) (λ row is. is.1.1) table.rows fit.rows;
    small_default = fit.default.1;
  }

  -- what it gives has its sort
  module _ (s : Sort) (knots : List (List Value)) (vs : List Value) (default : Value) (of_sort : IsOf sizes s default) where
    abbrev HasValue : Row → Type 0
    HasValue row = IsOf sizes s row.value

    given_of_sort : (rows : List Row) → All HasValue rows → IsOf sizes s (value_at rows knots vs default)
    given_of_sort [] all = of_sort
    given_of_sort (row ∷ rows) all = by (is_at row.places knots vs) (given_of_sort rows (All-tail HasValue row rows all))
      where
        by : (b : Bool) → IsOf sizes s (value_at rows knots vs default) → IsOf sizes s (if b then row.value else value_at rows knots vs default)
        by true rest = All-head HasValue row rows all
        by false rest = rest

  table_of_sort : (args : List Sort) (s : Sort) (table : Table) → FitsTable sizes args s table → (vs : List Value) → IsOf sizes s (looked_up_in table vs)
  table_of_sort args s table fit vs =
      given_of_sort s table.knots vs table.default fit.default.0 table.rows
      (all_rows table.knots s (λ (row : Row). IsOf sizes s row.value) (λ row is. is.1.0) table.rows fit.rows)

-- names that aren't those of declared functions
abbrev IsUndeclared : TableName → Type 0
IsUndeclared (Declared f) = ⊥
IsUndeclared (Skolem assertion place) = Unit {0}
IsUndeclared (Seed s) = Unit {0}
IsUndeclared Far = Unit {0}
IsUndeclared (Diff a b) = Unit {0}
IsUndeclared (Default a) = Unit {0}
IsUndeclared (Read a) = Unit {0}
IsUndeclared (Same a b) = Unit {0}

abbrev NoneDeclared : List Signature → Type 0
NoneDeclared signatures = AllByRecursion (λ (signature : Signature). IsUndeclared signature.name) signatures

none_in_map : {A : Type 0} (f : A → Signature) → ((a : A) → IsUndeclared (f a).name) → (xs : List A) → NoneDeclared (map f xs)
none_in_map f each [] = tt
none_in_map f each (x ∷ xs) = (each x, none_in_map f each xs)

none_in_both : (xs ys : List Signature) → NoneDeclared xs → NoneDeclared ys → NoneDeclared (xs ++ ys)
none_in_both [] ys a b = b
none_in_both (x ∷ xs) ys a b = (a.0, none_in_both xs ys a.1 b)

none_in_seeds : (s : ℕ) (names : List (List ℕ)) → NoneDeclared (seed_signatures s names)
none_in_seeds s [] = tt
none_in_seeds s (name ∷ names) = (tt, none_in_seeds (s + 1) names)

none_in_arrays : (l : Lists) → NoneDeclared (array_signatures l)
none_in_arrays l =
    let differences = map (difference_signature l) l.arrays.atoms in
    let defaults = map (default_signature l) l.arrays.defaults in
    let reads = map (read_signature l) (filter is_compound l.arrays.terms) in
    let samenesses = map sameness_signature l.arrays.atoms in
    none_in_both differences (defaults ++ (reads ++ samenesses)) (none_in_map (difference_signature l) (λ pair. tt) l.arrays.atoms)
    (none_in_both defaults (reads ++ samenesses) (none_in_map (default_signature l) (λ a. tt) l.arrays.defaults)
    (none_in_both reads samenesses (none_in_map (read_signature l) (λ a. tt) (filter is_compound l.arrays.terms))
    (none_in_map sameness_signature (λ pair. tt) l.arrays.atoms)))

none_hidden : (script : Script) → NoneDeclared (hidden_signatures script)
none_hidden script =
    none_in_both (seed_signatures 0 script.sorts) (far_signature ∷ array_signatures (lists_of script)) (none_in_seeds 0 script.sorts)
    (tt, none_in_arrays (lists_of script))

none_at : (signatures : List Signature) → NoneDeclared signatures → (at f : ℕ) (signature : Signature) → slice_get signatures at ≡ Some signature
    → signature.name ≡ Declared f → ⊥
none_at [] none at f signature there name = cc
none_at (x ∷ xs) none zero f signature there name =
    let same : x ≡ signature = cc in
    subst IsUndeclared (ap (λ (one : Signature). one.name) same ∙ name) none.0
none_at (x ∷ xs) none (suc at) f signature there name = none_at xs none.1 at f signature there name

-- the signature of a declared function stands at its number
place_of_declared : (n : ℕ) (functions : List Function) (others : List Signature) → NoneDeclared others → (at f : ℕ) (signature : Signature)
    → slice_get (function_signatures n functions ++ others) at ≡ Some signature → signature.name ≡ Declared f → n + at ≡ f
place_of_declared n [] others none at f signature there name = absurd (none_at others none at f signature there name)
place_of_declared n (g ∷ gs) others none zero f signature there name =
    let same : function_signature n g ≡ signature = cc in
    let names : Declared n ≡ Declared f = ap (λ (one : Signature). one.name) same ∙ name in
    let number : n ≡ f = cc in
    omega arith
place_of_declared n (g ∷ gs) others none (suc at) f signature there name =
    omega (arith, place_of_declared (n + 1) gs others none at f signature there name)

module _ (sizes : List ℕ) where
  signature_at : (signatures : List Signature) (tables : List Table) → AllZip (FitsSignature sizes) signatures tables → (at : ℕ) (table : Table)
      → slice_get tables at ≡ Some table → (signature : Signature) × (slice_get signatures at ≡ Some signature) × FitsSignature sizes signature table
  signature_at [] [] zip at table there = cc
  signature_at [] (t ∷ ts) zip at table there = absurd zip
  signature_at (s ∷ ss) [] zip at table there = absurd zip
  signature_at (s ∷ ss) (t ∷ ts) zip zero table there = let same : t ≡ table = cc in (s, refl, subst (FitsSignature sizes s) same zip.0)
  signature_at (s ∷ ss) (t ∷ ts) zip (suc at) table there = signature_at ss ts zip.1 at table there

  tables_sound : (signatures : List Signature) (tables : List Table) → AllZip (FitsSignature sizes) signatures tables → All IsSoundTable tables
  tables_sound [] [] zip = All-nil IsSoundTable
  tables_sound [] (t ∷ ts) zip = absurd zip
  tables_sound (s ∷ ss) [] zip = absurd zip
  tables_sound (s ∷ ss) (t ∷ ts) zip = All-cons IsSoundTable t ts (table_sound sizes s.args s.result t zip.0.fits) (tables_sound ss ts zip.1)

  -- the table of a declared function
  abbrev Found : (TableName → Bool) → List Sort → Sort → List Table → Type 0
  Found is_it args result tables = (table : Table) × (find (λ (t : Table). is_it t.name) tables ≡ Some table) × FitsTable sizes args result table

  find_declared : (n : ℕ) (functions : List Function) (others : List Signature) (tables : List Table)
      → AllZip (FitsSignature sizes) (function_signatures n functions ++ others) tables → (k : ℕ) (g : Function) → slice_get functions k ≡ Some g
      → (f : ℕ) → f ≡ n + k → Found (is_declared f) (places_of g.args g.result) (values_of g.result) tables
  find_declared n [] others tables zip k g there f e = cc
  find_declared n (h ∷ hs) others [] zip k g there f e = absurd zip
  find_declared n (h ∷ hs) others (t ∷ ts) zip zero g there f e =
      let same : h ≡ g = cc in
      let here = ap (is_declared f) zip.0.name ∙ eq-eqb f n (omega arith) in (
        t,
        ap (λ b. cond b (Some t) (find (λ (u : Table). is_declared f u.name) ts)) here,
        subst (λ (one : Function). FitsTable sizes (places_of one.args one.result) (values_of one.result) t) same zip.0.fits,
      )
  find_declared n (h ∷ hs) others (t ∷ ts) zip (suc k) g there f e =
      let other = ap (is_declared f) zip.0.name ∙ ne_eqb f n (λ same. omega (arith, same, e)) in
      let rest = find_declared (n + 1) hs others ts zip.1 k g there f (omega (arith, e)) in
      (rest.0, ap (λ b. cond b (Some t) (find (λ (u : Table). is_declared f u.name) ts)) other ∙ rest.1, rest.2)

  -- the tables behind those of the functions
  behind_functions : (is_it : TableName → Bool) → ((f : ℕ) → is_it (Declared f) ≡ false) → (n : ℕ) (functions : List Function) (others : List Signature) (tables : List Table)
      → AllZip (FitsSignature sizes) (function_signatures n functions ++ others) tables
      → (rest : List Table) × AllZip (FitsSignature sizes) others rest × (find (λ (t : Table). is_it t.name) tables ≡ find (λ (t : Table). is_it t.name) rest)
  behind_functions is_it none n [] others tables zip = (tables, zip, refl)
  behind_functions is_it none n (h ∷ hs) others [] zip = absurd zip
  behind_functions is_it none n (h ∷ hs) others (t ∷ ts) zip =
      let rest = behind_functions is_it none (n + 1) hs others ts zip.1 in
      let other = ap is_it zip.0.name ∙ none n in
      (rest.0, rest.1, ap (λ b. cond b (Some t) (find (λ (u : Table). is_it u.name) ts)) other ∙ rest.2)

  find_skolem : (assertion place : ℕ) (skolem : SkolemSort) (skolems : List SkolemSort) (others : List Signature) (tables : List Table)
      → AllZip (FitsSignature sizes) (map skolem_signature skolems ++ others) tables → skolem_of skolems assertion place ≡ Some skolem
      → Found (is_skolem assertion place) skolem.args skolem.result tables
  find_skolem assertion place skolem [] others tables zip there = cc
  find_skolem assertion place skolem (s ∷ ss) others [] zip there = absurd zip
  find_skolem assertion place skolem (s ∷ ss) others (t ∷ ts) zip there =
      by ((s.assertion == assertion) && (s.place == place))
      (ap (is_skolem assertion place) zip.0.name ∙ (λ i. nat_eq_equiv.symm assertion s.assertion i && nat_eq_equiv.symm place s.place i)) there
      (find_skolem assertion place skolem ss others ts zip.1)
    where
      by : (b : Bool) → is_skolem assertion place t.name ≡ b → cond b (Some s) (skolem_of ss assertion place) ≡ Some skolem
          → (skolem_of ss assertion place ≡ Some skolem → Found (is_skolem assertion place) skolem.args skolem.result ts)
          → Found (is_skolem assertion place) skolem.args skolem.result (t ∷ ts)
      by true here there behind =
          let same : s ≡ skolem = cc in (
            t,
            ap (λ b. cond b (Some t) (find (λ (u : Table). is_skolem assertion place u.name) ts)) here,
            subst (λ (one : SkolemSort). FitsTable sizes one.args one.result t) same zip.0.fits,
          )
      by false other there behind =
          let rest = behind there in
          (rest.0, ap (λ b. cond b (Some t) (find (λ (u : Table). is_skolem assertion place u.name) ts)) other ∙ rest.1, rest.2)

-- a model with a table for each function, then for each Skolem symbol, then for other names
module _ (functions : List Function) (skolems : List SkolemSort) (others : List Signature) (model : FunctionModel) where
  abbrev HasTables : Type 0
  HasTables = AllZip (FitsSignature model.sizes) (function_signatures 0 functions ++ (map skolem_signature skolems ++ others)) model.tables

  model_sound : NoneDeclared others → HasTables → IsSound model
  model_sound none zip = record {
    tables = tables_sound model.sizes _ model.tables zip;
    numbered = λ at f table there name.
        let found = signature_at model.sizes _ model.tables zip at table there in
        let none_behind = none_in_both (map skolem_signature skolems) others (none_in_map skolem_signature (λ skolem. tt) skolems) none in
        omega (arith, place_of_declared 0 functions _ none_behind at f found.0 found.1 (sym found.2.name ∙ name));
  }

  functions_of_sort : HasTables → (f : ℕ) (function : Function) → slice_get functions f ≡ Some function
      → (args : List Value) → IsOf model.sizes (values_of function.result) (given_by (is_declared f) model args)
  functions_of_sort zip f function there args =
      let found = find_declared model.sizes 0 functions _ model.tables zip f function there f (sym (zero-add f)) in
      subst (λ o. IsOf model.sizes (values_of function.result) (looked_up o args)) (sym found.1)
      (table_of_sort model.sizes (places_of function.args function.result) (values_of function.result) found.0 found.2 args)

  skolems_of_sort : HasTables → (assertion place : ℕ) (skolem : SkolemSort) → skolem_of skolems assertion place ≡ Some skolem
      → (args : List Value) → IsOf model.sizes skolem.result (given_by (is_skolem assertion place) model args)
  skolems_of_sort zip assertion place skolem there args =
      let rest = behind_functions model.sizes (is_skolem assertion place) (λ f. refl) 0 functions _ model.tables zip in
      let found = find_skolem model.sizes assertion place skolem skolems others rest.0 rest.1 there in
      subst (λ o. IsOf model.sizes skolem.result (looked_up o args)) (sym (rest.2 ∙ found.1))
      (table_of_sort model.sizes skolem.args skolem.result found.0 found.2 args)

no_skolem : (skolem : SkolemSort) → None ≡ Some skolem → ⊥
no_skolem skolem e = cc

module _ (script : Script) (model : FunctionModel) where
  shown_tables : Fits script model → HasTables script.functions (skolems_of script) [] model
  shown_tables fit =
      subst (λ signatures. AllZip (FitsSignature model.sizes) (function_signatures 0 script.functions ++ signatures) model.tables)
      (sym (append-nil (map skolem_signature (skolems_of script)))) fit.tables

  full_tables : FitsFull script model → HasTables script.functions (skolems_of script) (hidden_signatures script) model
  full_tables fit =
      subst (λ signatures. AllZip (FitsSignature model.sizes) signatures model.tables)
      (append_assoc (function_signatures 0 script.functions) (map skolem_signature (skolems_of script)) (hidden_signatures script)) fit.tables

  pub fitting_sound : Fits script model → IsSound model
  fitting_sound fit = model_sound script.functions (skolems_of script) [] model tt (shown_tables fit)

  pub full_sound : FitsFull script model → IsSound model
  full_sound fit = model_sound script.functions (skolems_of script) (hidden_signatures script) model (none_hidden script) (full_tables fit)

  pub fitting_sorts : Fits script model → GivesSorts (lists_of script) model
  fitting_sorts fit = record {
    functions = functions_of_sort script.functions (skolems_of script) [] model (shown_tables fit);
    skolems = skolems_of_sort script.functions (skolems_of script) [] model (shown_tables fit);
  }

  pub full_sorts : FitsFull script model → GivesSorts (lists_of script) model
  full_sorts fit = record {
    functions = functions_of_sort script.functions (skolems_of script) (hidden_signatures script) model (full_tables fit);
    skolems = skolems_of_sort script.functions (skolems_of script) (hidden_signatures script) model (full_tables fit);
  }

  -- by the functions alone
  pub plain_sorts : GivesSorts (lists_of script) model → GivesSorts (plain_lists script.functions) model
  plain_sorts sorts = record {
    functions = sorts.functions;
    skolems = λ assertion place skolem there args. absurd (no_skolem skolem there);
  }
