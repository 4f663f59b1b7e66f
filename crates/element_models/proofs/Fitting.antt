-- The tables of elementary functions fit them, also once their rows are in order.
use Rattle.std.proofs.Common.{◌≡◌, ℕ, suc, ◌+◌, ◌-◌, ◌<◌, ◌≤◌, Bool, true, false, List, [], ◌∷◌, ◌++◌, append-nil, map, length, get_or, refl, sym, ap, subst, ◌∙◌, cond, inl, inr, arith}
use Rattle.std.specs.Prelude.{◌⊎◌, All, Contains, replicate, slice_index}
use Rattle.std.specs.List.{AllByRecursion, AllZip}
use Rattle.std.proofs.lemmas.List.{length-replicate, get_or-replicate}
use Rattle.std.proofs.lemmas.List.Elements.{All-replicate, All-contains, All-contains_itself, All-from_recursion, All-weaker, recursion_from_All}
use Rattle.std.proofs.lemmas.Option.{get_or_from_slice_get}
use Rattle.mbqi_values.specs.declared.value.Value.{Value}
use Rattle.mbqi_terms.specs.declared.script.Function.{Function}
use Rattle.mbqi_terms.specs.declared.script.Script.{Script}
use Rattle.mbqi_terms.specs.declared.sort.Sort.{Sort}
use Rattle.mbqi_terms.specs.declared.sort.Sort.TheVariants as sort
use Rattle.function_model.specs.Fits.{AreRows, IsRow, HaveKnots, IsShown, FitsFull, FitsSignature, Signature, far_signature, array_signatures, function_signature, function_signatures, hidden_signatures, seed_signatures, shown_signatures, skolem_signature}
use Rattle.function_model.specs.Rising.{RowsRise}
use Rattle.function_model.specs.declared.model.Row.{Row}
use Rattle.function_model.specs.declared.model.Table.{Table}
use Rattle.element_atoms.specs.Atoms.{IsOver}
use Rattle.element_atoms.specs.Profile.{the_sort, IsConstant, IsPredicate, IsElementary, is_constant}
use Rattle.element_atoms.specs.declared.atoms.GroundAtom.{GroundAtom}
use Rattle.element_models.specs.Elements.{knots_of, constant_table, predicate_table, table_for, next_element, tables_from, hidden_from}
use Rattle.element_models.specs.Filling.{AreTables, IsRaised}
use Rattle.element_models.specs.Rows.{rows_of}
use Rattle.element_models.proofs.AtomRows.{all_rows}
use Rattle.element_models.proofs.BareTables.{shown_are, default_is_shown}
use Rattle.element_models.proofs.Counting.{size_of, terms_of, constants_in, length_constants, length_terms}
use Rattle.element_models.proofs.HiddenTables.{hidden_fit}
use Rattle.element_models.proofs.Knots.{have_knots, stand}
use Rattle.element_models.proofs.NothingHidden.{lists_are, no_skolems}

-- Rising rows, each of which is a row of a table, may be all its rows.
abbrev pub RowsFit : Type 0
RowsFit = (sizes : List ℕ) (knots : List (List Value)) (s : Sort) (rows : List Row)
    → RowsRise rows → AllByRecursion (IsRow sizes knots s) rows → AreRows sizes knots s rows

abbrev WantedRows : (ℕ → List Row) → ℕ → ℕ → Function → Type 0
WantedRows rows size f function =
    IsPredicate function → AllByRecursion (IsRow (size ∷ []) (knots_of size function.args) sort.Truth) (rows f)

module _ (fit : RowsFit) where
  ordered : (sizes : List ℕ) (s : Sort) (given raised : Table) → IsRaised given raised → AllByRecursion (IsRow sizes given.knots s) given.rows
      → AreRows sizes raised.knots s raised.rows
  ordered sizes s given raised is all =
      let P : Row → Type 0 = IsRow sizes raised.knots s in
      let here : AllByRecursion P given.rows = subst (λ knots. AllByRecursion (IsRow sizes knots s) given.rows) (sym is.knots) all in
      let each = λ (row : Row) (c : Contains raised.rows row). All-contains P given.rows row (All-from_recursion P given.rows here) ((is.contains row).0 c) in
      fit sizes raised.knots s raised.rows is.rising
      (recursion_from_All P raised.rows (All-weaker (Contains raised.rows) P each raised.rows (All-contains_itself raised.rows)))

  constant_fits : (f e size : ℕ) (name : List ℕ) (raised : Table) → e < size → IsRaised (constant_table f e) raised
      → FitsSignature (size ∷ []) (function_signature f (record { name = name; args = []; result = the_sort })) raised
  constant_fits f e size name raised h is = record {
    name = is.name;
    fits = record {
      knots = subst (HaveKnots (size ∷ []) []) (sym is.knots) tt;
      rows = ordered (size ∷ []) the_sort (constant_table f e) raised is tt;
      default = subst (IsShown (size ∷ []) the_sort) (sym is.default) (h, tt);
    };
  }

  predicate_fits : (rows : List Row) (f size : ℕ) (name : List ℕ) (args : List Sort) (raised : Table) → 0 < size
      → AllByRecursion (λ arg. arg ≡ the_sort) args → AllByRecursion (IsRow (size ∷ []) (knots_of size args) sort.Truth) rows
      → IsRaised (predicate_table rows f size args) raised
      → FitsSignature (size ∷ []) (function_signature f (record { name = name; args = args; result = sort.Truth })) raised
  predicate_fits rows f size name args raised h each all is = record {
    name = is.name;
    fits = record {
      knots = subst (HaveKnots (size ∷ []) args) (sym is.knots) (have_knots size h args each);
      rows = ordered (size ∷ []) sort.Truth (predicate_table rows f size args) raised is
          (shown_are (IsRow (size ∷ []) (knots_of size args) sort.Truth) args rows all);
      default = subst (IsShown (size ∷ []) sort.Truth) (sym is.default) (default_is_shown size (knots_of size args) args rows all);
    };
  }

  -- the table of a function
  function_fits : (rows : ℕ → List Row) (f e size : ℕ) (name : List ℕ) (args : List Sort) (result : Sort) (raised : Table) → e < size
      → IsConstant (record { name = name; args = args; result = result }) ⊎ IsPredicate (record { name = name; args = args; result = result })
      → WantedRows rows size f (record { name = name; args = args; result = result })
      → IsRaised (table_for rows f e size (record { name = name; args = args; result = result })) raised
      → FitsSignature (size ∷ []) (function_signature f (record { name = name; args = args; result = result })) raised
  function_fits rows f e size name args result raised h (inl is) wanted to =
      let P : Sort → Type 0 = λ r. IsRaised (table_for rows f e size (record { name = name; args = args; result = r })) raised
      → FitsSignature (size ∷ []) (function_signature f (record { name = name; args = args; result = r })) raised in
      let Q : List Sort → Type 0 = λ a. FitsSignature (size ∷ []) (function_signature f (record { name = name; args = a; result = the_sort })) raised in
      subst P (sym is.0) (λ to. subst Q (sym is.1) (constant_fits f e size name raised h to)) to
  function_fits rows f e size name args result raised h (inr is) wanted to =
      let P : Sort → Type 0 = λ r. IsRaised (table_for rows f e size (record { name = name; args = args; result = r })) raised
      → FitsSignature (size ∷ []) (function_signature f (record { name = name; args = args; result = r })) raised in
      subst P (sym is.0) (predicate_fits (rows f) f size name args raised (omega arith) is.1 (wanted is)) to

  -- the next constant is an element too
  next_fits : (b : Bool) (e n size : ℕ) → e + cond b (1 + n) n < size → cond b (e + 1) e + n < size
  next_fits true e n size h = omega arith
  next_fits false e n size h = h

  tables_fit : (rows : ℕ → List Row) (f e size : ℕ) (functions : List Function) (raised : List Table) → e + constants_in functions < size
      → AllByRecursion (λ function. IsConstant function ⊎ IsPredicate function) functions
      → ((k : ℕ) (d : Function) → k < length functions → WantedRows rows size (f + k) (get_or functions k d))
      → AllZip IsRaised (tables_from rows f e size functions) raised
      → AllZip (FitsSignature (size ∷ [])) (function_signatures f functions) raised
  tables_fit rows f e size [] [] h each wanted to = tt
  tables_fit rows f e size [] (r ∷ raised) h each wanted to = absurd to
  tables_fit rows f e size (function ∷ functions) [] h each wanted to = absurd to
  tables_fit rows f e size (function ∷ functions) (r ∷ raised) h each wanted to = (
    function_fits rows f e size function.name function.args function.result r (omega arith) each.0
        (let at : f + 0 ≡ f = omega arith in subst (λ n. WantedRows rows size n function) at (wanted 0 function (omega arith))) to.0,
    tables_fit rows (f + 1) (next_element function e) size functions raised
        (next_fits (is_constant function) e (constants_in functions) size h) each.1
        (λ k d h. let at : f + suc k ≡ f + 1 + k = omega arith in
        subst (λ n. WantedRows rows size n (get_or functions k d)) at (wanted (suc k) d (omega arith)))
        to.1,
  )

  nothing : (raised : List Table) → AllZip IsRaised [] raised → AllZip (FitsSignature []) [] raised
  nothing [] to = tt
  nothing (r ∷ raised) to = absurd to

  -- one table each, whatever the number of sorts
  all_fit : (sorts : List (List ℕ)) (rows : ℕ → List Row) (functions : List Function) (raised : List Table) → length sorts ≤ 1
      → (sorts ≡ [] → functions ≡ []) → AllByRecursion (λ function. IsConstant function ⊎ IsPredicate function) functions
      → ((k : ℕ) (d : Function) → k < length functions → WantedRows rows (size_of functions) k (get_or functions k d))
      → AllZip IsRaised (tables_from rows 0 0 (size_of functions) functions) raised
      → AllZip (FitsSignature (replicate (length sorts) (size_of functions))) (function_signatures 0 functions) raised
  all_fit [] rows functions raised few named each wanted to =
      let P : List Function → Type 0 = λ fs. AllZip IsRaised (tables_from rows 0 0 (size_of functions) fs) raised
      → AllZip (FitsSignature (replicate 0 (size_of functions))) (function_signatures 0 fs) raised in
      subst P (sym (named refl)) (nothing raised) to
  all_fit (sort ∷ []) rows functions raised few named each wanted to =
      tables_fit rows 0 0 (size_of functions) functions raised (omega (arith, length_constants 0 functions)) each
      (λ k d h. let at : k ≡ 0 + k = omega arith in subst (λ n. WantedRows rows (size_of functions) n (get_or functions k d)) at (wanted k d h)) to
  all_fit (sort ∷ other ∷ sorts) rows functions raised few named each wanted to = absurd (omega arith)

-- the rows of atoms are rows of their predicates' tables
pub wanted_rows : (functions : List Function) (atoms : List GroundAtom) (truths : List Bool) → All (IsOver functions (terms_of functions)) atoms
    → (k : ℕ) (d : Function) → k < length functions → WantedRows (rows_of atoms truths) (size_of functions) k (get_or functions k d)
wanted_rows functions atoms truths over k d h is =
    all_rows (IsRow (size_of functions ∷ []) (knots_of (size_of functions) (get_or functions k d).args) sort.Truth) k atoms truths
    (λ i none within e.
    let atom = get_or atoms i none in
    let on = over i none within in
    let same : on.predicate.0 ≡ get_or functions k d =
    sym (get_or_from_slice_get functions atom.predicate on.predicate.0 d on.predicate.1) ∙ ap (λ f. get_or functions f d) (sym e) in
    let many : length atom.args ≡ length (get_or functions k d).args = on.predicate.3 ∙ ap (λ (f : Function). length f.args) same in
    let below = recursion_from_All (λ id. id.0 < size_of functions) atom.args
    (All-weaker (λ id. id.0 < length (terms_of functions)) (λ id. id.0 < size_of functions)
    (λ id h. omega (arith, h, length_terms functions)) atom.args on.args) in
    (stand (size_of functions) (get_or functions k d).args atom.args many below, (tt, tt)))

-- the tables of the hidden names
names_fit : (size : ℕ) (sorts : List (List ℕ)) → 1 ≤ size
    → AllZip (FitsSignature (replicate (length sorts) size)) (seed_signatures 0 sorts ++ (far_signature ∷ [])) (hidden_from (size - 1) 0 (length sorts))
names_fit size sorts some =
    hidden_fit (replicate (length sorts) size) (size - 1) 0 sorts
    (λ k h l. let is : slice_index (replicate (length sorts) size) k ≡ size = get_or-replicate (length sorts) k size 0 (omega arith) in omega (arith, is))

zip_append : {A : Type 0} → {B : Type 0} → (R : A → B → Type 0) (xs more : List A) (ys others : List B) → AllZip R xs ys → AllZip R more others → AllZip R (xs ++ more) (ys ++ others)
zip_append R [] more [] others zip behind = behind
zip_append R [] more (y ∷ ys) others zip behind = absurd zip
zip_append R (x ∷ xs) more [] others zip behind = absurd zip
zip_append R (x ∷ xs) more (y ∷ ys) others zip behind = (zip.0, zip_append R xs more ys others zip.1 behind)

-- nothing is asked but the declared functions, the seeds and the far integer
signatures_are : (script : Script) → IsElementary script
    → shown_signatures script ++ hidden_signatures script
    ≡ function_signatures 0 script.functions ++ (seed_signatures 0 script.sorts ++ (far_signature ∷ []))
signatures_are script is =
    let functions : List Signature = function_signatures 0 script.functions in
    let seeds : List Signature = seed_signatures 0 script.sorts in
    let shown : shown_signatures script ≡ functions =
    ap (λ skolems. functions ++ map skolem_signature skolems) (no_skolems script is) ∙ append-nil functions in
    let hidden : hidden_signatures script ≡ seeds ++ (far_signature ∷ []) =
    λ k. seeds ++ (far_signature ∷ array_signatures (lists_are script is k)) in
    λ k. shown k ++ hidden k

-- the model of an elementary script fits it
pub model_fits : RowsFit → (script : Script) (sizes : List ℕ) (tables : List Table) (atoms : List GroundAtom) (truths : List Bool)
    → IsElementary script → All (IsOver script.functions (terms_of script.functions)) atoms
    → sizes ≡ replicate (length script.sorts) (size_of script.functions)
    → AreTables script.functions atoms truths (size_of script.functions) (length script.sorts) tables
    → FitsFull script (record { sizes = sizes; tables = tables })
model_fits fit script sizes tables atoms truths is over same are =
    let P : List ℕ → Type 0 = λ ss. FitsFull script (record { sizes = ss; tables = tables }) in
    let universe : List ℕ = replicate (length script.sorts) (size_of script.functions) in
    let Fit : List Signature → List Table → Type 0 = AllZip (FitsSignature universe) in
    let declared = all_fit fit script.sorts (rows_of atoms truths) script.functions are.declared is.sorts (λ e. (is.named e).0) is.functions
    (wanted_rows script.functions atoms truths over) are.raised in
    let each : Fit (function_signatures 0 script.functions ++ (seed_signatures 0 script.sorts ++ (far_signature ∷ [])))
    (are.declared ++ hidden_from (size_of script.functions - 1) 0 (length script.sorts)) =
    zip_append (FitsSignature universe) (function_signatures 0 script.functions) (seed_signatures 0 script.sorts ++ (far_signature ∷ []))
    are.declared (hidden_from (size_of script.functions - 1) 0 (length script.sorts)) declared
    (names_fit (size_of script.functions) script.sorts (omega arith)) in
    subst P (sym same)
    (record {
      sorts = length-replicate (length script.sorts) (size_of script.functions);
      sizes = All-replicate (λ size. 1 ≤ size) (length script.sorts) (size_of script.functions) (omega arith);
      tables = subst (λ (signatures : List Signature). Fit signatures tables) (sym (signatures_are script is))
          (subst (Fit (function_signatures 0 script.functions ++ (seed_signatures 0 script.sorts ++ (far_signature ∷ [])))) (sym are.all) each);
    })
