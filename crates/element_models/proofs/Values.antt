-- In the model of atoms with truths each term of the pool is its element, and each atom has its truth.
use Rattle.std.proofs.Common.{◌≡◌, ℕ, ◌+◌, ◌-◌, ◌<◌, ◌≤◌, Bool, false, List, [], ◌∷◌, length, map, get_or, refl, ap, sym, subst, ◌∙◌, ⊎_elim, arith}
use Rattle.std.specs.Prelude.{All, pos}
use Rattle.std.specs.List.{AllByRecursion, find}
use Rattle.std.proofs.Math.Seq.{get_or-append_seam}
use Rattle.std.proofs.lemmas.Bool.{cases_lt}
use Rattle.std.proofs.lemmas.List.{get_or_append_left, length-map}
use Rattle.std.proofs.lemmas.List.Elements.{recursion_from_All, All-weaker}
use Rattle.std.proofs.lemmas.Option.{slice_get_within, get_or_from_slice_get}
use Rattle.mbqi_values.specs.declared.value.Value.{Value}
use Rattle.mbqi_values.specs.declared.value.Value.TheVariants as value
use Rattle.mbqi_terms.specs.Distinct.{AreDistinct}
use Rattle.mbqi_terms.specs.Store.{tree_at}
use Rattle.mbqi_terms.specs.declared.script.Function.{Function}
use Rattle.mbqi_terms.specs.declared.sort.Sort.TheVariants as sort
use Rattle.mbqi_terms.specs.declared.term.Symbol.TheVariants as symbol
use Rattle.mbqi_terms.specs.declared.term.Term.{Term}
use Rattle.mbqi_terms.specs.declared.term.Term.TheVariants as term
use Rattle.mbqi_terms.specs.declared.term_id.TermId.{TermId}
use Rattle.function_model.specs.Fits.{IsRow}
use Rattle.function_model.specs.Holds.{nowhere, values_in}
use Rattle.function_model.specs.Lookup.{looked_up, looked_up_in, is_seed, value_at}
use Rattle.function_model.specs.ValueOf.{value_of}
use Rattle.function_model.specs.declared.model.FunctionModel.{FunctionModel}
use Rattle.function_model.specs.declared.model.Table.{Table}
use Rattle.function_model.proofs.Values.{value_apply, value_seed}
use Rattle.element_atoms.specs.Atoms.{Decides, IsOver, atom_tree, atom_at}
use Rattle.element_atoms.specs.Profile.{IsPredicate, is_constant, is_element, constants_of, seed}
use Rattle.element_atoms.specs.declared.atoms.GroundAtom.{GroundAtom}
use Rattle.element_models.specs.Elements.{knots_of, predicate_table, tables_from, hidden_from}
use Rattle.element_models.specs.Filling.{AreTables}
use Rattle.element_models.specs.Rows.{element_of, rows_of}
use Rattle.element_models.proofs.AtomRows.{found, not_found, rows_agree}
use Rattle.element_models.proofs.BareTables.{predicate_gives}
use Rattle.element_models.proofs.Counting.{size_of, terms_of, length_terms}
use Rattle.element_models.proofs.Fitting.{wanted_rows}
use Rattle.element_models.proofs.HiddenTables.{declared_before, seed_behind, first_seed}
use Rattle.element_models.proofs.Knots.{at_itself, at_only}
use Rattle.element_models.proofs.Lookups.{table_of, raised_give, predicate_found, constant_found}

module _ (sizes : List ℕ) (sorts : ℕ) (functions : List Function) (atoms : List GroundAtom) (truths : List Bool) (tables : List Table)
    (are : AreTables functions atoms truths (size_of functions) sorts tables) where
  abbrev model : FunctionModel
  model = record { sizes = sizes; tables = tables }

  abbrev given : List Table
  given = tables_from (rows_of atoms truths) 0 0 (size_of functions) functions

  -- a declared function is looked up in its table
  declared_value : (f : ℕ) (args : List Term)
      → value_of model (term.Apply (symbol.Declared f) args) nowhere ≡ looked_up (table_of f given) (map (λ t. value_of model t nowhere) args)
  declared_value f args =
      let values : List Value = map (λ t. value_of model t nowhere) args in
      value_apply model nowhere f args
      ∙ (ap (λ table. looked_up table values) (ap (table_of f) are.all ∙ declared_before f (size_of functions - 1) 0 sorts are.declared)
      ∙ raised_give f values given are.declared are.raised)

  -- a constant is the element of its number in the pool
  constant_value : (id : TermId) → id.0 < length (constants_of functions) → value_of model (tree_at (constants_of functions) id) nowhere ≡ element_of id
  constant_value id h =
      let at = constant_found (rows_of atoms truths) (size_of functions) 0 0 id.0 functions (term.Num (pos 0)) h in
      let n : 0 + id.0 ≡ id.0 = omega arith in
      ap (λ t. value_of model t nowhere) at.2 ∙ (declared_value at.0 [] ∙ (at.3 ∙ ap value.Elem n))

  -- and so is the seed
  seed_value : 1 ≤ sorts → value_of model seed nowhere ≡ value.Elem (length (constants_of functions))
  seed_value some =
      let last = size_of functions - 1 in
      let n : last ≡ length (constants_of functions) = omega arith in
      value_seed model nowhere 0
      ∙ (ap (λ table. looked_up table [])
      (ap (λ (ts : List Table). find (λ table. is_seed 0 table.name) ts) are.all
      ∙ (seed_behind 0 (rows_of atoms truths) 0 0 (size_of functions) functions are.declared (hidden_from last 0 sorts) are.raised ∙ first_seed last sorts some))
      ∙ ap value.Elem n)

  pub element_value : 1 ≤ sorts → (id : TermId) → id.0 < length (terms_of functions) → value_of model (tree_at (terms_of functions) id) nowhere ≡ element_of id
  element_value some id h =
      let none = term.Num (pos 0) in
      ⊎_elim
      (λ (front : id.0 < length (constants_of functions)).
      ap (λ t. value_of model t nowhere) (get_or_append_left (constants_of functions) (seed ∷ []) none id.0 front) ∙ constant_value id front)
      (λ (past : length (constants_of functions) ≤ id.0).
      let last : id.0 ≡ length (constants_of functions) = omega (arith, h, length_terms functions) in
      ap (λ n. value_of model (get_or (terms_of functions) n none) nowhere) last
      ∙ (ap (λ t. value_of model t nowhere) (get_or-append_seam (constants_of functions) seed [] none)
      ∙ (seed_value some ∙ ap value.Elem (sym last))))
      (cases_lt id.0 (length (constants_of functions)))

  args_values : 1 ≤ sorts → (ids : List TermId) → AllByRecursion (λ id. id.0 < length (terms_of functions)) ids
      → map (λ t. value_of model t nowhere) (map (tree_at (terms_of functions)) ids) ≡ map element_of ids
  args_values some [] below = refl
  args_values some (id ∷ ids) below = λ i. element_value some id below.0 i ∷ args_values some ids below.1 i

  -- an atom is looked up in the rows of its predicate
  atom_value : 1 ≤ sorts → AreDistinct atoms → All (IsOver functions (terms_of functions)) atoms
      → (atom : GroundAtom) (is : IsOver functions (terms_of functions) atom)
      → value_of model (atom_tree (terms_of functions) atom) nowhere
      ≡ value_at (rows_of atoms truths atom.predicate) (knots_of (size_of functions) is.predicate.0.args) (map element_of atom.args) (value.Truth false)
  atom_value some distinct over atom is =
      let function = is.predicate.0 in
      let p = atom.predicate in
      let size = size_of functions in
      let args = map element_of atom.args in
      let within = slice_get_within functions p function is.predicate.1 in
      let read = get_or_from_slice_get functions p function function is.predicate.1 in
      let predicate : is_constant (get_or functions p function) ≡ false = ap is_constant read ∙ ap is_element is.predicate.2.0 in
      let number : 0 + p ≡ p = omega arith in
      declared_value p (map (tree_at (terms_of functions)) atom.args)
      ∙ (ap (looked_up (table_of p given)) (args_values some atom.args (recursion_from_All (λ id. id.0 < length (terms_of functions)) atom.args is.args))
      ∙ (ap (λ g. looked_up (table_of g given) args) (sym number)
      ∙ (ap (λ table. looked_up table args) (predicate_found (rows_of atoms truths) size 0 0 p functions function within predicate)
      ∙ (ap (λ g. looked_up_in (predicate_table (rows_of atoms truths g) g size (get_or functions p function).args) args) number
      ∙ (ap (λ (f : Function). looked_up_in (predicate_table (rows_of atoms truths p) p size f.args) args) read
      ∙ predicate_gives (rows_of atoms truths p) p size function.args args
      (length-map atom.args element_of ∙ is.predicate.3)
      (let P : Function → Type 0 = λ f. AllByRecursion (IsRow (size ∷ []) (knots_of size f.args) sort.Truth) (rows_of atoms truths p) in
      subst P read (wanted_rows functions atoms truths over p function within (subst IsPredicate (sym read) is.predicate.2)))
      (rows_agree atoms truths p distinct))))))

  below_size : (ids : List TermId) → All (λ id. id.0 < length (terms_of functions)) ids → AllByRecursion (λ id. id.0 < size_of functions) ids
  below_size ids below =
      recursion_from_All (λ id. id.0 < size_of functions) ids
      (All-weaker (λ id. id.0 < length (terms_of functions)) (λ id. id.0 < size_of functions) (λ id h. omega (arith, h, length_terms functions)) ids below)

  -- a script with an atom has a sort
  some_sort : (1 ≤ length functions → 1 ≤ sorts) → (atom : GroundAtom) → IsOver functions (terms_of functions) atom → 1 ≤ sorts
  some_sort sorted atom is =
      let within = slice_get_within functions atom.predicate is.predicate.0 is.predicate.1 in
      sorted (omega (arith, within))

  pub decided : (1 ≤ length functions → 1 ≤ sorts) → AreDistinct atoms → All (IsOver functions (terms_of functions)) atoms
      → length truths ≡ length atoms → Decides functions (terms_of functions) atoms truths (values_in model)
  decided sorted distinct over many =
      let none : GroundAtom = record { predicate = 0; args = [] } in
      let size = size_of functions in record {
        listed = λ k h.
            let atom = atom_at atoms k in
            let is = over k none h in
            let sorts = is.predicate.0.args in
            let below = below_size atom.args is.args in
            atom_value (some_sort sorted atom is) distinct over atom is
            ∙ found (knots_of size sorts) (value.Truth false) atoms truths k none distinct many h (at_itself size sorts atom.args is.predicate.3 below)
            (λ places e. at_only size sorts atom.args places below e);
        others = λ atom is missing.
            let sorts = is.predicate.0.args in
            let below = below_size atom.args is.args in
            atom_value (some_sort sorted atom is) distinct over atom is
            ∙ not_found (knots_of size sorts) (value.Truth false) atoms truths atom missing
            (λ places e. at_only size sorts atom.args places below e);
      }
