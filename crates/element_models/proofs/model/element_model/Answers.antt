use Rattle.std.proofs.Common.{◌≡◌, ◌∙◌, ◌-◌, ◌<◌, ◌≤◌, length, ℕ, Bool, List, [], ◌∷◌, ◌++◌, ap, sym, subst, refl, arith}
use Rattle.std.specs.Prelude.{All, replicate}
use Rattle.std.specs.List.{AllZip}
use Rattle.mbqi_values.specs.declared.value.Value.TheVariants as value
use Rattle.mbqi_terms.specs.Store.{tree_at}
use Rattle.mbqi_terms.specs.declared.script.Function.{Function}
use Rattle.mbqi_terms.specs.declared.term.Term.{Term}
use Rattle.mbqi_terms.specs.declared.term_id.TermId.{TermId}
use Rattle.function_model.specs.Holds.{nowhere, values_in}
use Rattle.function_model.specs.ValueOf.{value_of}
use Rattle.function_model.specs.declared.model.FunctionModel.{FunctionModel}
use Rattle.function_model.specs.declared.model.Table.{Table}
use Rattle.element_atoms.specs.Atoms.{Decides, IsOver}
use Rattle.element_atoms.specs.Profile.{is_element}
use Rattle.element_atoms.specs.declared.atoms.GroundAtom.{GroundAtom}
use Rattle.element_models.specs.Elements.{tables_from, hidden_from}
use Rattle.element_models.specs.Filling.{AreTables, IsRaised, NamesPredicate}
use Rattle.element_models.specs.Rows.{rows_of}
use Rattle.element_models.proofs.BareTables.{IsBare, all_are_bare}
use Rattle.element_models.proofs.Counting.{size_of, terms_of, length_terms}
use Rattle.element_models.proofs.Fitting.{model_fits}
use Rattle.element_models.proofs.Values.{decided, element_value}
use Rattle.element_models.proofs.model.element_model.Goals as goal

names : (functions : List Function) (terms : List Term) (atoms : List GroundAtom) → All (IsOver functions terms) atoms → All (NamesPredicate functions) atoms
names functions terms atoms over k d h =
    let on = over k d h in (on.predicate.0, on.predicate.1, ap is_element on.predicate.2.0)

-- there are as many elements as terms
many : (functions : List Function) (terms : List Term) (size : ℕ) → size ≡ length terms → terms ≡ terms_of functions → size ≡ size_of functions
many functions terms size is pool = is ∙ (ap length pool ∙ length_terms functions)

pub all_tables-requires-clause-some : goal.all_tables-requires-clause-some
all_tables-requires-clause-some c =
    omega (arith, many c.args.script.now.functions c.args.pool.now.terms c.universe_size-size.result c.universe_size-size.ensures c.requires.pool.terms)

pub all_tables-requires-clause-predicates : goal.all_tables-requires-clause-predicates
all_tables-requires-clause-predicates c =
    let atoms = c.args.atoms.now in
    subst (λ functions. All (NamesPredicate functions) atoms) (sym c.as_slice-functions.ensures)
    (names c.args.script.now.functions c.args.pool.now.terms atoms c.requires.over)

-- the model's tables, by the script
of_script : (functions slice : List Function) (atoms : List GroundAtom) (truths : List Bool) (size sorts count : ℕ) (made tables : List Table)
    → AreTables slice atoms truths size count made → slice ≡ functions → size ≡ size_of functions → count ≡ sorts → tables ≡ made
    → AreTables functions atoms truths (size_of functions) sorts tables
of_script functions slice atoms truths size sorts count made tables are same many counted moved = record {
  declared = are.declared;
  raised = subst (λ (ts : List Table). AllZip IsRaised ts are.declared) (λ i. tables_from (rows_of atoms truths) 0 0 (many i) (same i)) are.raised;
  all = moved ∙ (are.all ∙ (λ i. are.declared ++ hidden_from (many i - 1) 0 (counted i)));
}

-- a script with functions has a sort
sorted : (sorts : List (List ℕ)) (functions : List Function) → (sorts ≡ [] → functions ≡ []) → 1 ≤ length functions → 1 ≤ length sorts
sorted [] functions named some = absurd (omega (arith, ap length (named refl)))
sorted (sort ∷ sorts) functions named some = omega arith

pub returns-clause-fits : goal.returns-clause-fits
returns-clause-fits c =
    let script = c.args.script.now in
    let atoms = c.args.atoms.now in
    let truths = c.args.truths.now in
    let pool = c.requires.pool.terms in
    let size = many script.functions c.args.pool.now.terms c.universe_size-size.result c.universe_size-size.ensures pool in
    let are = of_script script.functions c.as_slice-functions.result.now atoms truths c.universe_size-size.result (length script.sorts)
    c.len-sorts.result c.in_ok-tables.tables.items c.from_vec.result c.in_ok-tables.ensures c.as_slice-functions.ensures size c.len-sorts.ensures c.from_vec.ensures in
    let sizes = c.in_ok-sizes.ensures ∙ (λ i. replicate (c.len-sorts.ensures i) (size i)) in
    model_fits c.rows_fit.ensures script c.in_ok-sizes.sizes c.from_vec.result atoms truths c.requires.elementary
    (subst (λ (ts : List Term). All (IsOver script.functions ts) atoms) pool c.requires.over) sizes are

pub returns-clause-bare : goal.returns-clause-bare
returns-clause-bare c =
    let are = c.in_ok-tables.ensures in
    let all = c.from_vec.ensures ∙ are.all in
    subst (All IsBare) (sym all)
    (all_are_bare (rows_of c.args.atoms.now c.args.truths.now) c.universe_size-size.result (c.universe_size-size.result - 1) c.len-sorts.result
    c.as_slice-functions.result.now are.declared are.raised)

pub returns-clause-elements : goal.returns-clause-elements
returns-clause-elements c =
    let script = c.args.script.now in
    let atoms = c.args.atoms.now in
    let truths = c.args.truths.now in
    let pool = c.requires.pool.terms in
    let size = many script.functions c.args.pool.now.terms c.universe_size-size.result c.universe_size-size.ensures pool in
    let are = of_script script.functions c.as_slice-functions.result.now atoms truths c.universe_size-size.result (length script.sorts)
    c.len-sorts.result c.in_ok-tables.tables.items c.from_vec.result c.in_ok-tables.ensures c.as_slice-functions.ensures size c.len-sorts.ensures c.from_vec.ensures in
    let model : FunctionModel = record { sizes = c.in_ok-sizes.sizes; tables = c.from_vec.result } in
    λ some.
    subst (λ (ts : List Term). (id : TermId) → id.0 < length ts → value_of model (tree_at ts id) nowhere ≡ value.Elem id.0) (sym pool)
    (element_value c.in_ok-sizes.sizes (length script.sorts) script.functions atoms truths c.from_vec.result are some)

pub returns-clause-decides : goal.returns-clause-decides
returns-clause-decides c =
    let script = c.args.script.now in
    let atoms = c.args.atoms.now in
    let truths = c.args.truths.now in
    let pool = c.requires.pool.terms in
    let size = many script.functions c.args.pool.now.terms c.universe_size-size.result c.universe_size-size.ensures pool in
    let are = of_script script.functions c.as_slice-functions.result.now atoms truths c.universe_size-size.result (length script.sorts)
    c.len-sorts.result c.in_ok-tables.tables.items c.from_vec.result c.in_ok-tables.ensures c.as_slice-functions.ensures size c.len-sorts.ensures c.from_vec.ensures in
    let model : FunctionModel = record { sizes = c.in_ok-sizes.sizes; tables = c.from_vec.result } in
    subst (λ (ts : List Term). Decides script.functions ts atoms truths (values_in model)) (sym pool)
    (decided c.in_ok-sizes.sizes (length script.sorts) script.functions atoms truths c.from_vec.result are
    (sorted script.sorts script.functions (λ e. (c.requires.elementary.named e).0)) c.requires.distinct
    (subst (λ (ts : List Term). All (IsOver script.functions ts) atoms) pool c.requires.over) c.requires.truths)
