-- A round over the listed instances.
use Rattle.std.proofs.Common.{◌≡◌, ℕ, zero, suc, ◌<◌, ◌≤◌, Bool, true, false, List, ◌++◌, length, replicate, refl, sym, ap, subst, ◌∙◌, ◌&&◌, arith}
use Rattle.std.specs.Prelude.{Contains, pos, slice_index}
use Rattle.std.specs.List.{list_all}
use Rattle.std.proofs.lemmas.List.{map-append, get_or_default}
use Rattle.std.proofs.lemmas.List.Folds.{list_all-append}
use Rattle.mbqi_values.specs.declared.value.Value.{Value}
use Rattle.mbqi_values.specs.declared.value.Value.TheVariants.{Elem, Num, Truth}
use Rattle.mbqi_terms.specs.Store.{tree_at}
use Rattle.mbqi_terms.specs.declared.instance.InstanceLine.{InstanceLine}
use Rattle.mbqi_terms.specs.declared.script.Function.{Function}
use Rattle.mbqi_terms.specs.declared.script.Script.{Script}
use Rattle.mbqi_terms.specs.declared.term.Term.{Term}
use Rattle.mbqi_terms.specs.declared.term.Term.TheVariants as term
use Rattle.mbqi_terms.specs.declared.term_id.TermId.{TermId}
use Rattle.function_model.specs.Holds.{IsOf, nowhere}
use Rattle.mbqi_values.specs.Clauses.{all_true}
use Rattle.function_model.specs.ValueOf.{value_of}
use Rattle.function_model.specs.declared.model.FunctionModel.{FunctionModel}
use Rattle.element_atoms.specs.Atoms.{Decides, IsPool, formulas_in, truths_by}
use Rattle.element_atoms.specs.Profile.{IsElementary, the_sort}
use Rattle.element_atoms.specs.declared.pool.Pool.{Pool}
use Rattle.rule_form.specs.Rules.{pool_terms}
use Rattle.mbqi_loop.specs.Assigned.{truth_at}
use Rattle.mbqi_loop.specs.Listed.{IsListed}
use Rattle.mbqi_loop.specs.declared.listed.Listed.{Listed}
use Rattle.mbqi_loop.proofs.Agreement.{clauses_agree}
use Rattle.mbqi_loop.proofs.Rules.{IsNamed}
use Rattle.mbqi_terms.specs.Meanings.{Meanings, truth_of}
use Rattle.mbqi_values.specs.Value.{is_true}

-- where the truths that were found are those of the model, each listed instance is true in it
pub listed_true : (functions : List Function) (terms : List Term) (listed : Listed) (truths : List Bool) (m : Meanings)
    → IsListed functions terms listed → Decides functions terms listed.table truths m → all_true (truth_at truths) listed.clauses ≡ true
    → list_all (truth_of m) (formulas_in listed.lines) ≡ true
listed_true functions terms listed truths m is decides found =
    sym (is.truth m)
    ∙ (clauses_agree (length listed.table) (truths_by m terms listed.table) (truth_at truths) listed.clauses (λ i h. ap is_true (decides.listed i h)) is.below
    ∙ found)

-- the first of listed instances are true where all are
first_of : (a b : Bool) → (a && b) ≡ true → a ≡ true
first_of true b h = refl
first_of false b h = h

pub first_true : (m : Meanings) (first more lines : List InstanceLine) → lines ≡ first ++ more → list_all (truth_of m) (formulas_in lines) ≡ true
    → list_all (truth_of m) (formulas_in first) ≡ true
first_true m first more lines e h =
    first_of (list_all (truth_of m) (formulas_in first)) (list_all (truth_of m) (formulas_in more))
    (sym (list_all-append (truth_of m) (formulas_in first) (formulas_in more))
    ∙ (sym (ap (list_all (truth_of m)) (map-append (λ (line : InstanceLine). line.formula) first more))
    ∙ (sym (ap (λ (ls : List InstanceLine). list_all (truth_of m) (formulas_in ls)) e) ∙ h)))

-- an element is that of a term of the pool
within_one : (sorts size e : ℕ) → sorts ≤ 1 → e < slice_index (replicate sorts size) 0 → (1 ≤ sorts) × (e < size)
within_one zero size e most h = absurd (omega (arith, h))
within_one (suc sorts) size e most h = (omega arith, h)

pub each_named : (script : Script) (pool : Pool) (model : FunctionModel) → IsElementary script → IsPool script.functions pool
    → model.sizes ≡ replicate (length script.sorts) (length pool.terms)
    → (1 ≤ length script.sorts → (id : TermId) → id.0 < length pool.terms → value_of model (tree_at pool.terms id) nowhere ≡ Elem id.0)
    → IsNamed script model
each_named script pool model is of sizes elements v has = by v (subst (λ s. IsOf s the_sort v) sizes has)
  where
    by : (w : Value) → IsOf (replicate (length script.sorts) (length pool.terms)) the_sort w
        → (t : Term) × Contains (pool_terms script.functions) t × (w ≡ value_of model t nowhere)
    by (Elem e) below =
        let (some, within) = within_one (length script.sorts) (length pool.terms) e is.sorts below in
        let id : TermId = record { 0 = e } in
        let t = tree_at pool.terms id in
        let there : Contains pool.terms t = (e, within, get_or_default pool.terms e t (term.Num (pos 0)) within) in
        (t, subst (λ (terms : List Term). Contains terms t) of.terms there, sym (elements some id within))
    by (Num n) none = absurd none
    by (Truth b) none = absurd none
