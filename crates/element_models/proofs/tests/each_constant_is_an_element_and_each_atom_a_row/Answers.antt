use Rattle.std.proofs.Common.{◌∙◌, List, sym, subst}
use Rattle.std.specs.Prelude.{All}
use Rattle.mbqi_terms.specs.declared.script.Function.{Function}
use Rattle.element_atoms.specs.Atoms.{IsOver}
use Rattle.element_atoms.specs.declared.pool.Pool.{Pool}
use Rattle.element_models.specs.Example.{example_functions, example_pool}
use Rattle.element_models.proofs.Example.{example_over}
use Rattle.element_models.proofs.tests.each_constant_is_an_element_and_each_atom_a_row.Goals as goal

-- the script, the pool and the atoms are the example's
pub element_model-requires-clause-over : goal.element_model-requires-clause-over
element_model-requires-clause-over g c =
    subst (λ (functions : List Function). All (IsOver functions c.in_ok-pool.pool.terms) c.as_slice.result.now) (sym c.in_ok-script.ensures.functions)
    (subst (λ (pool : Pool). All (IsOver example_functions pool.terms) c.as_slice.result.now) (sym c.in_ok-pool.ensures)
    (subst (All (IsOver example_functions example_pool.terms)) (sym (c.as_slice.ensures.value ∙ c.in_ok-atoms.ensures)) example_over))
