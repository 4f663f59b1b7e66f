-- The listed instances beside their clauses (this project's own).
use Rattle.std.specs.Prelude.{◌≡◌, List, length, All}
use Rattle.std.specs.List.{list_all}
use Rattle.mbqi_values.specs.Clauses.{all_true, AreBelow}
use Rattle.mbqi_terms.specs.declared.script.Function.{Function}
use Rattle.mbqi_terms.specs.declared.term.Term.{Term}
use Rattle.mbqi_terms.specs.Meanings.{Meanings, truth_of}
use Rattle.element_atoms.specs.Atoms.{IsOver, formulas_in, truths_by}
use Rattle.mbqi_loop.specs.declared.listed.Listed.{Listed}

-- The clauses say of each valuation what the instances say, and their atoms are in the table, over the terms of the pool.
pub record IsListed (functions : List Function) (terms : List Term) (listed : Listed) : Type 0 where
  pub over : All (IsOver functions terms) listed.table
  pub below : AreBelow (length listed.table) listed.clauses
  pub truth : (m : Meanings) → all_true (truths_by m terms listed.table) listed.clauses ≡ list_all (truth_of m) (formulas_in listed.lines)
