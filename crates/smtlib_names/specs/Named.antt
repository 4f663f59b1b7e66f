-- The tables of names, each with the names of its items. No public clause cites it.
use Rattle.std.specs.Prelude.{◌≡◌, ℕ, List, map}
use Rattle.mbqi_terms.specs.declared.script.Function.{Function}
use Rattle.smtlib_terms.specs.declared.names.Macro.{Macro}
use Rattle.smtlib_names.specs.declared.table.Table.{Table}

pub record AreNamed (sorts : Table (List ℕ)) (functions : Table Function) (macros : Table Macro) : Type 0 where
  pub of_sorts : sorts.names ≡ sorts.items
  pub of_functions : functions.names ≡ map (λ (f : Function). f.name) functions.items
  pub of_macros : macros.names ≡ map (λ (m : Macro). m.name) macros.items
