use Rattle.std.proofs.Common.{if◌then◌else◌, ap, sym, ◌∙◌}
use Rattle.std.specs.Prelude.{None}
use Rattle.mbqi_terms.specs.declared.term.Symbol.{out-Symbol}
use Rattle.mbqi_terms.proofs.Levels.{out-diff}
use Rattle.function_model.specs.Lookup.{is_difference, is_full, table_where}
use Rattle.function_model.specs.Tabled.{table_of_layer}
use Rattle.function_model.proofs.model.FunctionModel.table_by_name.Goals as goal

pub returns-in-Diff : goal.returns-in-Diff
returns-in-Diff c =
    let m = c.args.self.now in
    let level = ap out-Symbol c.in-Diff.is ∙ out-diff c.in-Diff.left c.in-Diff.right in
    c.difference_table.ensures
    ∙ ((λ i. if is_full m then table_where (is_difference (c.get.ensures i) (c.get-in-Diff.ensures i)) m else None) ∙ sym (ap (table_of_layer m) level))
