use Rattle.std.proofs.Common.{List, sym, subst}
use Rattle.std.specs.Prelude.{All}
use Rattle.std.specs.List.{AllZip}
use Rattle.function_model.specs.Rising.{AgreeAtSamePlaces}
use Rattle.function_model.specs.declared.model.Table.{Table}
use Rattle.element_models.specs.Filling.{IsRaised}
use Rattle.element_models.proofs.Filling.{tables_agree}
use Rattle.element_models.proofs.model.all_tables.Goals as goal

pub raise_tables-requires : goal.raise_tables-requires
raise_tables-requires c =
    subst (All (λ (table : Table). AgreeAtSamePlaces table.rows)) (sym c.in_ok-tables.ensures)
    (tables_agree c.args.size c.args.functions.now c.args.atoms.now c.args.truths.now c.requires.distinct)

pub returns : goal.returns
returns c = record {
  declared = c.raise_tables.new.tables.items;
  raised = subst (λ (ts : List Table). AllZip IsRaised ts c.raise_tables.new.tables.items) c.in_ok-tables.ensures c.raise_tables.ensures;
  all = c.in_ok-push_hidden.ensures;
}
