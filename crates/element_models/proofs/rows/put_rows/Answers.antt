use Rattle.std.proofs.Common.{◌+◌, ◌<◌, ◌∙◌, List, length, drop, false, ap, sym, arith}
use Rattle.function_model.specs.declared.model.Row.{Row}
use Rattle.function_model.specs.declared.model.Table.{Table}
use Rattle.element_models.proofs.Filling.{put_next, length_with_row}
use Rattle.element_models.specs.Filling.{with_row, with_rows}
use Rattle.element_models.proofs.rows.put_rows.Goals as goal

-- one more row is put
pub loop-at-preserved : goal.loop-at-preserved
loop-at-preserved c =
    let atoms = c.args.atoms.now in
    let truths = c.args.truths.now in
    let at = c.loop-at.at in
    let tables = c.loop-at.tables.items in
    let atom = c.index-atoms-at.result in
    let within : at < length truths = omega (arith, c.requires.truths) in
    let put = c.in_ok-put_row.ensures ∙ ap (λ (row : Row). with_row tables atom.predicate row) c.in_ok-row.ensures in record {
      all = ap (λ (ts : List Table). with_rows ts (drop (at + 1) atoms) (drop (at + 1) truths)) put
          ∙ (sym (put_next tables atoms truths at atom false c.loop-at-test.true within c.index-atoms-at.is) ∙ c.loop-at.invariant.all);
      many = ap length c.in_ok-put_row.ensures ∙ (length_with_row tables atom.predicate c.in_ok-row.row ∙ c.loop-at.invariant.many);
    }
