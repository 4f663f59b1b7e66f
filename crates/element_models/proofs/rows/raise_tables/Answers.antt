use Rattle.std.proofs.Common.{◌≡◌, ◌≢◌, ◌<◌, ◌∙◌, length, drop, get_or, length-set, get_or-set_other, get_or-set_same, below_more, ap, sym, subst, arith}
use Rattle.std.specs.List.{AllZip}
use Rattle.std.proofs.lemmas.List.{get_or_default, take_at}
use Rattle.function_model.specs.Rising.{AgreeAtSamePlaces}
use Rattle.function_model.specs.declared.model.Table.{Table}
use Rattle.element_models.specs.Filling.{IsRaised}
use Rattle.element_models.proofs.Raising.{each_raised}
use Rattle.element_models.proofs.rows.raise_tables.Goals as goal

-- the table at the index is the given one
pub raise_rows-requires : goal.raise_rows-requires
raise_rows-requires c =
    let within : c.loop-table.table-index < length c.args.tables.now.items = omega (arith, c.loop-table.invariant.many) in
    subst (λ (t : Table). AgreeAtSamePlaces t.rows)
    (sym (c.loop-table.invariant.given c.loop-table.table-index (omega arith) c.table-item.result))
    (c.requires c.loop-table.table-index c.table-item.result within)

-- the table at the index is raised, and no other changes
pub loop-table-preserved : goal.loop-table-preserved
loop-table-preserved c =
    let i = c.loop-table.table-index in
    let lt : i < length c.loop-table.table-items = omega arith in
    let kept = c.loop-table.invariant in record {
      raised = below_more _ _
          (λ k h d. let ne : k ≢ i = omega arith in rw get_or-set_other (kept.raised k h d))
          (λ d.
          let given : get_or c.loop-table.table-items i c.table-item.result ≡ get_or c.args.tables.now.items i d =
          kept.given i (omega arith) c.table-item.result ∙ get_or_default c.args.tables.now.items i c.table-item.result d (omega (arith, kept.many)) in
          rw get_or-set_same (subst (λ (t : Table). IsRaised t c.raise_rows.new.table) given c.raise_rows.ensures));
      given = λ k h d. let ne : k ≢ i = omega arith in rw get_or-set_other (kept.given k (omega arith) d);
      many = length-set c.loop-table.table-items i c.raise_rows.new.table ∙ kept.many;
    }

pub returns : goal.returns
returns c =
    let kept = c.loop-table.invariant in
    let whole : c.args.tables.now.len ≡ length c.args.tables.now.items =
    omega (arith, c.deref_mut-table-items.ensures.len, ap length c.deref_mut-table-items.ensures.value) in
    subst (AllZip IsRaised c.args.tables.now.items)
    (sym (take_at c.loop-table.table-items (drop (length c.loop-table.table-items) c.args.tables.now.items) c.args.tables.now.len (kept.many ∙ sym whole)))
    (each_raised c.args.tables.now.items c.loop-table.table-items kept.many (λ k h d. kept.raised k (omega (arith, kept.many)) d))
