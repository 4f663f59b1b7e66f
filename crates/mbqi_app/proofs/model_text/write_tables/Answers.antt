use Rattle.std.proofs.Common.{◌≤◌, ◌++◌, List, ℕ, length, min, arith, ap, sym, ◌∙◌, append-nil}
use Rattle.mbqi_app.proofs.TextLines.{tables_text_end}
use Rattle.mbqi_app.proofs.model_text.write_tables.Goals as goal

-- no line is left
pub returns-clause-ok : goal.returns-clause-ok
returns-clause-ok c =
    let at_end : min (length c.args.functions.now) (length c.args.tables.now) ≤ c.loop-at.at = omega arith in
    sym (append-nil c.loop-at.into.items)
    ∙ (ap (λ (rest : List ℕ). c.loop-at.into.items ++ rest) (sym (tables_text_end c.args.functions.now c.args.tables.now c.loop-at.at at_end)) ∙ c.loop-at.invariant.0)
