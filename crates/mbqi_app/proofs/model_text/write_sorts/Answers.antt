use Rattle.std.proofs.Common.{◌≤◌, ◌++◌, List, ℕ, length, min, arith, ap, sym, ◌∙◌, append-nil}
use Rattle.mbqi_app.proofs.TextLines.{sorts_text_end}
use Rattle.mbqi_app.proofs.model_text.write_sorts.Goals as goal

-- no line is left
pub returns-clause-ok : goal.returns-clause-ok
returns-clause-ok c =
    let at_end : min (length c.args.names.now) (length c.args.sizes.now) ≤ c.loop-at.at = omega arith in
    sym (append-nil c.loop-at.into.items)
    ∙ (ap (λ (rest : List ℕ). c.loop-at.into.items ++ rest) (sym (sorts_text_end c.args.names.now c.args.sizes.now c.loop-at.at at_end)) ∙ c.loop-at.invariant.0)
