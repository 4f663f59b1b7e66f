use Rattle.std.proofs.Common.{◌≡◌, ◌++◌, List, ℕ, append_assoc}
use Rattle.std.specs.Prelude.{codes}
use Rattle.mbqi_app.specs.ModelText.{model_text, sorts_text, tables_text}
use Rattle.mbqi_app.proofs.model_text.write_model.Goals as goal

assembled : (old head sorts tables tail : List ℕ) → old ++ head ++ sorts ++ tables ++ tail ≡ old ++ (head ++ sorts ++ tables ++ tail)
assembled old head sorts tables tail = simp append_assoc

pub returns-clause-ok : goal.returns-clause-ok
unfolding model_text
returns-clause-ok c =
    let whole = assembled c.args.into.now.items (codes "sat\n(model 1\n") (sorts_text c.args.script.now.sorts c.args.model.now.sizes)
    (tables_text c.args.script.now.functions c.args.model.now.tables) (codes ")\n") in
    cc (c.in_ok-extend_from_slice-2.ensures.items, c.in_ok-write_tables.ensures.ok, c.in_ok-write_sorts.ensures.ok, c.in_ok-extend_from_slice.ensures.items)
