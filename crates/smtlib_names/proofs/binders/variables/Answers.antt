-- One more binder was read, or the first fault was found.
use Rattle.std.proofs.Common.{◌≡◌, ◌+◌, drop, List, ◌∷◌, Ok, ◌∙◌, ap, arith}
use Rattle.std.proofs.lemmas.Result.{err_from_is_err_and}
use Rattle.std.proofs.lemmas.Grind.{common_steps}
use Rattle.sexpr_text.specs.declared.tree.Sexpr.{Sexpr}
use Rattle.smtlib_names.specs.Binders.{variable_read, variables_behind}
use Rattle.smtlib_names.proofs.BindersRead.{variable_new, variables_faulty, variables_step}
use Rattle.smtlib_names.proofs.Named.{new_name}
use Rattle.smtlib_names.proofs.binders.variables.Goals as goal

pub loop-tree-preserved : goal.loop-tree-preserved
loop-tree-preserved c =
    let at : drop c.loop-tree.tree-index c.args.trees.now ≡ c.tree-item.result ∷ drop (c.loop-tree.tree-index + 1) c.args.trees.now = grind (arith, common_steps) in
    let read : variable_read c.tree-item.result c.args.sorts.now c.loop-tree.place c.loop-tree.seen ≡ Ok c.in_ok-next.next = c.in_ok-next.ensures in
    let rest = variables_step c.loop-tree.variables c.tree-item.result (drop (c.loop-tree.tree-index + 1) c.args.trees.now) c.args.sorts.now c.loop-tree.place c.loop-tree.seen c.in_ok-next.next read in
    let whole = c.loop-tree.invariant ∙ ap (λ (ts : List Sexpr). variables_behind c.loop-tree.variables ts c.args.sorts.now c.loop-tree.place c.loop-tree.seen) at ∙ rest in
    let seen_next = new_name c.loop-tree.seen c.in_ok-next.next.name (variable_new c.tree-item.result c.args.sorts.now c.loop-tree.place c.loop-tree.seen c.in_ok-next.next read) in
    rw (c.in_ok-push.ensures.ok, c.in_ok-insert.ensures.ok, c.as_slice.ensures, seen_next, c.in_ok-following.ensures) whole

pub returns-in_err-next : goal.returns-in_err-next
returns-in_err-next c =
    let at : drop c.loop-tree.tree-index c.args.trees.now ≡ c.tree-item.result ∷ drop (c.loop-tree.tree-index + 1) c.args.trees.now = grind (arith, common_steps) in
    let read = c.in_err-next.ensures in
    let whole = c.loop-tree.invariant ∙ ap (λ (ts : List Sexpr). variables_behind c.loop-tree.variables ts c.args.sorts.now c.loop-tree.place c.loop-tree.seen) at in
    let p = err_from_is_err_and c.from_residual.result c.from_residual.ensures.1 in
    rw (p.1, p.2, whole) (variables_faulty _ c.loop-tree.variables c.tree-item.result (drop (c.loop-tree.tree-index + 1) c.args.trees.now) c.args.sorts.now c.loop-tree.place c.loop-tree.seen read)
