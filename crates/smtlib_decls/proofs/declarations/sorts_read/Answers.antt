-- The first fault was found.
use Rattle.std.proofs.Common.{◌≡◌, ◌+◌, drop, List, ◌∷◌, ◌∙◌, ap, arith}
use Rattle.std.proofs.lemmas.Result.{err_from_is_err_and}
use Rattle.std.proofs.lemmas.Grind.{common_steps}
use Rattle.sexpr_text.specs.declared.tree.Sexpr.{Sexpr}
use Rattle.smtlib_decls.specs.Takes.{sorts_behind}
use Rattle.smtlib_decls.proofs.SortsRead.{sorts_faulty}
use Rattle.smtlib_decls.proofs.declarations.sorts_read.Goals as goal

pub returns-in_err-read_sort : goal.returns-in_err-read_sort
returns-in_err-read_sort c =
    let at : drop c.loop-tree.tree-index c.args.trees.now ≡ c.tree-item.result ∷ drop (c.loop-tree.tree-index + 1) c.args.trees.now = grind (arith, common_steps) in
    let read = c.in_err-read_sort.ensures in
    let whole = c.loop-tree.invariant ∙ ap (λ (ts : List Sexpr). sorts_behind c.loop-tree.sorts c.args.names.now ts) at in
    let p = err_from_is_err_and c.from_residual.result c.from_residual.ensures.1 in
    rw (p.1, p.2, whole) (sorts_faulty _ c.loop-tree.sorts c.args.names.now c.tree-item.result (drop (c.loop-tree.tree-index + 1) c.args.trees.now) read)
