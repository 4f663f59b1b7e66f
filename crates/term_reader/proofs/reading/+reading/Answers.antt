-- One more argument or binding was read, or the first fault was found.
use Rattle.std.proofs.Common.{◌≡◌, ◌+◌, ◌-◌, ◌++◌, Bool, length, take, drop, List, [], ◌∷◌, map, Ok, ◌∙◌, refl, ap, sym, arith}
use Rattle.std.specs.Prelude.{if◌then◌else◌}
use Rattle.std.proofs.lemmas.List.{map-append}
use Rattle.std.proofs.lemmas.Result.{err_from_is_err_and}
use Rattle.std.proofs.lemmas.Grind.{common_steps}
use Rattle.sexpr_text.specs.declared.tree.Sexpr.{Sexpr}
use Rattle.smtlib_terms.specs.Reading.{meant_by, part_of, binder_name, trees_in}
use Rattle.operator_arguments.specs.Measured.{meaning_of, meanings_of, side_of}
use Rattle.smtlib_terms.specs.Declaring.{names_before}
use Rattle.term_reader.specs.Plans.{arguments_behind, binding_among, bindings_behind}
use Rattle.term_reader.specs.Scopes.{binding_of, bindings_of}
use Rattle.term_reader.proofs.ArgumentsRead.{arguments_end, arguments_faulty, arguments_start, arguments_step, bindings_end, bindings_faulty, bindings_start, bindings_step}
use Rattle.term_reader.proofs.Ends.{bindings_end as one_more}
use Rattle.term_reader.proofs.ReadingLaws.{list_of_side, list_without_plan, list_without_side, symbol_fault}
use Rattle.term_reader.proofs.reading.+reading.Goals as goal

pub read_arguments-loop-part-init : goal.read_arguments-loop-part-init
read_arguments-loop-part-init t c = (refl, rw (c.new-args.ensures) (arguments_start c.args.counted (map part_of c.args.parts.now) (names_before c.args.names.now c.args.macros) c.args.scope.now c.args.next))

pub read_arguments-returns-in_err-m-clause-meant : goal.read_arguments-returns-in_err-m-clause-meant
read_arguments-returns-in_err-m-clause-meant t c =
    let at : drop c.loop-part.part-index c.args.parts.now ≡ c.part-item.result ∷ drop (c.loop-part.part-index + 1) c.args.parts.now = grind (arith, common_steps) in
    let read = rw c.loop-part.invariant.0 at c.in_err-m.ensures.meant in
    let whole = c.loop-part.invariant.1 ∙ ap (λ (ts : List Sexpr). arguments_behind (meanings_of c.loop-part.args) c.args.counted (map part_of ts) (names_before c.args.names.now c.args.macros) c.args.scope.now c.loop-part.next) at in
    let p = err_from_is_err_and c.from_residual.result c.from_residual.ensures.1 in
    rw (p.1, p.2, whole) (arguments_faulty _ (meanings_of c.loop-part.args) c.args.counted (part_of c.part-item.result) (map part_of (drop (c.loop-part.part-index + 1) c.args.parts.now)) (names_before c.args.names.now c.args.macros) c.args.scope.now c.loop-part.next read)

pub read_arguments-loop-part-preserved : goal.read_arguments-loop-part-preserved
read_arguments-loop-part-preserved t c =
    let at : drop c.loop-part.part-index c.args.parts.now ≡ c.part-item.result ∷ drop (c.loop-part.part-index + 1) c.args.parts.now = grind (arith, common_steps) in
    let read : meant_by c.part-item.result (names_before c.args.names.now c.args.macros) c.args.scope.now c.loop-part.next ≡ Ok (meaning_of c.in_ok-m.m) = rw c.loop-part.invariant.0 at c.in_ok-m.ensures.meant in
    let rest = arguments_step (meanings_of c.loop-part.args) c.args.counted (part_of c.part-item.result) (map part_of (drop (c.loop-part.part-index + 1) c.args.parts.now)) (names_before c.args.names.now c.args.macros) c.args.scope.now c.loop-part.next (meaning_of c.in_ok-m.m) read in
    let whole = c.loop-part.invariant.1 ∙ ap (λ (ts : List Sexpr). arguments_behind (meanings_of c.loop-part.args) c.args.counted (map part_of ts) (names_before c.args.names.now c.args.macros) c.args.scope.now c.loop-part.next) at ∙ rest in
    (c.in_ok-m.ensures.scope ∙ c.loop-part.invariant.0, rw (c.in_ok-push.ensures.ok, map-append, c.in_ok-following.ensures, c.counted_variables.ensures) whole)

pub read_arguments-returns-clause-meant : goal.read_arguments-returns-clause-meant
read_arguments-returns-clause-meant t c =
    let done : drop c.loop-part.part-index c.args.parts.now ≡ [] = grind (arith, common_steps) in
    c.loop-part.invariant.1 ∙ ap (λ (ts : List Sexpr). arguments_behind (meanings_of c.loop-part.args) c.args.counted (map part_of ts) (names_before c.args.names.now c.args.macros) c.args.scope.now c.loop-part.next) done
    ∙ arguments_end (meanings_of c.loop-part.args) c.args.counted (names_before c.args.names.now c.args.macros) c.args.scope.now c.loop-part.next

pub read_bindings-loop-tree-init : goal.read_bindings-loop-tree-init
read_bindings-loop-tree-init t c = (refl, rw (c.new-bindings.ensures, c.new-seen.ensures) (bindings_start c.args.trees.now (names_before c.args.names.now c.args.macros) c.args.scope.now c.args.next))

pub read_bindings-returns-in_err-binding-clause-meant : goal.read_bindings-returns-in_err-binding-clause-meant
read_bindings-returns-in_err-binding-clause-meant t c =
    let at : drop c.loop-tree.tree-index c.args.trees.now ≡ c.tree-item.result ∷ drop (c.loop-tree.tree-index + 1) c.args.trees.now = grind (arith, common_steps) in
    let read = rw c.loop-tree.invariant.0 at c.in_err-binding.ensures.meant in
    let whole = c.loop-tree.invariant.1 ∙ ap (λ (ts : List Sexpr). bindings_behind (bindings_of c.loop-tree.bindings) ts (names_before c.args.names.now c.args.macros) c.args.scope.now c.args.next c.loop-tree.seen) at in
    let p = err_from_is_err_and c.from_residual.result c.from_residual.ensures.1 in
    rw (p.1, p.2, whole) (bindings_faulty _ (bindings_of c.loop-tree.bindings) c.tree-item.result (drop (c.loop-tree.tree-index + 1) c.args.trees.now) (names_before c.args.names.now c.args.macros) c.args.scope.now c.args.next c.loop-tree.seen read)

pub read_bindings-loop-tree-preserved : goal.read_bindings-loop-tree-preserved
read_bindings-loop-tree-preserved t c =
    let at : drop c.loop-tree.tree-index c.args.trees.now ≡ c.tree-item.result ∷ drop (c.loop-tree.tree-index + 1) c.args.trees.now = grind (arith, common_steps) in
    let read : binding_among (trees_in c.tree-item.result) (binder_name c.tree-item.result) (names_before c.args.names.now c.args.macros) c.args.scope.now c.args.next c.loop-tree.seen ≡ Ok (binding_of c.in_ok-binding.binding) = rw c.loop-tree.invariant.0 at c.in_ok-binding.ensures.meant in
    let rest = bindings_step (bindings_of c.loop-tree.bindings) c.tree-item.result (drop (c.loop-tree.tree-index + 1) c.args.trees.now) (names_before c.args.names.now c.args.macros) c.args.scope.now c.args.next c.loop-tree.seen (binding_of c.in_ok-binding.binding) read in
    let whole = c.loop-tree.invariant.1 ∙ ap (λ (ts : List Sexpr). bindings_behind (bindings_of c.loop-tree.bindings) ts (names_before c.args.names.now c.args.macros) c.args.scope.now c.args.next c.loop-tree.seen) at ∙ rest in
    let seen_next = ap (λ (there : Bool). if there then c.loop-tree.seen else c.loop-tree.seen ++ c.in_ok-binding.binding.name ∷ []) c.in_ok-binding.ensures.new in
    (c.in_ok-binding.ensures.scope ∙ c.loop-tree.invariant.0, rw (c.in_ok-push.ensures.ok, one_more, c.in_ok-insert.ensures.ok, c.as_slice.ensures, seen_next) whole)

pub read_bindings-returns-clause-meant : goal.read_bindings-returns-clause-meant
read_bindings-returns-clause-meant t c =
    let done : drop c.loop-tree.tree-index c.args.trees.now ≡ [] = grind (arith, common_steps) in
    c.loop-tree.invariant.1 ∙ ap (λ (ts : List Sexpr). bindings_behind (bindings_of c.loop-tree.bindings) ts (names_before c.args.names.now c.args.macros) c.args.scope.now c.args.next c.loop-tree.seen) done
    ∙ bindings_end (bindings_of c.loop-tree.bindings) (names_before c.args.names.now c.args.macros) c.args.scope.now c.args.next c.loop-tree.seen

pub read_list-returns-in_err-plan-clause-meant : goal.read_list-returns-in_err-plan-clause-meant
read_list-returns-in_err-plan-clause-meant t c =
    let at : c.args.trees.now ≡ c.head-item.result ∷ take (length c.args.trees.now - 1) (drop 1 c.args.trees.now) = grind (arith, common_steps) in
    let p = err_from_is_err_and c.from_residual-in_err-plan.result c.from_residual-in_err-plan.ensures.1 in
    rw (p.1, p.2) (list_without_plan _ c.args.trees.now c.head-item.result (take (length c.args.trees.now - 1) (drop 1 c.args.trees.now)) c.args.names.now c.args.macros c.args.scope.now c.args.next at c.in_err-plan.ensures)

pub read_list-returns-in_err-side-clause-meant : goal.read_list-returns-in_err-side-clause-meant
read_list-returns-in_err-side-clause-meant t c =
    let at : c.args.trees.now ≡ c.head-item.result ∷ take (length c.args.trees.now - 1) (drop 1 c.args.trees.now) = grind (arith, common_steps) in
    let p = err_from_is_err_and c.from_residual-in_err-side.result c.from_residual-in_err-side.ensures.1 in
    let fault = rw c.text_of.ensures at c.in_err-side.ensures.meant in
    rw (p.1, p.2) (list_without_side _ c.args.trees.now c.head-item.result (take (length c.args.trees.now - 1) (drop 1 c.args.trees.now)) c.in_ok-plan.plan c.args.names.now c.args.macros c.args.scope.now c.args.next at c.in_ok-plan.ensures fault)

pub read_list-returns-clause-meant : goal.read_list-returns-clause-meant
read_list-returns-clause-meant t c =
    let at : c.args.trees.now ≡ c.head-item.result ∷ take (length c.args.trees.now - 1) (drop 1 c.args.trees.now) = grind (arith, common_steps) in
    let is = rw c.text_of.ensures at c.in_ok-side.ensures.meant in
    rw (list_of_side c.args.trees.now c.head-item.result (take (length c.args.trees.now - 1) (drop 1 c.args.trees.now)) c.in_ok-plan.plan (side_of c.in_ok-side.side) c.args.names.now c.args.macros c.args.scope.now c.args.next at c.in_ok-plan.ensures is) c.shallow.ensures

pub read_side-returns-in_err-m-in-None-clause-meant : goal.read_side-returns-in_err-m-in-None-clause-meant
read_side-returns-in_err-m-in-None-clause-meant t c =
    let p = err_from_is_err_and c.from_residual.result c.from_residual.ensures.1 in
    let fault = rw (c.new-none.ensures, c.as_slice-in-None.ensures) at c.in_err-m-in-None.ensures in
    let none = rw c.as_slice.ensures at c.in-None.ensures in
    rw (c.in-Symbol.is, p.1, p.2) (symbol_fault _ (names_before c.args.names.now c.args.macros) c.args.scope.now c.in-Symbol.text c.args.next (sym none) fault)
