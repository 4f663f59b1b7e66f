-- The table has the new function's name last.
use Rattle.std.proofs.Common.{◌≡◌, false, subst, sym}
use Rattle.smtlib_terms.specs.Declaring.{Declarations, is_function}
use Rattle.smtlib_names.proofs.Named.{functions_with}
use Rattle.smtlib_names.proofs.names.Names.add_function.Goals as goal

pub invariant_of-self-2 : goal.invariant_of-self-2
invariant_of-self-2 c =
    let d : Declarations = record { sorts = c.self.inside.sorts.items; functions = c.self.inside.functions.items; macros = c.self.inside.macros.items } in
    let new = subst (λ (d : Declarations). is_function d c.args.name.now ≡ false) (sym c.self.view_is) c.requires.new in
    rw c.in_ok-push.ensures.ok
    (record {
      of_sorts = c.self.invariant.of_sorts;
      of_functions = functions_with d c.self.inside.functions.names c.args.name.now c.args.function c.self.invariant.of_functions c.requires.named new;
      of_macros = c.self.invariant.of_macros;
    })
