-- The table has the new macro's name last.
use Rattle.std.proofs.Common.{◌≡◌, false, subst, sym}
use Rattle.smtlib_terms.specs.Declaring.{Declarations, is_function}
use Rattle.smtlib_names.proofs.Named.{macros_with}
use Rattle.smtlib_names.proofs.names.Names.add_macro.Goals as goal

pub invariant_of-self-2 : goal.invariant_of-self-2
invariant_of-self-2 c =
    let d : Declarations = record { sorts = c.self.inside.sorts.items; functions = c.self.inside.functions.items; macros = c.self.inside.macros.items } in
    let new = subst (λ (d : Declarations). is_function d c.args.definition.name ≡ false) (sym c.self.view_is) c.requires in
    rw (c.in_ok-push.ensures.ok, c.as_slice.ensures, c.in_ok-name.ensures)
    (record {
      of_sorts = c.self.invariant.of_sorts;
      of_functions = c.self.invariant.of_functions;
      of_macros = macros_with d c.self.inside.macros.names c.args.definition c.self.invariant.of_macros new;
    })
