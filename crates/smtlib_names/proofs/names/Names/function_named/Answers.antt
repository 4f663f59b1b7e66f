-- A function is found where its table has the name.
use Rattle.smtlib_names.proofs.Named.{function_found, function_missing, no_item}
use Rattle.smtlib_names.proofs.names.Names.function_named.Goals as goal

pub returns-in_err-number : goal.returns-in_err-number
returns-in_err-number c =
    rw (c.from_residual.ensures, ← c.self.view_is)
    (function_missing c.args.name.now c.self.inside.functions.items c.self.inside.functions.names c.self.invariant.of_functions c.in_err-number.ensures.value)

pub returns-in_err-function : goal.returns-in_err-function
returns-in_err-function c =
    absurd (no_item _ c.self.inside.functions.items c.self.inside.functions.names c.in_ok-number.number c.args.name.now
    c.self.invariant.of_functions c.in_err-function.ensures.value c.in_ok-number.ensures.found)

pub returns : goal.returns
returns c =
    rw (← c.self.view_is)
    (function_found c.args.name.now c.self.inside.functions.items c.self.inside.functions.names c.in_ok-number.number c.in_ok-function.function.now
    c.self.invariant.of_functions c.in_ok-function.ensures.value c.in_ok-number.ensures.found c.in_ok-number.ensures.only)
