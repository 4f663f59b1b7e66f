-- A macro is found where its table has the name, and comes early enough.
use Rattle.std.proofs.Common.{◌<◌, ◌≤◌, arith}
use Rattle.smtlib_names.proofs.Named.{macro_found, macro_late, macro_missing, no_item}
use Rattle.smtlib_names.proofs.names.Names.macro_named.Goals as goal

pub returns-in_err-place : goal.returns-in_err-place
returns-in_err-place c =
    rw (c.from_residual.ensures, ← c.self.view_is)
    (macro_missing _ c.args.name.now c.args.first c.self.inside.macros.names c.self.invariant.of_macros c.in_err-place.ensures.value)

pub returns-in_err-definition : goal.returns-in_err-definition
returns-in_err-definition c =
    absurd (no_item _ c.self.inside.macros.items c.self.inside.macros.names c.in_ok-place.place c.args.name.now
    c.self.invariant.of_macros c.in_err-definition.ensures.value c.in_ok-place.ensures.found)

pub returns-then-place-first : goal.returns-then-place-first
returns-then-place-first c =
    let within : c.in_ok-place.place < c.args.first = omega arith in
    rw (← c.self.view_is)
    (macro_found _ c.args.name.now c.args.first c.in_ok-place.place c.self.inside.macros.names c.in_ok-definition.definition.now
    c.self.invariant.of_macros c.in_ok-definition.ensures.value c.in_ok-place.ensures.found c.in_ok-place.ensures.only within)

pub returns-else-place-first : goal.returns-else-place-first
returns-else-place-first c =
    let late : c.args.first ≤ c.in_ok-place.place = omega arith in
    rw (← c.self.view_is)
    (macro_late _ c.args.name.now c.args.first c.in_ok-place.place c.self.inside.macros.names c.self.invariant.of_macros c.in_ok-place.ensures.only late)
