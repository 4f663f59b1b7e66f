-- The tables have the names of the items that are left.
use Rattle.std.proofs.Common.{ap, take}
use Rattle.smtlib_names.proofs.Named.{named_front}
use Rattle.smtlib_names.proofs.names.Names.release.Goals as goal

pub invariant_of-self : goal.invariant_of-self
invariant_of-self c =
    rw (c.truncate.ensures, c.truncate-2.ensures, c.truncate-3.ensures)
    (record {
      of_sorts = ap (take c.args.mark.sorts) c.self.invariant.of_sorts;
      of_functions = named_front _ c.args.mark.functions c.self.inside.functions.items c.self.inside.functions.names c.self.invariant.of_functions;
      of_macros = named_front _ c.args.mark.macros c.self.inside.macros.items c.self.inside.macros.names c.self.invariant.of_macros;
    })
