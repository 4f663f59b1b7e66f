use Rattle.std.proofs.Common.{sym, ap, ◌∙◌}
use Rattle.smtlib_terms.specs.Words.{is_one_of}
use Rattle.smtlib_names.proofs.Named.{any_function}
use Rattle.smtlib_names.proofs.names.Names.is_declared.Goals as goal

pub returns : goal.returns
returns c =
    rw (← c.self.view_is)
    (c.contains.ensures ∙ (ap (λ names. is_one_of names c.args.name.now) c.self.invariant.of_functions ∙ sym (any_function c.self.inside.functions.items c.args.name.now)))
