-- The innermost binding of a name is the last entry of the name.
use Rattle.term_reader.proofs.Ends.{bound_in}
use Rattle.term_reader.proofs.scope.Scope.find.Goals as goal

pub returns : goal.returns
returns c = rw (← c.self.view_is) (bound_in c.args.name.now c.self.inside.bindings c.find.result c.find.ensures)
