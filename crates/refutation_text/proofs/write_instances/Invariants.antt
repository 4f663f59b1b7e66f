use Rattle.std.proofs.Common.{◌≡◌, ◌++◌, take}
use Rattle.refutation_text.specs.RefutationText.{instances_text}
use Rattle.refutation_text.proofs.write_instances.Given as goal

abbrev pub invariant-loop-line : goal.invariant-loop-line
invariant-loop-line l = l.into.items ≡ l.fn.into.items ++ instances_text l.script l.marks (take l.line-index l.lines)
