use Rattle.std.proofs.Common.{◌≡◌, ◌++◌, take, codes}
use Rattle.std.specs.List.{flat_map}
use Rattle.sexpr_text.specs.Text.{text_of}
use Rattle.sexpr_text.proofs.writer.+write.Given as goal

abbrev pub invariant-append_parts-loop-part : goal.invariant-append_parts-loop-part
invariant-append_parts-loop-part l = l.into.items ≡ l.initial.into.items ++ flat_map (λ part. codes " " ++ text_of part) (take l.part-index l.more)
