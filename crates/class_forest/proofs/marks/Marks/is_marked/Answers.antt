use Rattle.std.proofs.Common.{◌<◌, false, length, sym, ◌∙◌, arith}
use Rattle.std.proofs.lemmas.List.{get_or_read}
use Rattle.class_forest.proofs.Marking.{is_mark-Contains, Contains-is_mark}
use Rattle.class_forest.proofs.marks.Marks.is_marked.Goals as goal

pub returns : goal.returns
returns c =
    let flags = c.self.inside.is_marked in
    let below = rw (← c.self.view_is) at c.requires in
    let within : c.args.number < length flags.items = omega (arith, flags.ok.0) in
    let flag = get_or_read flags.items c.args.number c.index.result.now within c.index.ensures false ∙ c.self.invariant.0.flag_at c.args.number within in
    rw (← c.self.view_is) (λ is. is_mark-Contains _ c.args.number (sym flag ∙ is), λ among. flag ∙ Contains-is_mark _ c.args.number among)
