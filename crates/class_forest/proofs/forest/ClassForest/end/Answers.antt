use Rattle.std.proofs.Common.{◌<◌, None, length, sym, ◌∙◌, arith}
use Rattle.std.proofs.lemmas.List.{get_or_read}
use Rattle.class_forest.proofs.Endings.{end_of-gone_in, end_of-still_in}
use Rattle.class_forest.proofs.forest.ClassForest.end.Goals as goal

pub returns-in-Some : goal.returns-in-Some
returns-in-Some c =
    let kept = c.self.invariant.0 in
    let class_in = rw (← c.self.view_is) at c.requires in
    let within : c.args.class < length c.self.inside.gone.items = omega (arith, kept.gone_count) in
    let gone = get_or_read c.self.inside.gone.items c.args.class c.index.result.now within c.index.ensures None ∙ kept.gone_at c.args.class class_in in
    rw (← c.self.view_is) (sym (end_of-gone_in _ c.args.class _ (sym gone ∙ c.in-Some.is)))

pub returns-in-None : goal.returns-in-None
returns-in-None c =
    let kept = c.self.invariant.0 in
    let class_in = rw (← c.self.view_is) at c.requires in
    let within : c.args.class < length c.self.inside.gone.items = omega (arith, kept.gone_count) in
    let gone = get_or_read c.self.inside.gone.items c.args.class c.index.result.now within c.index.ensures None ∙ kept.gone_at c.args.class class_in in
    rw (← c.self.view_is) (c.len.ensures ∙ (c.self.inside.log.ok.0 ∙ sym (end_of-still_in _ c.args.class (sym gone ∙ c.in-None.is))))
