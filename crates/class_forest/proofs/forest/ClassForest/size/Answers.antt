use Rattle.std.proofs.Common.{◌<◌, None, length, sym, ◌∙◌, arith}
use Rattle.std.proofs.lemmas.List.{get_or_read}
use Rattle.class_forest.proofs.Endings.{class_of-gone_in, members-gone_in}
use Rattle.class_forest.proofs.Members.{length-members}
use Rattle.class_forest.proofs.forest.ClassForest.size.Goals as goal

pub returns-in-Some : goal.returns-in-Some
returns-in-Some c =
    let kept = c.self.invariant.0 in
    let class_in = rw (← c.self.view_is) at c.requires in
    let within : c.args.class < length c.self.inside.gone.items = omega (arith, kept.gone_count) in
    let gone = get_or_read c.self.inside.gone.items c.args.class c.index.result.now within c.index.ensures None ∙ kept.gone_at c.args.class class_in in
    rw (← c.self.view_is) (sym (members-gone_in _ _ kept.valid c.args.class c.in-Some.field-0 (sym gone ∙ c.in-Some.is)))

pub returns-in-None : goal.returns-in-None
returns-in-None c =
    let kept = c.self.invariant.0 in
    let class_in = rw (← c.self.view_is) at c.requires in
    let within : c.args.class < length c.self.inside.gone.items = omega (arith, kept.gone_count) in
    let in_sizes : c.args.class < length c.self.inside.sizes.items = omega (arith, kept.size_count) in
    let gone = get_or_read c.self.inside.gone.items c.args.class c.index.result.now within c.index.ensures None ∙ kept.gone_at c.args.class class_in in
    let size = get_or_read c.self.inside.sizes.items c.args.class c.index-in-None.result.now in_sizes c.index-in-None.ensures 0 ∙ kept.size_at c.args.class class_in in
    rw (← c.self.view_is) (size ∙ sym (length-members _ _ kept.valid c.args.class (class_of-gone_in _ c.args.class (sym gone ∙ c.in-None.is))))
