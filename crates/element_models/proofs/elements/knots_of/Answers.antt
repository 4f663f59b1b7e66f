use Rattle.std.proofs.lemmas.List.{map_more}
use Rattle.mbqi_terms.specs.declared.sort.Sort.{Sort}
use Rattle.element_models.specs.Elements.{elements_from}
use Rattle.element_atoms.specs.Profile.{the_sort}
use Rattle.element_models.proofs.elements.knots_of.Goals as goal

-- one more argument has the same knots
pub loop-arg-preserved : goal.loop-arg-preserved
loop-arg-preserved c =
    let step = map_more (λ (arg : Sort). elements_from 0 c.args.size) c.args.args.now c.loop-arg._arg-index the_sort c.loop-arg-test.true in
    cc (c.in_ok-push.ensures.items, c.in_ok-every_element.ensures)
