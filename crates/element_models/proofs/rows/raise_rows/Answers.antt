use Rattle.std.proofs.Common.{◌≡◌, ◌∙◌, List, Contains, ◌↔◌, refl, ap, sym, subst}
use Rattle.function_model.specs.Lookup.{value_at}
use Rattle.function_model.specs.Rising.{AgreeAtSamePlaces}
use Rattle.function_model.specs.declared.model.Row.{Row}
use Rattle.element_models.proofs.rows.raise_rows.Goals as goal

pub rising_rows-requires : goal.rising_rows-requires
rising_rows-requires c =
    let given : c.into_vec.result.items ≡ c.args.table.now.rows = c.into_vec.ensures ∙ c.replace-rows.ensures.value in
    subst AgreeAtSamePlaces (sym given) c.requires

pub returns : goal.returns
returns c =
    let given : c.into_vec.result.items ≡ c.args.table.now.rows = c.into_vec.ensures ∙ c.replace-rows.ensures.value in record {
      name = refl;
      knots = refl;
      default = refl;
      rising = c.rising_rows.ensures.rising;
      contains = λ row. subst (λ (given : List Row). Contains c.rising_rows.result row ↔ Contains given row) given (c.rising_rows.ensures.given row);
      same = λ knots args default. c.rising_rows.ensures.same knots args default ∙ ap (λ (given : List Row). value_at given knots args default) given;
    }
