use Rattle.std.proofs.Common.{◌∙◌, List, [], ◌∷◌, ◌++◌, ap, take}
use Rattle.std.proofs.lemmas.List.{take_more}
use Rattle.mbqi_terms.specs.declared.sort.Binder.{Binder}
use Rattle.mbqi_terms.specs.declared.sort.Sort.TheVariants as sort
use Rattle.element_atoms.specs.Profile.{the_sort}
use Rattle.first_profile.proofs.Deciding.{next_variable, variable_at}
use Rattle.first_profile.proofs.rules.are_variables.Goals as goal

abbrev other : Binder
other = record { place = 0; sort = sort.Truth }

pub returns-then-not-is_variable : goal.returns-then-not-is_variable
returns-then-not-is_variable c = (
  λ h. let none : ⊥ = cc in absurd none,
  λ are.
      let holds = c.is_variable.ensures.1 (variable_at c.args.binders.now c.loop-place.place other are c.loop-place-test.true) in
      let none : ⊥ = cc in absurd none,
)

pub loop-place-preserved : goal.loop-place-preserved
loop-place-preserved c =
    let i = c.loop-place.place in
    let here = c.is_variable.ensures.0 c.if-not-is_variable.false in
    take_more c.args.binders.now i other c.loop-place-test.true
    ∙ (ap (λ (b : Binder). take i c.args.binders.now ++ b ∷ []) here
    ∙ (ap (λ (bs : List Binder). bs ++ record { place = i; sort = the_sort } ∷ []) c.loop-place.invariant ∙ next_variable i))
