use Rattle.std.proofs.Common.{ℕ, ◌≡◌, ◌-◌, true, false, List, [], ◌∷◌, ◌++◌, length, take, ap, ◌∙◌}
use Rattle.clause_search.specs.Course.{choices_from, is_chosen}
use Rattle.clause_search.specs.declared.step.Step.{Step}
use Rattle.clause_search.proofs.Choices.{choices_from-chosen, choices_from-implied, without_last}

-- How the search ends.

-- The frames that are left when the last step goes.
pub frames-popped : (frames left : List ℕ) (old front : List Step) (last : Step) → frames ≡ 0 ∷ choices_from 0 old
    → old ≡ front ++ last ∷ [] → is_chosen last.reason ≡ true → left ≡ take (length frames - 1) frames → left ≡ 0 ∷ choices_from 0 front
frames-popped frames left old front last are steps chosen closed =
    let before : frames ≡ (0 ∷ choices_from 0 front) ++ length front ∷ [] = are
    ∙ ap (λ (fs : List ℕ). 0 ∷ fs) (ap (choices_from 0) steps ∙ choices_from-chosen front last chosen) in
    closed ∙ (ap (λ (fs : List ℕ). take (length fs - 1) fs) before ∙ without_last (0 ∷ choices_from 0 front) (length front))

pub frames-kept : (frames : List ℕ) (old front : List Step) (last : Step) → frames ≡ 0 ∷ choices_from 0 old → old ≡ front ++ last ∷ []
    → is_chosen last.reason ≡ false → frames ≡ 0 ∷ choices_from 0 front
frames-kept frames old front last are steps implied =
    are ∙ ap (λ (fs : List ℕ). 0 ∷ fs) (ap (choices_from 0) steps ∙ choices_from-implied front last implied)
