use Rattle.std.proofs.Common.{◌≡◌, false, find, None, Some, sym, ◌∙◌}
use Rattle.clause_search.specs.Course.{truths_of}
use Rattle.clause_search.specs.Truths.{is_free, lit_on, true_on}
use Rattle.clause_search.proofs.FalseClauses.{false_on-from_none, free_lit-free, free_lit-within}
use Rattle.clause_search.proofs.Members.{IsConflict-member}
use Rattle.clause_search.proofs.passes.decide.Goals as goal

pub returns-in_default-free_lit-clause-conflict : goal.returns-in_default-free_lit-clause-conflict
returns-in_default-free_lit-clause-conflict g c =
    let theory = g.T.Theory in
    let truths = truths_of c.args.trail.now in
    let clause = c.in-Some.clause.now in
    let not_true : true_on truths clause ≡ false = rw c.truths.ensures.truths at c.in-Some.ensures.open in
    let none : find (λ lit. is_free (lit_on truths lit)) clause ≡ None =
    rw c.truths-2.ensures.truths at (sym c.free_lit.ensures ∙ c.in_default-free_lit.is) in
    rw c.in_ok-from_slice.ensures
    (IsConflict-member (theory.lawful (theory.problem c.args.theory.now)) c.args.clauses.now truths clause c.in-Some.ensures.some
    (false_on-from_none truths clause not_true none))

pub choose-requires-clause-within : goal.choose-requires-clause-within
choose-requires-clause-within g c =
    let truths = truths_of c.args.trail.now in
    let clause = c.in-Some.clause.now in
    let lit = c.in-Some-free_lit.lit in
    let found : find (λ l. is_free (lit_on truths l)) clause ≡ Some lit =
    rw c.truths-2.ensures.truths at (sym c.free_lit.ensures ∙ c.in-Some-free_lit.is) in
    free_lit-within c.args.trail.now.atoms truths c.args.clauses.now clause lit c.requires.below c.in-Some.ensures.some found

pub choose-requires-clause-free : goal.choose-requires-clause-free
choose-requires-clause-free g c =
    let truths = truths_of c.args.trail.now in
    let clause = c.in-Some.clause.now in
    let lit = c.in-Some-free_lit.lit in
    let found : find (λ l. is_free (lit_on truths l)) clause ≡ Some lit =
    rw c.truths-2.ensures.truths at (sym c.free_lit.ensures ∙ c.in-Some-free_lit.is) in
    free_lit-free truths clause lit found
