use Rattle.std.proofs.Common.{◌≡◌, List, ◌++◌, length, take, refl, sym, ap, subst, ◌∙◌, false}
use Rattle.std.specs.List.{AllZip, flat_map}
use Rattle.mbqi_values.specs.declared.lit.Lit.{Lit}
use Rattle.std.proofs.lemmas.Option.{slice_get_read}
use Rattle.mbqi_terms.specs.declared.formula.Formula.TheVariants as formula
use Rattle.ground_form.specs.Clauses.{AddsClauses, IsLitOf}
use Rattle.ground_form.specs.Definitions.{definitions_in, parts_in}
use Rattle.ground_form.specs.Rows.{conjunction_rows, constant_rows, disjunction_rows}
use Rattle.ground_form.proofs.Atoms.{no_definitions}
use Rattle.ground_form.proofs.Defining.{adds_not, adds_truth}
use Rattle.ground_form.proofs.Growth.{adds_none, adds_stay, grows_again, lit_stays, lits_stay, on_ok, zip_index}
use Rattle.ground_form.proofs.Parts.{adds_next, grows_at, grows_below_all, grows_below_any, grows_below_choice, grows_below_iff, grows_below_not}
use Rattle.ground_form.proofs.Steps.{all_step, any_step, below_not, choice_grows, choice_grows_condition, choice_grows_yes, choice_step, iff_grows, iff_grows_left, iff_step}
use Rattle.ground_form.proofs.clauses.+definitions.Goals as goal

-- the formulas of a list
pub push_all_definitions-returns-in_err-push_definitions-clause-grows :
    goal.push_all_definitions-returns-in_err-push_definitions-clause-grows
push_all_definitions-returns-in_err-push_definitions-clause-grows t c =
    let parts = c.args.parts.now in
    let i = c.loop-at.at in
    let here = slice_get_read parts (length parts) i c.index-parts-at.result refl c.loop-at-test.true c.index-parts-at.is in
    grows_at parts i c.index-parts-at.result here c.args.table.now c.loop-at.table c.push_definitions.new.table c.loop-at.invariant.grows
    c.push_definitions.ensures.grows

pub push_all_definitions-loop-at-preserved : goal.push_all_definitions-loop-at-preserved
push_all_definitions-loop-at-preserved t c =
    let parts = c.args.parts.now in
    let part = c.index-parts-at.result in
    let i = c.loop-at.at in
    let before = c.loop-at.table in
    let after = c.push_definitions.new.table in
    let here = slice_get_read parts (length parts) i part refl c.loop-at-test.true c.index-parts-at.is in
    record {
      grows = grows_at parts i part here c.args.table.now before after c.loop-at.invariant.grows c.push_definitions.ensures.grows;
      clauses = λ zip.
          let now = lits_stay (flat_map parts_in parts) c.args.table.now before c.loop-at.invariant.grows c.args.lits.now parts zip in
          let own = zip_index (IsLitOf before) c.args.lits.now parts i (record { atom = 0; yes = false }) part here now in
          let so_far = adds_stay (parts_in part) before after c.push_definitions.ensures.grows c.args.clauses.now c.loop-at.clauses
          (flat_map definitions_in (take i parts)) (c.loop-at.invariant.clauses zip) in
          adds_next after c.args.clauses.now c.loop-at.clauses c.push_definitions.new.clauses parts i part here so_far
          (c.in_ok-push_definitions.ensures.clauses own);
    }

-- a constant, and what has no parts
pub push_definitions-returns-in-Truth-clause-clauses : goal.push_definitions-returns-in-Truth-clause-clauses
push_definitions-returns-in-Truth-clause-clauses t c = λ own.
    on_ok c.push_constant.result (c.push_constant.new.clauses ≡ c.args.clauses.now ++ constant_rows c.in-Truth.truth c.args.lit)
    (AddsClauses c.args.table.now c.args.clauses.now c.push_constant.new.clauses (definitions_in c.args.f.now))
    (adds_truth c.args.table.now c.args.f.now c.args.lit own c.args.clauses.now c.push_constant.new.clauses c.in-Truth.truth c.in-Truth.is)
    c.push_constant.ensures

pub push_definitions-returns-in_default-clause-clauses : goal.push_definitions-returns-in_default-clause-clauses
push_definitions-returns-in_default-clause-clauses t c = λ own.
    subst (AddsClauses c.args.table.now c.args.clauses.now c.args.clauses.now)
    (sym (no_definitions c.args.f.now c.in_default.not-Truth c.in_default.not-Not c.in_default.not-All c.in_default.not-Any
    c.in_default.not-Iff c.in_default.not-Choose))
    (adds_none c.args.table.now c.args.clauses.now)

-- a negation
pub push_definitions-returns-in-Not-clause-grows : goal.push_definitions-returns-in-Not-clause-grows
push_definitions-returns-in-Not-clause-grows t c =
    grows_below_not c.args.f.now c.args.table.now c.push_definitions.new.table c.get.result.now (c.in-Not.is ∙ ap formula.Not (sym
    c.get.ensures)) c.push_definitions.ensures.grows

pub push_definitions-returns-in-Not-clause-clauses : goal.push_definitions-returns-in-Not-clause-clauses
push_definitions-returns-in-Not-clause-clauses t c = λ own.
    let is = c.in-Not.is ∙ ap formula.Not (sym c.get.ensures) in
    let adds : AddsClauses c.push_definitions.new.table c.args.clauses.now c.push_definitions.new.clauses (definitions_in c.get.result.now)
    → AddsClauses c.push_definitions.new.table c.args.clauses.now c.push_definitions.new.clauses (definitions_in c.args.f.now) =
    adds_not c.push_definitions.new.table c.args.f.now c.get.result.now c.args.clauses.now c.push_definitions.new.clauses is in
    on_ok c.push_definitions.result
    (AddsClauses c.push_definitions.new.table c.args.clauses.now c.push_definitions.new.clauses (definitions_in c.get.result.now))
    (AddsClauses c.push_definitions.new.table c.args.clauses.now c.push_definitions.new.clauses (definitions_in c.args.f.now)) adds
    (c.push_definitions.ensures.clauses (below_not c.args.table.now c.args.f.now c.get.result.now c.args.lit c.negated.result is
    c.negated.ensures own))

-- a conjunction
pub push_definitions-returns-in_err-lits-in-All-clause-grows : goal.push_definitions-returns-in_err-lits-in-All-clause-grows
push_definitions-returns-in_err-lits-in-All-clause-grows t c =
    grows_below_all c.args.f.now c.args.table.now c.define_all.new.table c.as_slice-parts.result.now (c.in-All.is ∙ ap formula.All (sym
    c.as_slice-parts.ensures)) c.define_all.ensures.grows

pub push_definitions-returns-in_ok-lits-in-All-clause-grows : goal.push_definitions-returns-in_ok-lits-in-All-clause-grows
push_definitions-returns-in_ok-lits-in-All-clause-grows t c =
    let is = (c.in-All.is ∙ ap formula.All (sym c.as_slice-parts.ensures)) in
    grows_again (parts_in c.args.f.now) c.args.table.now c.define_all.new.table c.push_all_definitions.new.table
    (grows_below_all c.args.f.now c.args.table.now c.define_all.new.table c.as_slice-parts.result.now is c.define_all.ensures.grows)
    (grows_below_all c.args.f.now c.define_all.new.table c.push_all_definitions.new.table c.as_slice-parts.result.now is
    c.push_all_definitions.ensures.grows)

pub push_definitions-returns-in_ok-lits-in-All-clause-clauses : goal.push_definitions-returns-in_ok-lits-in-All-clause-clauses
push_definitions-returns-in_ok-lits-in-All-clause-clauses t c = λ own.
    let first = c.define_all.new.table in
    let last = c.push_all_definitions.new.table in
    let fs = c.as_slice-parts.result.now in
    let lits = c.as_slice.result.now in
    let zip = subst (λ (ls : List Lit). AllZip (IsLitOf first) ls fs) (sym c.as_slice.ensures) c.in_ok-lits-in-All.ensures.lits in
    let rows = c.in_ok-lits-in-All.ensures.clauses ∙ ap (λ (ls : List Lit). c.args.clauses.now ++ conjunction_rows c.args.lit ls) (sym
    c.as_slice.ensures) in
    on_ok c.push_all_definitions.result (AddsClauses last c.define_all.new.clauses c.push_all_definitions.new.clauses (flat_map
    definitions_in fs))
    (AddsClauses last c.args.clauses.now c.push_all_definitions.new.clauses (definitions_in c.args.f.now))
    (λ rest. all_step c.args.f.now c.args.lit c.args.table.now first last c.args.clauses.now c.define_all.new.clauses
    c.push_all_definitions.new.clauses fs lits
    c.define_all.ensures.grows c.push_all_definitions.ensures.grows zip rest own (c.in-All.is ∙ ap formula.All (sym
    c.as_slice-parts.ensures)) rows)
    (c.push_all_definitions.ensures.clauses zip)

-- a disjunction
pub push_definitions-returns-in_err-lits-in-Any-clause-grows : goal.push_definitions-returns-in_err-lits-in-Any-clause-grows
push_definitions-returns-in_err-lits-in-Any-clause-grows t c =
    grows_below_any c.args.f.now c.args.table.now c.define_any.new.table c.as_slice-parts-in-Any.result.now (c.in-Any.is ∙ ap formula.Any
    (sym c.as_slice-parts-in-Any.ensures)) c.define_any.ensures.grows

pub push_definitions-returns-in_ok-lits-in-Any-clause-grows : goal.push_definitions-returns-in_ok-lits-in-Any-clause-grows
push_definitions-returns-in_ok-lits-in-Any-clause-grows t c =
    let is = (c.in-Any.is ∙ ap formula.Any (sym c.as_slice-parts-in-Any.ensures)) in
    grows_again (parts_in c.args.f.now) c.args.table.now c.define_any.new.table c.push_all_definitions-in-Any.new.table
    (grows_below_any c.args.f.now c.args.table.now c.define_any.new.table c.as_slice-parts-in-Any.result.now is c.define_any.ensures.grows)
    (grows_below_any c.args.f.now c.define_any.new.table c.push_all_definitions-in-Any.new.table c.as_slice-parts-in-Any.result.now is
    c.push_all_definitions-in-Any.ensures.grows)

pub push_definitions-returns-in_ok-lits-in-Any-clause-clauses : goal.push_definitions-returns-in_ok-lits-in-Any-clause-clauses
push_definitions-returns-in_ok-lits-in-Any-clause-clauses t c = λ own.
    let first = c.define_any.new.table in
    let last = c.push_all_definitions-in-Any.new.table in
    let fs = c.as_slice-parts-in-Any.result.now in
    let lits = c.as_slice-in-Any.result.now in
    let zip = subst (λ (ls : List Lit). AllZip (IsLitOf first) ls fs) (sym c.as_slice-in-Any.ensures) c.in_ok-lits-in-Any.ensures.lits in
    let rows = c.in_ok-lits-in-Any.ensures.clauses ∙ ap (λ (ls : List Lit). c.args.clauses.now ++ disjunction_rows c.args.lit ls) (sym
    c.as_slice-in-Any.ensures) in
    on_ok c.push_all_definitions-in-Any.result (AddsClauses last c.define_any.new.clauses c.push_all_definitions-in-Any.new.clauses
    (flat_map definitions_in fs))
    (AddsClauses last c.args.clauses.now c.push_all_definitions-in-Any.new.clauses (definitions_in c.args.f.now))
    (λ rest. any_step c.args.f.now c.args.lit c.args.table.now first last c.args.clauses.now c.define_any.new.clauses
    c.push_all_definitions-in-Any.new.clauses fs lits
    c.define_any.ensures.grows c.push_all_definitions-in-Any.ensures.grows zip rest own (c.in-Any.is ∙ ap formula.Any (sym
    c.as_slice-parts-in-Any.ensures)) rows)
    (c.push_all_definitions-in-Any.ensures.clauses zip)

-- that two formulas have one truth
pub push_definitions-returns-in_err-first-in-Iff-clause-grows : goal.push_definitions-returns-in_err-first-in-Iff-clause-grows
push_definitions-returns-in_err-first-in-Iff-clause-grows t c =
    grows_below_iff c.args.f.now c.args.table.now c.define_iff.new.table c.get-left.result.now c.get-right.result.now (c.in-Iff.is ∙ λ i.
    formula.Iff (sym c.get-left.ensures i) (sym c.get-right.ensures i)) c.define_iff.ensures.grows

pub push_definitions-returns-in_err-push_definitions-in-Iff-clause-grows :
    goal.push_definitions-returns-in_err-push_definitions-in-Iff-clause-grows
push_definitions-returns-in_err-push_definitions-in-Iff-clause-grows t c =
    iff_grows_left c.args.f.now c.get-left.result.now c.get-right.result.now (c.in-Iff.is ∙ λ i. formula.Iff (sym c.get-left.ensures i)
    (sym c.get-right.ensures i)) c.args.table.now
    c.define_iff.new.table c.push_definitions-in-Iff.new.table c.push_definitions-in-Iff.new.table c.define_iff.ensures.grows
    c.push_definitions-in-Iff.ensures.grows

pub push_definitions-returns-in_ok-push_definitions-in-Iff-clause-grows :
    goal.push_definitions-returns-in_ok-push_definitions-in-Iff-clause-grows
push_definitions-returns-in_ok-push_definitions-in-Iff-clause-grows t c =
    iff_grows c.args.f.now c.get-left.result.now c.get-right.result.now (c.in-Iff.is ∙ λ i. formula.Iff (sym c.get-left.ensures i) (sym
    c.get-right.ensures i)) c.args.table.now
    c.define_iff.new.table c.push_definitions-in-Iff.new.table c.push_definitions-in-Iff-2.new.table c.define_iff.ensures.grows
    c.push_definitions-in-Iff.ensures.grows c.push_definitions-in-Iff-2.ensures.grows

pub push_definitions-returns-in_ok-push_definitions-in-Iff-clause-clauses :
    goal.push_definitions-returns-in_ok-push_definitions-in-Iff-clause-clauses
push_definitions-returns-in_ok-push_definitions-in-Iff-clause-clauses t c = λ own.
    let first = c.define_iff.new.table in
    let second = c.push_definitions-in-Iff.new.table in
    let third = c.push_definitions-in-Iff-2.new.table in
    let left_rows = c.in_ok-push_definitions-in-Iff.ensures.clauses c.in_ok-first-in-Iff.ensures.left in
    let right = lit_stays (parts_in c.get-left.result.now) first second c.push_definitions-in-Iff.ensures.grows c.in_ok-first-in-Iff.second
    c.get-right.result.now c.in_ok-first-in-Iff.ensures.right in
    on_ok c.push_definitions-in-Iff-2.result (AddsClauses third c.push_definitions-in-Iff.new.clauses
    c.push_definitions-in-Iff-2.new.clauses (definitions_in c.get-right.result.now))
    (AddsClauses third c.args.clauses.now c.push_definitions-in-Iff-2.new.clauses (definitions_in c.args.f.now))
    (λ rest. iff_step c.args.f.now c.get-left.result.now c.get-right.result.now (c.in-Iff.is ∙ λ i. formula.Iff (sym c.get-left.ensures i)
    (sym c.get-right.ensures i))
    c.args.table.now first second third c.define_iff.ensures.grows c.push_definitions-in-Iff.ensures.grows
    c.push_definitions-in-Iff-2.ensures.grows c.args.lit c.in_ok-first-in-Iff.first c.in_ok-first-in-Iff.second c.args.clauses.now
    c.define_iff.new.clauses
    c.push_definitions-in-Iff.new.clauses c.push_definitions-in-Iff-2.new.clauses c.in_ok-first-in-Iff.ensures.left
    c.in_ok-first-in-Iff.ensures.right c.in_ok-first-in-Iff.ensures.clauses left_rows rest own)
    (c.push_definitions-in-Iff-2.ensures.clauses right)

-- a choice
pub push_definitions-returns-in_err-chooses-in-Choose-clause-grows : goal.push_definitions-returns-in_err-chooses-in-Choose-clause-grows
push_definitions-returns-in_err-chooses-in-Choose-clause-grows t c =
    grows_below_choice c.args.f.now c.args.table.now c.define_choice.new.table c.get-condition.result.now c.get-yes.result.now
    c.get-no.result.now
    (c.in-Choose.is ∙ λ i. formula.Choose (sym c.get-condition.ensures i) (sym c.get-yes.ensures i) (sym c.get-no.ensures i))
    c.define_choice.ensures.grows

pub push_definitions-returns-in_err-push_definitions-in-Choose-clause-grows :
    goal.push_definitions-returns-in_err-push_definitions-in-Choose-clause-grows
push_definitions-returns-in_err-push_definitions-in-Choose-clause-grows t c =
    choice_grows_condition c.args.f.now c.get-condition.result.now c.get-yes.result.now c.get-no.result.now
    (c.in-Choose.is ∙ λ i. formula.Choose (sym c.get-condition.ensures i) (sym c.get-yes.ensures i) (sym c.get-no.ensures i))
    c.args.table.now c.define_choice.new.table c.push_definitions-in-Choose.new.table
    c.push_definitions-in-Choose.new.table c.push_definitions-in-Choose.new.table c.define_choice.ensures.grows
    c.push_definitions-in-Choose.ensures.grows

pub push_definitions-returns-in_err-push_definitions-in-Choose-2-clause-grows :
    goal.push_definitions-returns-in_err-push_definitions-in-Choose-2-clause-grows
push_definitions-returns-in_err-push_definitions-in-Choose-2-clause-grows t c =
    choice_grows_yes c.args.f.now c.get-condition.result.now c.get-yes.result.now c.get-no.result.now
    (c.in-Choose.is ∙ λ i. formula.Choose (sym c.get-condition.ensures i) (sym c.get-yes.ensures i) (sym c.get-no.ensures i))
    c.args.table.now c.define_choice.new.table c.push_definitions-in-Choose.new.table
    c.push_definitions-in-Choose-2.new.table c.push_definitions-in-Choose-2.new.table c.define_choice.ensures.grows
    c.push_definitions-in-Choose.ensures.grows c.push_definitions-in-Choose-2.ensures.grows

pub push_definitions-returns-in_ok-push_definitions-in-Choose-2-clause-grows :
    goal.push_definitions-returns-in_ok-push_definitions-in-Choose-2-clause-grows
push_definitions-returns-in_ok-push_definitions-in-Choose-2-clause-grows t c =
    choice_grows c.args.f.now c.get-condition.result.now c.get-yes.result.now c.get-no.result.now
    (c.in-Choose.is ∙ λ i. formula.Choose (sym c.get-condition.ensures i) (sym c.get-yes.ensures i) (sym c.get-no.ensures i))
    c.args.table.now c.define_choice.new.table c.push_definitions-in-Choose.new.table
    c.push_definitions-in-Choose-2.new.table c.push_definitions-in-Choose-3.new.table c.define_choice.ensures.grows
    c.push_definitions-in-Choose.ensures.grows c.push_definitions-in-Choose-2.ensures.grows c.push_definitions-in-Choose-3.ensures.grows

pub push_definitions-returns-in_ok-push_definitions-in-Choose-2-clause-clauses :
    goal.push_definitions-returns-in_ok-push_definitions-in-Choose-2-clause-clauses
push_definitions-returns-in_ok-push_definitions-in-Choose-2-clause-clauses t c = λ own.
    let first = c.define_choice.new.table in
    let second = c.push_definitions-in-Choose.new.table in
    let third = c.push_definitions-in-Choose-2.new.table in
    let last = c.push_definitions-in-Choose-3.new.table in
    let condition_rows = c.in_ok-push_definitions-in-Choose.ensures.clauses c.in_ok-chooses-in-Choose.ensures.condition in
    let left = lit_stays (parts_in c.get-condition.result.now) first second c.push_definitions-in-Choose.ensures.grows
    c.in_ok-chooses-in-Choose.first c.get-yes.result.now c.in_ok-chooses-in-Choose.ensures.yes in
    let left_rows = c.in_ok-push_definitions-in-Choose-2.ensures.clauses left in
    let right = lit_stays (parts_in c.get-yes.result.now) second third c.push_definitions-in-Choose-2.ensures.grows
    c.in_ok-chooses-in-Choose.second c.get-no.result.now
    (lit_stays (parts_in c.get-condition.result.now) first second c.push_definitions-in-Choose.ensures.grows
    c.in_ok-chooses-in-Choose.second c.get-no.result.now c.in_ok-chooses-in-Choose.ensures.no) in
    on_ok c.push_definitions-in-Choose-3.result (AddsClauses last c.push_definitions-in-Choose-2.new.clauses
    c.push_definitions-in-Choose-3.new.clauses (definitions_in c.get-no.result.now))
    (AddsClauses last c.args.clauses.now c.push_definitions-in-Choose-3.new.clauses (definitions_in c.args.f.now))
    (λ rest. choice_step c.args.f.now c.get-condition.result.now c.get-yes.result.now c.get-no.result.now
    (c.in-Choose.is ∙ λ i. formula.Choose (sym c.get-condition.ensures i) (sym c.get-yes.ensures i) (sym c.get-no.ensures i))
    c.args.table.now c.define_choice.new.table second third last
    c.define_choice.ensures.grows c.push_definitions-in-Choose.ensures.grows c.push_definitions-in-Choose-2.ensures.grows
    c.push_definitions-in-Choose-3.ensures.grows c.args.lit c.in_ok-chooses-in-Choose.chooses c.in_ok-chooses-in-Choose.first
    c.in_ok-chooses-in-Choose.second c.args.clauses.now
    c.define_choice.new.clauses c.push_definitions-in-Choose.new.clauses c.push_definitions-in-Choose-2.new.clauses
    c.push_definitions-in-Choose-3.new.clauses c.in_ok-chooses-in-Choose.ensures.condition c.in_ok-chooses-in-Choose.ensures.yes
    c.in_ok-chooses-in-Choose.ensures.no c.in_ok-chooses-in-Choose.ensures.clauses
    condition_rows left_rows rest own)
    (c.push_definitions-in-Choose-3.ensures.clauses right)
