use Rattle.std.proofs.Common.{ap, inl}
use Rattle.mbqi_values.specs.declared.status.Status.TheVariants.{ScriptRefused}
use Rattle.mbqi_app.proofs.Solutions.{one_way, taken}
use Rattle.mbqi_app.proofs.solve.solve.Goals as goal

-- what has an answer is taken, so it isn't refused
pub returns-in-Ok-put_all-clause-refuses : goal.returns-in-Ok-put_all-clause-refuses
returns-in-Ok-put_all-clause-refuses g c refusal refused =
    let law = c.one_script_or_refusal.ensures in
    absurd (taken law.not_both law.one_script c.args.bytes.now refusal c.in-Ok.ensures.taken refused)

pub returns-in-Ok-clause-refuses : goal.returns-in-Ok-clause-refuses
returns-in-Ok-clause-refuses g c refusal refused =
    let law = c.one_script_or_refusal.ensures in
    absurd (taken law.not_both law.one_script c.args.bytes.now refusal c.in-Ok.ensures.taken refused)

-- what is refused isn't taken, and has one refusal
pub returns-in-Err-Refused-clause-complete : goal.returns-in-Err-Refused-clause-complete
returns-in-Err-Refused-clause-complete g c solvable =
    let law = c.one_script_or_refusal.ensures in
    let found = rw c.in-Err-Refused.field-0-is at c.in-Err-Refused.ensures.refused in
    absurd (taken law.not_both law.one_script c.args.bytes.now c.in-Err-Refused.refusal solvable found)

pub returns-in-Err-Refused-clause-refuses : goal.returns-in-Err-Refused-clause-refuses
returns-in-Err-Refused-clause-refuses g c refusal refused =
    let law = c.one_script_or_refusal.ensures in
    let found = rw c.in-Err-Refused.field-0-is at c.in-Err-Refused.ensures.refused in
    inl (ap ScriptRefused (one_way law.not_both law.one_refusal c.args.bytes.now c.in-Err-Refused.refusal refusal found refused))
