use Rattle.std.proofs.Common.{ap, inl, subst}
use Rattle.mbqi_values.specs.declared.status.Status.TheVariants.{Done, ScriptRefused}
use Rattle.mbqi_app.specs.Answer.{TookFront}
use Rattle.mbqi_app.proofs.print.print.Goals as goal

-- what has a meaning isn't refused
pub returns-in-Ok-put_all-clause-refuses : goal.returns-in-Ok-put_all-clause-refuses
returns-in-Ok-put_all-clause-refuses g c refusal refused =
    absurd (c.one_script_or_refusal.ensures.not_both c.args.bytes.now c.in-Ok.ensures.text.0 refusal c.in-Ok.ensures.text.1 refused)

pub returns-in-Ok-clause-refuses : goal.returns-in-Ok-clause-refuses
returns-in-Ok-clause-refuses g c refusal refused =
    absurd (c.one_script_or_refusal.ensures.not_both c.args.bytes.now c.in-Ok.ensures.text.0 refusal c.in-Ok.ensures.text.1 refused)

-- a front of the text was taken
pub returns-in-Ok-clause-write_fault : goal.returns-in-Ok-clause-write_fault
returns-in-Ok-clause-write_fault g c fault = (
  c.in-Err.ensures.cause,
  (
    Done,
    c.in-Ok.text.items,
    c.in-Ok.ensures.text,
    subst (TookFront (g.W.Sink.taken c.args.out.now) (g.W.Sink.taken c.put_all.new.sink)) c.as_slice.ensures.value c.in-Err.ensures.front,
  ),
)

-- what is refused has no meaning, and one refusal
pub returns-in-Err-Refused-clause-complete : goal.returns-in-Err-Refused-clause-complete
returns-in-Err-Refused-clause-complete g c meant =
    let found = rw c.in-Err-Refused.field-0-is at c.in-Err-Refused.ensures.refused in
    absurd (c.one_script_or_refusal.ensures.not_both c.args.bytes.now meant.0 c.in-Err-Refused.refusal meant.1 found)

pub returns-in-Err-Refused-clause-refuses : goal.returns-in-Err-Refused-clause-refuses
returns-in-Err-Refused-clause-refuses g c refusal refused =
    let found = rw c.in-Err-Refused.field-0-is at c.in-Err-Refused.ensures.refused in
    inl (ap ScriptRefused (c.one_script_or_refusal.ensures.one_refusal c.args.bytes.now c.in-Err-Refused.refusal refusal found refused))
