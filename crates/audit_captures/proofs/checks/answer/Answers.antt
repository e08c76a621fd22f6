use Rattle.std.proofs.Common.{ap, sym, ◌∙◌}
use Rattle.run_model.specs.Machine.{numbers}
use Rattle.module_machines.specs.icu.Machine.{channel_answer}
use Rattle.audit_captures.specs.Stands.{capture_of}
use Rattle.audit_captures.proofs.checks.answer.Goals as goal

pub returns-in-GetTimeElapsed : goal.returns-in-GetTimeElapsed
returns-in-GetTimeElapsed c es stored follows =
    let k = c.args.channel in
    c.answer_of.ensures ∙ (ap numbers (c.handed.ensures k es stored follows.value) ∙ ap (λ call. channel_answer k call (capture_of c.args.capture es stored)) (sym c.in-GetTimeElapsed.is))

pub returns-in-GetDutyCycleValues : goal.returns-in-GetDutyCycleValues
returns-in-GetDutyCycleValues c es stored follows =
    let k = c.args.channel in
    c.answer_of-in-GetDutyCycleValues.ensures
    ∙ (ap numbers (c.handed-in-GetDutyCycleValues.ensures k es stored follows.value) ∙ ap (λ call. channel_answer k call (capture_of c.args.capture es stored)) (sym c.in-GetDutyCycleValues.is))
