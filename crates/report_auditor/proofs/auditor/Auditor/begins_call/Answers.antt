-- What begins is what was asked for.
use Rattle.std.proofs.Common.{◌∷◌, subst}
use Rattle.std.specs.Prelude.{IfOk}
use Rattle.run_model.specs.Frame.{Called}
use Rattle.run_model.specs.Moment.{after}
use Rattle.report_text.specs.reading.Steps.{Comes}
use Rattle.report_auditor.specs.Auditing.{Stands}
use Rattle.report_auditor.specs.Deeds.{Judges, beginning}
use Rattle.report_auditor.proofs.HeldLaws.{purpose_called}
use Rattle.report_auditor.proofs.auditor.Auditor.begins_call.Goals as goal

pub returns-clause-comes : goal.returns-clause-comes
returns-clause-comes g c t p stands served free =
    let own = g.P.Subject.setting t in
    let begun = c.call_terms-terms.ensures t p stands in
    let deed = beginning (Called c.args.call) c.args.level in
    subst (λ x. IfOk c.begins.result (λ right. Judges right (Comes own p.moment deed) (Stands g.P.Whole.agrees g.P.Subject.setting g.P.Part.table g.P.Part.stands t c.begins.new.self (record { moment = after own p.moment deed; frames = x ∷ p.frames; tally = p.tally }))))
    (purpose_called own c.call_terms-terms.result.asked c.call_terms-terms.result.task c.args.call begun.task)
    (c.begins.ensures.comes t p c.args.level stands served begun free)
