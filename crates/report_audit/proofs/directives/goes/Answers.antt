-- The newest frame goes on, where there is one.
use Rattle.std.proofs.Common.{sym, ◌∙◌}
use Rattle.std.proofs.lemmas.Bool.{OnTrue_from}
use Rattle.std.proofs.lemmas.Result.{IfOk-weaker}
use Rattle.bench_report.specs.Lines.{Done}
use Rattle.irq_control.specs.declared.held.Held.TheVariants.{Empty}
use Rattle.report_auditor.specs.Auditing.{Stands}
use Rattle.report_text.specs.Unread.{own_text}
use Rattle.report_audit.proofs.KindLaws.{empty_goes, none_goes, none_open, some_goes, some_open}
use Rattle.report_audit.proofs.TakeLaws.{held_ready, held_takes, line_on, none_takes}
use Rattle.report_audit.proofs.directives.goes.Goals as goal

pub returns-then-none-clause-goes : goal.returns-then-none-clause-goes
returns-then-none-clause-goes g c t p stands served =
    let s = rw (← c.auditor.view_is) at stands in
    let own = g.P.Subject.setting t in
    let none = none_open own _ p.moment.opens s.frames (sym c.depth-none.ensures ∙ c.if-none.true) in
    IfOk-weaker c.stays.result _ _
    (λ right h. empty_goes own p (Stands g.P.Whole.agrees g.P.Subject.setting g.P.Part.table g.P.Part.stands t c.stays.new.auditor) right c.args.report.now.number (own_text c.args.report.now) (own_text c.stays.new.report) c.args.reach none
    (held_takes g.P.Whole.agrees g.P.Subject.setting g.P.Part.table g.P.Part.stands t right Empty _ c.stays.new.auditor c.args.report.now c.stays.new.report p h stands))
    c.stays.ensures.stays

pub returns-then-none-clause-ready : goal.returns-then-none-clause-ready
returns-then-none-clause-ready g c given ready =
    IfOk-weaker c.stays.result _ _ (λ right h. OnTrue_from right _ (λ e. held_ready g.P.Part.fits g.P.Whole.within g.P.Part.ticks given right Empty _ c.stays.new.auditor c.args.report.now c.stays.new.report h ready)) c.stays.ensures.stays

pub returns-then-is_no_step-clause-goes : goal.returns-then-is_no_step-clause-goes
returns-then-is_no_step-clause-goes g c t p stands served =
    let s = rw (← c.auditor.view_is) at stands in
    let own = g.P.Subject.setting t in
    let some = some_open own _ p.moment.opens s.frames (λ e. c.if-none.false (c.depth-none.ensures ∙ e)) in
    IfOk-weaker c.takes.result _ _
    (λ right h. none_goes own p _ right c.args.report.now.number (own_text c.args.report.now) (own_text c.takes.new.report) c.args.reach some (sym c.is_no_step.ensures ∙ c.if-is_no_step.true) (none_takes p _ right c.args.report.now c.takes.new.report stands h))
    c.takes.ensures

pub returns-then-is_no_step-clause-ready : goal.returns-then-is_no_step-clause-ready
returns-then-is_no_step-clause-ready g c given ready =
    IfOk-weaker c.takes.result _ _ (λ right h. OnTrue_from right _ (λ e. ready)) c.takes.ensures

pub returns-then-is_no_step-clause-on : goal.returns-then-is_no_step-clause-on
returns-then-is_no_step-clause-on g c = IfOk-weaker c.takes.result _ _ (λ right h. line_on right Done c.args.report.now c.takes.new.report h) c.takes.ensures

pub steps-requires : goal.steps-requires
steps-requires g c = record { ready = c.requires.ready }

pub returns-else-is_no_step-clause-goes : goal.returns-else-is_no_step-clause-goes
returns-else-is_no_step-clause-goes g c t p stands served =
    let s = rw (← c.auditor.view_is) at stands in
    let own = g.P.Subject.setting t in
    let some = some_open own _ p.moment.opens s.frames (λ e. c.if-none.false (c.depth-none.ensures ∙ e)) in
    IfOk-weaker c.steps.result _ _
    (λ right h. some_goes own p (Stands g.P.Whole.agrees g.P.Subject.setting g.P.Part.table g.P.Part.stands t c.steps.new.auditor) right c.args.report.now.number (own_text c.args.report.now) (own_text c.steps.new.report) c.args.reach some (sym c.is_no_step.ensures ∙ c.if-is_no_step.false) h)
    (c.steps.ensures.steps t p stands served)

pub returns-else-is_no_step-clause-ready : goal.returns-else-is_no_step-clause-ready
returns-else-is_no_step-clause-ready g c given ready = c.steps.ensures.ready given ready

pub returns-then-none-clause-on : goal.returns-then-none-clause-on
returns-then-none-clause-on g c = c.stays.ensures.on

pub returns-else-is_no_step-clause-on : goal.returns-else-is_no_step-clause-on
returns-else-is_no_step-clause-on g c = c.steps.ensures.on
