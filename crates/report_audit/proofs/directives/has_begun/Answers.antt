-- A frame that began makes its steps, or waits.
use Rattle.std.proofs.Common.{Bool, sym, subst}
use Rattle.std.specs.Prelude.{IfOk}
use Rattle.std.proofs.lemmas.Bool.{OnTrue_from}
use Rattle.std.proofs.lemmas.Result.{IfOk-weaker}
use Rattle.bench_report.specs.Lines.{Done}
use Rattle.report_auditor.specs.Auditing.{Stands}
use Rattle.report_text.specs.Unread.{own_text}
use Rattle.report_steps.specs.Taking.{Takes}
use Rattle.report_audit.specs.Directives.{PrintsBegun}
use Rattle.report_audit.proofs.TakeLaws.{line_on, none_takes}
use Rattle.report_audit.proofs.directives.has_begun.Goals as goal

pub returns-then-whole-clause-goes : goal.returns-then-whole-clause-goes
returns-then-whole-clause-goes g c t p stands served =
    subst (λ (b : Bool). IfOk c.steps.result (λ right. Takes right (λ lines there. PrintsBegun (g.P.Subject.setting t) b p lines there) (Stands g.P.Whole.agrees g.P.Subject.setting g.P.Part.table g.P.Part.stands t c.steps.new.auditor) c.args.report.now.number (own_text c.args.report.now) (own_text c.steps.new.report))) (sym c.if-whole.true)
    (c.steps.ensures.steps t p stands served)

pub returns-else-whole-clause-goes : goal.returns-else-whole-clause-goes
returns-else-whole-clause-goes g c t p stands served =
    subst (λ (b : Bool). IfOk c.takes.result (λ right. Takes right (λ lines there. PrintsBegun (g.P.Subject.setting t) b p lines there) (Stands g.P.Whole.agrees g.P.Subject.setting g.P.Part.table g.P.Part.stands t c.args.auditor.now) c.args.report.now.number (own_text c.args.report.now) (own_text c.takes.new.report))) (sym c.if-whole.false)
    (IfOk-weaker c.takes.result _ _ (λ right h. none_takes p (Stands g.P.Whole.agrees g.P.Subject.setting g.P.Part.table g.P.Part.stands t c.args.auditor.now) right c.args.report.now c.takes.new.report stands h) c.takes.ensures)

pub returns-else-whole-clause-ready : goal.returns-else-whole-clause-ready
returns-else-whole-clause-ready g c given ready = IfOk-weaker c.takes.result _ _ (λ right h. OnTrue_from right _ (λ e. ready)) c.takes.ensures

pub returns-else-whole-clause-on : goal.returns-else-whole-clause-on
returns-else-whole-clause-on g c = IfOk-weaker c.takes.result _ _ (λ right h. line_on right Done c.args.report.now c.takes.new.report h) c.takes.ensures
