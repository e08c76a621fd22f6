-- Ticks go by.
use Rattle.std.proofs.lemmas.Bool.{OnTrue_at, OnTrue_from}
use Rattle.std.proofs.lemmas.Result.{IfOk-weaker}
use Rattle.bench_report.specs.Lines.{Done}
use Rattle.mcal_base.specs.declared.directive.Order.TheVariants.{Tick}
use Rattle.run_model.specs.Moment.{Happens}
use Rattle.report_auditor.specs.Auditing.{Stands}
use Rattle.report_text.specs.reading.Steps.{Comes}
use Rattle.report_text.specs.Unread.{own_text}
use Rattle.report_steps.specs.Going.{waited_to}
use Rattle.report_steps.proofs.LinesLaws.{advances_none}
use Rattle.report_audit.proofs.KindLaws.{moves_right, moves_wrong}
use Rattle.report_audit.proofs.TakeLaws.{deed_never, deed_takes, line_on}
use Rattle.report_audit.proofs.directives.ticks_on.Goals as goal

pub returns-then-not-came-clause-on : goal.returns-then-not-came-clause-on
returns-then-not-came-clause-on g c t p stands served = deed_never (Comes (g.P.Subject.setting t) p.moment (Happens (Tick c.args.ticks))) (waited_to (g.P.Subject.setting t) p c.args.ticks) (Stands g.P.Whole.agrees g.P.Subject.setting g.P.Part.table g.P.Part.stands t c.tick.new.self) c.args.report.now.number (own_text c.args.report.now) (own_text c.args.report.now)
    (moves_wrong (g.P.Subject.setting t) p (Stands g.P.Whole.agrees g.P.Subject.setting g.P.Part.table g.P.Part.stands t c.tick.new.self) (Tick c.args.ticks) c.in_ok-came.came c.if-not-came.true (c.in_ok-came.ensures.comes t p stands served))

pub returns-then-not-came-clause-advances : goal.returns-then-not-came-clause-advances
returns-then-not-came-clause-advances g c = advances_none c.args.report.now

pub returns-clause-on : goal.returns-clause-on
returns-clause-on g c t p stands served =
    let own = g.P.Subject.setting t in
    let came = moves_right own p (Stands g.P.Whole.agrees g.P.Subject.setting g.P.Part.table g.P.Part.stands t c.tick.new.self) (Tick c.args.ticks) c.in_ok-came.came c.if-not-came.false (c.in_ok-came.ensures.comes t p stands served) in
    IfOk-weaker c.takes.result _ _ (λ right h. deed_takes _ (waited_to own p c.args.ticks) (Stands g.P.Whole.agrees g.P.Subject.setting g.P.Part.table g.P.Part.stands t c.tick.new.self) right c.args.report.now c.takes.new.report came.0 came.1 h) c.takes.ensures

pub returns-clause-ready : goal.returns-clause-ready
returns-clause-ready g c given ready = IfOk-weaker c.takes.result _ _ (λ right h. OnTrue_from right _ (λ e. OnTrue_at c.if-not-came.false (c.in_ok-came.ensures.ready given ready))) c.takes.ensures

pub returns-clause-advances : goal.returns-clause-advances
returns-clause-advances g c = IfOk-weaker c.takes.result _ _ (λ right h. line_on right Done c.args.report.now c.takes.new.report h) c.takes.ensures
