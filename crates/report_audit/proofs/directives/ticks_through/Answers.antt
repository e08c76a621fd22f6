-- Ticks through the watchdog's reset.
use Rattle.std.proofs.Common.{◌≡◌, ◌-◌, arith, subst}
use Rattle.std.proofs.lemmas.Bool.{OnTrue_at}
use Rattle.std.proofs.lemmas.Result.{IfOk-weaker}
use Rattle.mcal_base.specs.declared.directive.Order.TheVariants.{Tick}
use Rattle.mcal_base.specs.declared.directive.Reason.TheVariants.{Watchdog}
use Rattle.report_auditor.specs.Auditing.{Stands}
use Rattle.report_auditor.specs.Deeds.{restarted}
use Rattle.report_text.specs.reading.Blocks.{AuditState}
use Rattle.report_text.specs.Unread.{own_text}
use Rattle.report_steps.specs.Going.{PrintsReset, waited_to}
use Rattle.report_steps.proofs.LinesLaws.{advances_none}
use Rattle.report_audit.proofs.KindLaws.{early, moves_right, moves_wrong, right_takes, said, through_judged, ticks_done, unsaid, wrong_takes}
use Rattle.report_audit.proofs.directives.ticks_through.Goals as goal

pub returns-then-not-came-clause-through : goal.returns-then-not-came-clause-through
returns-then-not-came-clause-through g c t p stands served =
    early (g.P.Subject.setting t) p c.args.left (c.args.ticks - c.args.left) c.args.report.now.number (own_text c.args.report.now) (own_text c.args.report.now) (Stands g.P.Whole.agrees g.P.Subject.setting g.P.Part.table g.P.Part.stands t c.tick.new.self) (moves_wrong (g.P.Subject.setting t) p (Stands g.P.Whole.agrees g.P.Subject.setting g.P.Part.table g.P.Part.stands t c.tick.new.self) (Tick c.args.left) c.in_ok-came.came c.if-not-came.true (c.in_ok-came.ensures.comes t p stands served))

pub returns-then-not-came-clause-on : goal.returns-then-not-came-clause-on
returns-then-not-came-clause-on g c = advances_none c.args.report.now

pub says_reset-requires : goal.says_reset-requires
says_reset-requires g c = record { ready = OnTrue_at c.if-not-came.false (c.in_ok-came.ensures.ready 0 c.requires.ready) }

pub returns-then-not-said-clause-through : goal.returns-then-not-said-clause-through
returns-then-not-said-clause-through g c t p stands served =
    let own = g.P.Subject.setting t in
    let came = moves_right own p (Stands g.P.Whole.agrees g.P.Subject.setting g.P.Part.table g.P.Part.stands t c.tick.new.self) (Tick c.args.left) c.in_ok-came.came c.if-not-came.false (c.in_ok-came.ensures.comes t p stands served) in
    unsaid own p c.args.left (c.args.ticks - c.args.left) c.args.report.now.number (own_text c.args.report.now) (own_text c.says_reset.new.report) (Stands g.P.Whole.agrees g.P.Subject.setting g.P.Part.table g.P.Part.stands t c.says_reset.new.auditor) (Stands g.P.Whole.agrees g.P.Subject.setting g.P.Part.table g.P.Part.stands t c.says_reset.new.auditor)
    (wrong_takes (PrintsReset own (waited_to own p c.args.left) Watchdog) (Stands g.P.Whole.agrees g.P.Subject.setting g.P.Part.table g.P.Part.stands t c.says_reset.new.auditor) c.args.report.now.number (own_text c.args.report.now) (own_text c.says_reset.new.report) c.in_ok-said.said c.if-not-said.true (c.in_ok-said.ensures.resets t (waited_to own p c.args.left) came.1 came.0.served))

pub returns-then-done-clause-through : goal.returns-then-done-clause-through
returns-then-done-clause-through g c t p stands served =
    let own = g.P.Subject.setting t in
    let came = moves_right own p (Stands g.P.Whole.agrees g.P.Subject.setting g.P.Part.table g.P.Part.stands t c.tick.new.self) (Tick c.args.left) c.in_ok-came.came c.if-not-came.false (c.in_ok-came.ensures.comes t p stands served) in
    let h = right_takes (PrintsReset own (waited_to own p c.args.left) Watchdog) (Stands g.P.Whole.agrees g.P.Subject.setting g.P.Part.table g.P.Part.stands t c.says_reset.new.auditor) c.args.report.now.number (own_text c.args.report.now) (own_text c.says_reset.new.report) c.in_ok-said.said c.if-not-said.false (c.in_ok-said.ensures.resets t (waited_to own p c.args.left) came.1 came.0.served) in
    let fallen = restarted own (waited_to own p c.args.left) Watchdog in
    said own p c.args.left (c.args.ticks - c.args.left) c.args.report.now.number (own_text c.args.report.now) (own_text c.says_reset.new.report) (Stands g.P.Whole.agrees g.P.Subject.setting g.P.Part.table g.P.Part.stands t c.says_reset.new.auditor) (Stands g.P.Whole.agrees g.P.Subject.setting g.P.Part.table g.P.Part.stands t c.says_reset.new.auditor) fallen came.0 h (ticks_done own fallen (c.args.ticks - c.args.left) (omega arith)) (subst (λ (q : AuditState g.row.P-State.Denot g.row.P-Call.Denot). Stands g.P.Whole.agrees g.P.Subject.setting g.P.Part.table g.P.Part.stands t c.says_reset.new.auditor q) h.prints.leads h.stands)

pub returns-then-done-clause-ready : goal.returns-then-done-clause-ready
returns-then-done-clause-ready g c given ready = OnTrue_at c.if-not-said.false (c.in_ok-said.ensures.ready given (OnTrue_at c.if-not-came.false (c.in_ok-came.ensures.ready given ready)))

pub tick-requires-2 : goal.tick-requires-2
tick-requires-2 g c = record { ready = OnTrue_at c.if-not-said.false (c.in_ok-said.ensures.ready 0 (OnTrue_at c.if-not-came.false (c.in_ok-came.ensures.ready 0 c.requires.ready))) }

pub returns-clause-through : goal.returns-clause-through
returns-clause-through g c t p stands served =
    let own = g.P.Subject.setting t in
    let came = moves_right own p (Stands g.P.Whole.agrees g.P.Subject.setting g.P.Part.table g.P.Part.stands t c.tick.new.self) (Tick c.args.left) c.in_ok-came.came c.if-not-came.false (c.in_ok-came.ensures.comes t p stands served) in
    let h = right_takes (PrintsReset own (waited_to own p c.args.left) Watchdog) (Stands g.P.Whole.agrees g.P.Subject.setting g.P.Part.table g.P.Part.stands t c.says_reset.new.auditor) c.args.report.now.number (own_text c.args.report.now) (own_text c.says_reset.new.report) c.in_ok-said.said c.if-not-said.false (c.in_ok-said.ensures.resets t (waited_to own p c.args.left) came.1 came.0.served) in
    let fallen = restarted own (waited_to own p c.args.left) Watchdog in
    let some = λ (e : c.args.ticks - c.args.left ≡ 0). c.if-done.false (omega (arith, e, c.requires.within)) in
    IfOk-weaker c.tick-2.result _ _
    (λ right j. through_judged own p c.args.left (c.args.ticks - c.args.left) c.args.report.now.number (own_text c.args.report.now) (own_text c.says_reset.new.report) (Stands g.P.Whole.agrees g.P.Subject.setting g.P.Part.table g.P.Part.stands t c.says_reset.new.auditor) (Stands g.P.Whole.agrees g.P.Subject.setting g.P.Part.table g.P.Part.stands t c.tick-2.new.self) right some came.0 h j)
    (c.tick-2.ensures.comes t fallen (subst (λ (q : AuditState g.row.P-State.Denot g.row.P-Call.Denot). Stands g.P.Whole.agrees g.P.Subject.setting g.P.Part.table g.P.Part.stands t c.says_reset.new.auditor q) h.prints.leads h.stands) h.prints.comes.served)

pub returns-clause-ready : goal.returns-clause-ready
returns-clause-ready g c given ready = c.tick-2.ensures.ready given (OnTrue_at c.if-not-said.false (c.in_ok-said.ensures.ready given (OnTrue_at c.if-not-came.false (c.in_ok-came.ensures.ready given ready))))

pub returns-then-not-said-clause-on : goal.returns-then-not-said-clause-on
returns-then-not-said-clause-on g c = c.in_ok-said.ensures.on

pub returns-then-done-clause-on : goal.returns-then-done-clause-on
returns-then-done-clause-on g c = c.in_ok-said.ensures.on

pub returns-clause-on : goal.returns-clause-on
returns-clause-on g c = IfOk-weaker c.tick-2.result _ _ (λ right h. c.in_ok-said.ensures.on) (c.tick-2.ensures.ready 0 (OnTrue_at c.if-not-said.false (c.in_ok-said.ensures.ready 0 (OnTrue_at c.if-not-came.false (c.in_ok-came.ensures.ready 0 c.requires.ready)))))
