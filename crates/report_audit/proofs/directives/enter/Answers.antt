-- The handler of a line is held, or begins.
use Rattle.std.proofs.Common.{false, refl, sym}
use Rattle.std.proofs.lemmas.Bool.{OnTrue_at, OnTrue_from}
use Rattle.std.proofs.lemmas.Result.{IfOk-weaker}
use Rattle.bench_report.specs.declared.frames.Purpose.TheVariants.{Handler}
use Rattle.run_model.specs.Follows.{line_held}
use Rattle.run_model.specs.Frame.{Entered}
use Rattle.report_auditor.specs.Auditing.{Stands}
use Rattle.report_text.specs.Unread.{own_text}
use Rattle.report_steps.proofs.LinesLaws.{advances_none}
use Rattle.report_audit.specs.Directives.{begun_to}
use Rattle.report_audit.proofs.KindLaws.{begins_right, begins_wrong, begun_begins, held_begins, none_begins}
use Rattle.report_audit.proofs.TakeLaws.{held_ready, held_takes}
use Rattle.report_audit.proofs.directives.enter.Goals as goal

pub returns-in-Some-clause-enter : goal.returns-in-Some-clause-enter
returns-in-Some-clause-enter g c t p stands served =
    let held = sym (c.in-Some.ensures.held t p stands) in
    IfOk-weaker c.stays.result _ _
    (λ right h. held_begins (g.P.Subject.setting t) p (Stands g.P.Whole.agrees g.P.Subject.setting g.P.Part.table g.P.Part.stands t c.stays.new.auditor) right c.args.report.now.number (own_text c.args.report.now) (own_text c.stays.new.report) c.args.whole (Entered c.args.irq) 0 (Handler c.args.irq) (line_held (g.P.Subject.setting t) p.moment c.args.irq) c.in-Some.cause held
    (held_takes g.P.Whole.agrees g.P.Subject.setting g.P.Part.table g.P.Part.stands t right c.in-Some.cause c.args.auditor.now c.stays.new.auditor c.args.report.now c.stays.new.report p h stands))
    c.stays.ensures.stays

pub returns-in-Some-clause-ready : goal.returns-in-Some-clause-ready
returns-in-Some-clause-ready g c given ready =
    IfOk-weaker c.stays.result _ _ (λ right h. OnTrue_from right _ (λ e. held_ready g.P.Part.fits g.P.Whole.within g.P.Part.ticks given right c.in-Some.cause c.args.auditor.now c.stays.new.auditor c.args.report.now c.stays.new.report h ready)) c.stays.ensures.stays

pub begins_line-requires-clause-free : goal.begins_line-requires-clause-free
begins_line-requires-clause-free g c = c.in-None.ensures.free refl

pub returns-then-not-begun-clause-enter : goal.returns-then-not-begun-clause-enter
returns-then-not-begun-clause-enter g c t p stands served =
    let held = sym (c.in-None.ensures.held t p stands) in
    none_begins (g.P.Subject.setting t) p (Stands g.P.Whole.agrees g.P.Subject.setting g.P.Part.table g.P.Part.stands t c.begins_line.new.self) false c.args.report.now.number (own_text c.args.report.now) (own_text c.args.report.now) c.args.whole (Entered c.args.irq) 0 (Handler c.args.irq) (line_held (g.P.Subject.setting t) p.moment c.args.irq) held
    (begins_wrong (g.P.Subject.setting t) p (Stands g.P.Whole.agrees g.P.Subject.setting g.P.Part.table g.P.Part.stands t c.begins_line.new.self) (Entered c.args.irq) 0 (Handler c.args.irq) c.in_ok-begun-in-None.begun c.if-not-begun.true (c.in_ok-begun-in-None.ensures.comes t p stands served held))

pub has_begun-requires : goal.has_begun-requires
has_begun-requires g c = record { ready = OnTrue_at c.if-not-begun.false (c.in_ok-begun-in-None.ensures.ready 0 c.requires.ready) }

pub returns-else-not-begun-clause-enter : goal.returns-else-not-begun-clause-enter
returns-else-not-begun-clause-enter g c t p stands served =
    let own = g.P.Subject.setting t in
    let held = sym (c.in-None.ensures.held t p stands) in
    let begun = begins_right own p (Stands g.P.Whole.agrees g.P.Subject.setting g.P.Part.table g.P.Part.stands t c.begins_line.new.self) (Entered c.args.irq) 0 (Handler c.args.irq) c.in_ok-begun-in-None.begun c.if-not-begun.false (c.in_ok-begun-in-None.ensures.comes t p stands served held) in
    IfOk-weaker c.has_begun.result _ _
    (λ right h. begun_begins own p (Stands g.P.Whole.agrees g.P.Subject.setting g.P.Part.table g.P.Part.stands t c.has_begun.new.auditor) right c.args.report.now.number (own_text c.args.report.now) (own_text c.has_begun.new.report) c.args.whole (Entered c.args.irq) 0 (Handler c.args.irq) (line_held (g.P.Subject.setting t) p.moment c.args.irq) held begun.0 h)
    (c.has_begun.ensures.goes t (begun_to own p (Entered c.args.irq) 0 (Handler c.args.irq)) begun.1 begun.0.served)

pub returns-else-not-begun-clause-ready : goal.returns-else-not-begun-clause-ready
returns-else-not-begun-clause-ready g c given ready = c.has_begun.ensures.ready given (OnTrue_at c.if-not-begun.false (c.in_ok-begun-in-None.ensures.ready given ready))

pub returns-then-not-begun-clause-on : goal.returns-then-not-begun-clause-on
returns-then-not-begun-clause-on g c = advances_none c.args.report.now

pub returns-in-Some-clause-on : goal.returns-in-Some-clause-on
returns-in-Some-clause-on g c = c.stays.ensures.on

pub returns-else-not-begun-clause-on : goal.returns-else-not-begun-clause-on
returns-else-not-begun-clause-on g c = c.has_begun.ensures.on
