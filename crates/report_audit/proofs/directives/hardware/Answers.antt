-- The hardware is held, or moves.
use Rattle.std.proofs.Common.{◌+◌, false, refl, sym}
use Rattle.std.proofs.lemmas.Bool.{OnTrue_at, OnTrue_from}
use Rattle.std.proofs.lemmas.Result.{IfOk-weaker}
use Rattle.bench_report.specs.Lines.{Done}
use Rattle.run_model.specs.Legal.{hardware_held}
use Rattle.run_model.specs.Moment.{Happens, after}
use Rattle.script_runner.specs.Standing.{words_by}
use Rattle.report_auditor.specs.Auditing.{Stands, moved_to}
use Rattle.report_text.specs.Unread.{own_text}
use Rattle.report_steps.proofs.LinesLaws.{advances_none}
use Rattle.report_audit.proofs.KindLaws.{deed_happens, held_happens, moves_right, moves_wrong, names_all, none_happens}
use Rattle.report_audit.proofs.TakeLaws.{deed_takes, fewer, held_ready, held_takes, line_on}
use Rattle.report_audit.proofs.directives.hardware.Goals as goal

pub hardware_held-requires : goal.hardware_held-requires
hardware_held-requires g c = record { within = c.requires.ready.sound.in_limits }

pub returns-in-Some-clause-hardware : goal.returns-in-Some-clause-hardware
returns-in-Some-clause-hardware g c t p stands served =
    let held = sym (c.in-Some.ensures.held t p stands) in
    IfOk-weaker c.stays.result _ _
    (λ right h. held_happens (g.P.Subject.setting t) p (Stands g.P.Whole.agrees g.P.Subject.setting g.P.Part.table g.P.Part.stands t c.stays.new.auditor) right c.args.report.now.number (own_text c.args.report.now) (own_text c.stays.new.report) c.args.directive.now.order (hardware_held (g.P.Subject.setting t) p.moment c.args.directive.now.order) c.in-Some.cause held
    (held_takes g.P.Whole.agrees g.P.Subject.setting g.P.Part.table g.P.Part.stands t right c.in-Some.cause c.args.auditor.now c.stays.new.auditor c.args.report.now c.stays.new.report p h stands))
    c.stays.ensures.stays

pub returns-in-Some-clause-ready : goal.returns-in-Some-clause-ready
returns-in-Some-clause-ready g c given ready =
    IfOk-weaker c.stays.result _ _ (λ right h. OnTrue_from right _ (λ e. fewer g.P.Part.fits g.P.Whole.within g.P.Part.ticks (words_by c.args.directive.now.order) given c.stays.new.auditor (held_ready g.P.Part.fits g.P.Whole.within g.P.Part.ticks (words_by c.args.directive.now.order + given) right c.in-Some.cause c.args.auditor.now c.stays.new.auditor c.args.report.now c.stays.new.report h ready))) c.stays.ensures.stays

pub happens-requires-clause-there : goal.happens-requires-clause-there
happens-requires-clause-there g c = names_all c.args.directive.now.order c.requires.there (c.in-None.ensures.filled refl)

pub returns-then-not-came-clause-hardware : goal.returns-then-not-came-clause-hardware
returns-then-not-came-clause-hardware g c t p stands served =
    let held = sym (c.in-None.ensures.held t p stands) in
    none_happens (g.P.Subject.setting t) p (Stands g.P.Whole.agrees g.P.Subject.setting g.P.Part.table g.P.Part.stands t c.happens.new.self) false c.args.report.now.number (own_text c.args.report.now) (own_text c.args.report.now) c.args.directive.now.order (hardware_held (g.P.Subject.setting t) p.moment c.args.directive.now.order) held
    (moves_wrong (g.P.Subject.setting t) p (Stands g.P.Whole.agrees g.P.Subject.setting g.P.Part.table g.P.Part.stands t c.happens.new.self) c.args.directive.now.order c.in_ok-came-in-None.came c.if-not-came.true (c.in_ok-came-in-None.ensures.comes t p stands served held))

pub returns-then-not-came-clause-on : goal.returns-then-not-came-clause-on
returns-then-not-came-clause-on g c = advances_none c.args.report.now

pub returns-else-not-came-clause-hardware : goal.returns-else-not-came-clause-hardware
returns-else-not-came-clause-hardware g c t p stands served =
    let own = g.P.Subject.setting t in
    let held = sym (c.in-None.ensures.held t p stands) in
    let came = moves_right own p (Stands g.P.Whole.agrees g.P.Subject.setting g.P.Part.table g.P.Part.stands t c.happens.new.self) c.args.directive.now.order c.in_ok-came-in-None.came c.if-not-came.false (c.in_ok-came-in-None.ensures.comes t p stands served held) in
    IfOk-weaker c.takes.result _ _
    (λ right h. deed_happens own p (Stands g.P.Whole.agrees g.P.Subject.setting g.P.Part.table g.P.Part.stands t c.happens.new.self) right c.args.report.now.number (own_text c.args.report.now) (own_text c.takes.new.report) c.args.directive.now.order (hardware_held (g.P.Subject.setting t) p.moment c.args.directive.now.order) held
    (deed_takes _ (moved_to (after own p.moment (Happens c.args.directive.now.order)) p) (Stands g.P.Whole.agrees g.P.Subject.setting g.P.Part.table g.P.Part.stands t c.happens.new.self) right c.args.report.now c.takes.new.report came.0 came.1 h))
    c.takes.ensures

pub returns-else-not-came-clause-ready : goal.returns-else-not-came-clause-ready
returns-else-not-came-clause-ready g c given ready = IfOk-weaker c.takes.result _ _ (λ right h. OnTrue_from right _ (λ e. OnTrue_at c.if-not-came.false (c.in_ok-came-in-None.ensures.ready given ready))) c.takes.ensures

pub returns-else-not-came-clause-on : goal.returns-else-not-came-clause-on
returns-else-not-came-clause-on g c = IfOk-weaker c.takes.result _ _ (λ right h. line_on right Done c.args.report.now c.takes.new.report h) c.takes.ensures

pub returns-in-Some-clause-on : goal.returns-in-Some-clause-on
returns-in-Some-clause-on g c = c.stays.ensures.on
