-- A call is held, or begins.
use Rattle.std.proofs.Common.{false, refl, sym, ◌∙◌, ap}
use Rattle.std.proofs.lemmas.Bool.{OnTrue_at, OnTrue_from}
use Rattle.std.proofs.lemmas.Result.{IfOk-weaker}
use Rattle.bench_report.specs.declared.frames.Purpose.TheVariants.{Call}
use Rattle.run_model.specs.Follows.{call_held}
use Rattle.run_model.specs.Frame.{Called}
use Rattle.report_auditor.specs.Auditing.{Stands}
use Rattle.report_text.specs.Unread.{own_text}
use Rattle.report_steps.proofs.LinesLaws.{advances_none}
use Rattle.report_audit.specs.Directives.{begun_to}
use Rattle.report_audit.proofs.KindLaws.{begins_right, begins_wrong, begun_begins, call_begun, call_never, held_begins, none_begins}
use Rattle.report_audit.proofs.TakeLaws.{held_ready, held_takes}
use Rattle.report_audit.proofs.directives.call.Goals as goal

pub returns-in-Some-clause-call : goal.returns-in-Some-clause-call
returns-in-Some-clause-call g c t p stands served =
    let held = sym (c.in-Some.ensures.held t p stands ∙ ap (λ x. call_held (g.P.Subject.setting t) p.moment x c.args.level) c.call-call.ensures) in
    IfOk-weaker c.stays.result _ _
    (λ right h. held_begins (g.P.Subject.setting t) p (Stands g.P.Whole.agrees g.P.Subject.setting g.P.Part.table g.P.Part.stands t c.stays.new.auditor) right c.args.report.now.number (own_text c.args.report.now) (own_text c.stays.new.report) c.args.whole (Called (g.P.Whole.call_of c.args.request.now)) c.args.level (Call c.args.request.now.service) (call_held (g.P.Subject.setting t) p.moment (g.P.Whole.call_of c.args.request.now) c.args.level) c.in-Some.cause held
    (held_takes g.P.Whole.agrees g.P.Subject.setting g.P.Part.table g.P.Part.stands t right c.in-Some.cause _ c.stays.new.auditor c.args.report.now c.stays.new.report p h stands))
    c.stays.ensures.stays

pub returns-in-Some-clause-ready : goal.returns-in-Some-clause-ready
returns-in-Some-clause-ready g c given ready =
    IfOk-weaker c.stays.result _ _ (λ right h. OnTrue_from right _ (λ e. held_ready g.P.Part.fits g.P.Whole.within g.P.Part.ticks given right c.in-Some.cause _ c.stays.new.auditor c.args.report.now c.stays.new.report h ready)) c.stays.ensures.stays

pub begins_call-requires-clause-ready : goal.begins_call-requires-clause-ready
begins_call-requires-clause-ready g c = c.requires.ready

pub begins_call-requires-clause-free : goal.begins_call-requires-clause-free
begins_call-requires-clause-free g c = c.in-None.ensures.free refl

pub returns-then-not-begun-clause-call : goal.returns-then-not-begun-clause-call
returns-then-not-begun-clause-call g c t p stands served =
    let free = sym (c.in-None.ensures.held t p stands) in
    let held = sym (c.in-None.ensures.held t p stands ∙ ap (λ x. call_held (g.P.Subject.setting t) p.moment x c.args.level) c.call-call.ensures) in
    none_begins (g.P.Subject.setting t) p (Stands g.P.Whole.agrees g.P.Subject.setting g.P.Part.table g.P.Part.stands t c.begins_call.new.self) false c.args.report.now.number (own_text c.args.report.now) (own_text c.args.report.now) c.args.whole (Called (g.P.Whole.call_of c.args.request.now)) c.args.level (Call c.args.request.now.service) (call_held (g.P.Subject.setting t) p.moment (g.P.Whole.call_of c.args.request.now) c.args.level) held
    (call_never (g.P.Subject.setting t) p c.call-call.result (g.P.Whole.call_of c.args.request.now) c.args.level c.call-call.ensures
    (begins_wrong (g.P.Subject.setting t) p (Stands g.P.Whole.agrees g.P.Subject.setting g.P.Part.table g.P.Part.stands t c.begins_call.new.self) (Called c.call-call.result) c.args.level (Call ((g.P.Subject.setting t).machine.service_of c.call-call.result)) c.in_ok-begun-in-None.begun c.if-not-begun.true (c.in_ok-begun-in-None.ensures.comes t p stands served free)))

pub has_begun-requires : goal.has_begun-requires
has_begun-requires g c = record { ready = OnTrue_at c.if-not-begun.false (c.in_ok-begun-in-None.ensures.ready 0 c.requires.ready) }

pub returns-else-not-begun-clause-call : goal.returns-else-not-begun-clause-call
returns-else-not-begun-clause-call g c t p stands served =
    let own = g.P.Subject.setting t in
    let free = sym (c.in-None.ensures.held t p stands) in
    let held = sym (c.in-None.ensures.held t p stands ∙ ap (λ x. call_held own p.moment x c.args.level) c.call-call.ensures) in
    let service = ap (λ m. m.machine.service_of (g.P.Whole.call_of c.args.request.now)) (g.met.P.Subject.member_is t) ∙ g.met.P.Whole.serves t c.args.request.now c.requires.has in
    let begun = call_begun own p (Stands g.P.Whole.agrees g.P.Subject.setting g.P.Part.table g.P.Part.stands t c.begins_call.new.self) c.call-call.result (g.P.Whole.call_of c.args.request.now) c.args.level c.args.request.now.service c.call-call.ensures service
    (begins_right own p (Stands g.P.Whole.agrees g.P.Subject.setting g.P.Part.table g.P.Part.stands t c.begins_call.new.self) (Called c.call-call.result) c.args.level (Call (own.machine.service_of c.call-call.result)) c.in_ok-begun-in-None.begun c.if-not-begun.false (c.in_ok-begun-in-None.ensures.comes t p stands served free)) in
    IfOk-weaker c.has_begun.result _ _
    (λ right h. begun_begins own p (Stands g.P.Whole.agrees g.P.Subject.setting g.P.Part.table g.P.Part.stands t c.has_begun.new.auditor) right c.args.report.now.number (own_text c.args.report.now) (own_text c.has_begun.new.report) c.args.whole (Called (g.P.Whole.call_of c.args.request.now)) c.args.level (Call c.args.request.now.service) (call_held (g.P.Subject.setting t) p.moment (g.P.Whole.call_of c.args.request.now) c.args.level) held begun.0 h)
    (c.has_begun.ensures.goes t (begun_to own p (Called (g.P.Whole.call_of c.args.request.now)) c.args.level (Call c.args.request.now.service)) begun.1 begun.0.served)

pub returns-else-not-begun-clause-ready : goal.returns-else-not-begun-clause-ready
returns-else-not-begun-clause-ready g c given ready = c.has_begun.ensures.ready given (OnTrue_at c.if-not-begun.false (c.in_ok-begun-in-None.ensures.ready given ready))

pub returns-then-not-begun-clause-on : goal.returns-then-not-begun-clause-on
returns-then-not-begun-clause-on g c = advances_none c.args.report.now

pub call-call-requires : goal.call-call-requires
call-call-requires g c = c.requires.has

pub returns-in-Some-clause-on : goal.returns-in-Some-clause-on
returns-in-Some-clause-on g c = c.stays.ensures.on

pub returns-else-not-begun-clause-on : goal.returns-else-not-begun-clause-on
returns-else-not-begun-clause-on g c = c.has_begun.ensures.on
