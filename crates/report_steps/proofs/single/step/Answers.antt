-- A step passes each test, or none fits the block.
use Rattle.std.proofs.Common.{◌≡◌, None, sym, ◌∙◌, subst}
use Rattle.std.specs.Option.{IfSome}
use Rattle.std.proofs.lemmas.Bool.{OnTrue_at}
use Rattle.audit_subject.specs.Hearings.{heard_in}
use Rattle.report_steps.specs.StepParts.{HearsStep, step_told}
use Rattle.report_steps.proofs.ComeLaws.{fails}
use Rattle.report_steps.proofs.OneLaws.{allowed, early, may, may_have, no_event, now_of, over}
use Rattle.report_steps.proofs.single.step.Goals as goal

pub hears-requires-clause-time : goal.hears-requires-clause-time
hears-requires-clause-time g c = OnTrue_at c.if-not-has_time.false c.has_time.ensures

pub hears-requires-clause-there : goal.hears-requires-clause-there
hears-requires-clause-there g c = OnTrue_at c.if-not-may_come.false c.may_come.ensures.there

pub goes_on-requires-clause-sound : goal.goes_on-requires-clause-sound
goes_on-requires-clause-sound g c = c.in_ok-allowed.ensures.sound 0 c.requires.ready

pub goes_on-requires-clause-now : goal.goes_on-requires-clause-now
goes_on-requires-clause-now g c = subst (λ b. IfSome (heard_in b c.hears.new.heard) (λ h. h.around.time ≡ c.hears.new.auditor.outside.time)) c.if-not-allowed.false c.in_ok-allowed.ensures.now

pub goes_on-requires-clause-there : goal.goes_on-requires-clause-there
goes_on-requires-clause-there g c = OnTrue_at c.if-not-may_come.false c.may_come.ensures.there

pub returns-then-is_over-clause-makes : goal.returns-then-is_over-clause-makes
returns-then-is_over-clause-makes g c t p stands served x more comes none e =
    over g.P.Whole.agrees g.P.Subject.setting g.P.Part.table g.P.Part.stands g.P.Part.member g.met.P.Subject.member_is t _ p stands c.is_over.result (c.is_over.ensures p.moment.world p.moment.state stands.world stands.state) c.if-is_over.true c.args.read.now x comes

pub returns-then-not-may_come-clause-makes : goal.returns-then-not-may_come-clause-makes
returns-then-not-may_come-clause-makes g c t p stands served x more comes none e =
    fails c.may_come.result (c.may_come.ensures.right t p stands) c.if-not-may_come.true (may (g.P.Subject.setting t) p c.args.read.now x comes)

pub returns-in_default-clause-makes : goal.returns-in_default-clause-makes
returns-in_default-clause-makes g c t p stands served x more comes none e = no_event (g.P.Subject.setting t) p c.args.read.now x comes (sym c.event_at.ensures ∙ c.in_default.is)

pub returns-clause-makes : goal.returns-clause-makes
returns-clause-makes g c t p stands served =
    let come = (c.may_come.ensures.right t p stands).says c.if-not-may_come.false in
    let top = may_have (g.P.Subject.setting t) p.moment p.moment.opens c.args.read.now come in
    c.goes_on.ensures.makes t p top.0 top.1 top.2 (now_of (g.P.Subject.setting t) p.moment top.0 top.1 c.args.read.now top.2 come)
    (early g.P.Whole.agrees g.P.Subject.setting g.P.Part.table g.P.Part.stands g.P.Part.member g.met.P.Subject.member_is t _ p stands c.is_over.result (c.is_over.ensures p.moment.world p.moment.state stands.world stands.state) c.if-is_over.false)
    (sym c.event_at.ensures ∙ c.in-Some.is)
    (subst (λ b. HearsStep g.P.Whole.agrees g.P.Subject.setting g.P.Part.table g.P.Part.stands t c.hears.new.auditor p top.0 (step_told c.args.read.now c.in-Some.event None) (heard_in b c.hears.new.heard)) c.if-not-allowed.false (c.in_ok-allowed.ensures.hears t p top.0 top.1 stands top.2))

pub returns-clause-ready : goal.returns-clause-ready
returns-clause-ready g c given ready = c.goes_on.ensures.ready given (c.in_ok-allowed.ensures.sound given ready)

pub returns-then-not-allowed-clause-makes : goal.returns-then-not-allowed-clause-makes
returns-then-not-allowed-clause-makes g c t p stands served x more comes none e =
    let come = (c.may_come.ensures.right t p stands).says c.if-not-may_come.false in
    let top = may_have (g.P.Subject.setting t) p.moment p.moment.opens c.args.read.now come in
    (subst (λ b. HearsStep g.P.Whole.agrees g.P.Subject.setting g.P.Part.table g.P.Part.stands t c.hears.new.auditor p top.0 (step_told c.args.read.now c.in-Some.event None) (heard_in b c.hears.new.heard)) c.if-not-allowed.true (c.in_ok-allowed.ensures.hears t p top.0 top.1 stands top.2)) (allowed (g.P.Subject.setting t) p c.args.read.now x comes top.0 top.1 c.in-Some.event top.2 (sym c.event_at.ensures ∙ c.in-Some.is))
