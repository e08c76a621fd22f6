-- Ticks go by, up to the end of the watchdog's time or not.
use Rattle.std.proofs.Common.{sym}
use Rattle.std.proofs.lemmas.Result.{IfOk-weaker}
use Rattle.report_auditor.specs.Auditing.{Stands}
use Rattle.report_auditor.proofs.ServedParts.{as_run}
use Rattle.report_text.specs.Unread.{own_text}
use Rattle.report_audit.proofs.KindLaws.{ends_later, ends_there, never_ends}
use Rattle.report_audit.proofs.directives.ticks.Goals as goal

pub ticks_through-requires-clause-ready : goal.ticks_through-requires-clause-ready
ticks_through-requires-clause-ready g c = c.requires.ready

pub returns-then-ends-clause-ticks : goal.returns-then-ends-clause-ticks
returns-then-ends-clause-ticks g c t p stands served =
    let s = rw (← c.auditor.view_is) at stands in
    let own = g.P.Subject.setting t in
    let left = sym (as_run g.P.Whole.agrees g.P.Subject.setting g.P.Part.table g.P.Part.stands g.P.Part.member g.met.P.Subject.member_is t _ p s (λ mac. mac.expires p.moment.world p.moment.state) _ (c.in-Some.ensures p.moment.world p.moment.state s.world s.state)) in
    IfOk-weaker c.ticks_through.result _ _ (λ right h. ends_there own p (Stands g.P.Whole.agrees g.P.Subject.setting g.P.Part.table g.P.Part.stands t c.ticks_through.new.auditor) right c.args.report.now.number (own_text c.args.report.now) (own_text c.ticks_through.new.report) c.args.ticks ((g.P.Subject.setting t).machine.expires p.moment.world p.moment.state) c.in-Some.left left c.if-ends.true h) (c.ticks_through.ensures.through t p stands served)

pub returns-then-ends-clause-ready : goal.returns-then-ends-clause-ready
returns-then-ends-clause-ready g c given ready = c.ticks_through.ensures.ready given ready

pub ticks_on-requires : goal.ticks_on-requires
ticks_on-requires g c = record { ready = c.requires.ready }

pub returns-else-ends-clause-ticks : goal.returns-else-ends-clause-ticks
returns-else-ends-clause-ticks g c t p stands served =
    let s = rw (← c.auditor.view_is) at stands in
    let own = g.P.Subject.setting t in
    let left = sym (as_run g.P.Whole.agrees g.P.Subject.setting g.P.Part.table g.P.Part.stands g.P.Part.member g.met.P.Subject.member_is t _ p s (λ mac. mac.expires p.moment.world p.moment.state) _ (c.in-Some.ensures p.moment.world p.moment.state s.world s.state)) in
    IfOk-weaker c.ticks_on.result _ _ (λ right h. ends_later own p (Stands g.P.Whole.agrees g.P.Subject.setting g.P.Part.table g.P.Part.stands t c.ticks_on.new.auditor) right c.args.report.now.number (own_text c.args.report.now) (own_text c.ticks_on.new.report) c.args.ticks ((g.P.Subject.setting t).machine.expires p.moment.world p.moment.state) c.in-Some.left left c.if-ends.false h) (c.ticks_on.ensures.on t p stands served)

pub returns-else-ends-clause-ready : goal.returns-else-ends-clause-ready
returns-else-ends-clause-ready g c given ready = c.ticks_on.ensures.ready given ready

pub ticks_on-requires-in-None : goal.ticks_on-requires-in-None
ticks_on-requires-in-None g c = record { ready = c.requires.ready }

pub returns-in-None-clause-ticks : goal.returns-in-None-clause-ticks
returns-in-None-clause-ticks g c t p stands served =
    let s = rw (← c.auditor.view_is) at stands in
    let own = g.P.Subject.setting t in
    let left = sym (as_run g.P.Whole.agrees g.P.Subject.setting g.P.Part.table g.P.Part.stands g.P.Part.member g.met.P.Subject.member_is t _ p s (λ mac. mac.expires p.moment.world p.moment.state) _ (c.in-None.ensures p.moment.world p.moment.state s.world s.state)) in
    IfOk-weaker c.ticks_on-in-None.result _ _ (λ right h. never_ends own p (Stands g.P.Whole.agrees g.P.Subject.setting g.P.Part.table g.P.Part.stands t c.ticks_on-in-None.new.auditor) right c.args.report.now.number (own_text c.args.report.now) (own_text c.ticks_on-in-None.new.report) c.args.ticks ((g.P.Subject.setting t).machine.expires p.moment.world p.moment.state) left h) (c.ticks_on-in-None.ensures.on t p stands served)

pub returns-in-None-clause-ready : goal.returns-in-None-clause-ready
returns-in-None-clause-ready g c given ready = c.ticks_on-in-None.ensures.ready given ready

pub returns-then-ends-clause-on : goal.returns-then-ends-clause-on
returns-then-ends-clause-on g c = c.ticks_through.ensures.on

pub returns-else-ends-clause-on : goal.returns-else-ends-clause-on
returns-else-ends-clause-on g c = c.ticks_on.ensures.advances

pub returns-in-None-clause-on : goal.returns-in-None-clause-on
returns-in-None-clause-on g c = c.ticks_on-in-None.ensures.advances
