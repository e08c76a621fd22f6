-- What is in time comes where its machines allow it, and the moment after it is served.
use Rattle.std.proofs.Common.{◌+◌, subst, arith}
use Rattle.std.proofs.lemmas.Bool.{OnTrue_at, OnTrue_from}
use Rattle.run_model.specs.Legal.{InTime}
use Rattle.run_model.specs.Moment.{Happens}
use Rattle.script_runner.specs.Standing.{words_by}
use Rattle.audit_frames.specs.Decides.{Decides}
use Rattle.report_auditor.proofs.DeedLaws.{moved_judged}
use Rattle.report_auditor.proofs.ServedParts.{fails, machine_is}
use Rattle.report_auditor.proofs.SoundLaws.{as_many}
use Rattle.report_auditor.proofs.auditor.Auditor.happens.Goals as goal

pub returns-then-not-is_in_time-clause-comes : goal.returns-then-not-is_in_time-clause-comes
returns-then-not-is_in_time-clause-comes g c t p stands served held =
    let time = subst (λ mac. Decides c.is_in_time.result (InTime {Call = g.row.P-Call.Denot} (mac.expires p.moment.world p.moment.state) (Happens c.args.directive.now.order))) (machine_is g.P.Whole.agrees g.P.Subject.setting g.P.Part.table g.P.Part.stands g.P.Part.member g.met.P.Subject.member_is t _ p stands) (c.is_in_time.ensures.time p.moment.world p.moment.state stands.world stands.state) in
    λ h. fails c.is_in_time.result time c.if-not-is_in_time.true h.time

pub moves-requires-clause-time : goal.moves-requires-clause-time
moves-requires-clause-time g c = OnTrue_at c.if-not-has_time.false c.has_time.ensures

pub moves-requires-clause-rate : goal.moves-requires-clause-rate
moves-requires-clause-rate g c = (c.rate-rate.ensures.ticks, omega arith)

pub is_served-requires-clause-fits : goal.is_served-requires-clause-fits
is_served-requires-clause-fits g c = (c.in-Ok.ensures.sound 0 (as_many g.P.Part.fits g.P.Whole.within g.P.Part.ticks c.args.self.now (words_by c.args.directive.now.order) (words_by c.args.directive.now.order + 0) (omega arith) c.requires.ready)).can_tell

pub is_served-requires-clause-within : goal.is_served-requires-clause-within
is_served-requires-clause-within g c = (c.in-Ok.ensures.sound 0 (as_many g.P.Part.fits g.P.Whole.within g.P.Part.ticks c.args.self.now (words_by c.args.directive.now.order) (words_by c.args.directive.now.order + 0) (omega arith) c.requires.ready)).in_limits

pub returns-in-Ok-clause-comes : goal.returns-in-Ok-clause-comes
returns-in-Ok-clause-comes g c t p stands served held =
    let order = c.args.directive.now.order in
    let time = subst (λ mac. Decides c.is_in_time.result (InTime {Call = g.row.P-Call.Denot} (mac.expires p.moment.world p.moment.state) (Happens order))) (machine_is g.P.Whole.agrees g.P.Subject.setting g.P.Part.table g.P.Part.stands g.P.Part.member g.met.P.Subject.member_is t _ p stands) (c.is_in_time.ensures.time p.moment.world p.moment.state stands.world stands.state) in
    moved_judged g.P.Whole.agrees g.P.Subject.setting g.P.Part.table g.P.Part.stands t c.moves.new.self _ p order c.is_served.result (time.says c.if-not-is_in_time.false) held (c.in-Ok.ensures.moved t p stands) (c.is_served.ensures.served t) (c.is_served.ensures.stands t)

pub returns-in-Ok-clause-ready : goal.returns-in-Ok-clause-ready
returns-in-Ok-clause-ready g c given ready = OnTrue_from c.is_served.result _ (λ e. record { sound = c.is_served.ensures.sound given (c.in-Ok.ensures.sound given ready); rate = OnTrue_at e c.is_served.ensures.rate })
