-- The ticks are compared with what is left.
use Rattle.std.proofs.Common.{◌∙◌, ◌&&◌, nat_le, nat_lt, true, ap, sym, subst, arith}
use Rattle.run_model.specs.Legal.{InTime}
use Rattle.run_model.specs.Moment.{Happens}
use Rattle.audit_frames.specs.Decides.{Decides}
use Rattle.audit_frames.proofs.Deciding.{yes}
use Rattle.report_auditor.proofs.LeftLaws.{happens_in_time}
use Rattle.report_auditor.proofs.auditor.Auditor.is_in_time.Goals as goal

pub returns-in-Some-clause-time : goal.returns-in-Some-clause-time
returns-in-Some-clause-time g c w s at stands =
    let is = sym c.in-Some.is ∙ c.expires.ensures w s (rw (← c.self.view_is) at at) (rw (← c.self.view_is) at stands) in
    rw (← c.self.view_is) (subst (λ x. Decides c.lasts.result (InTime {Call = g.row.P-Call.Denot} x (Happens c.args.order.now))) is (happens_in_time g.row.P-Call.Denot c.lasts.result c.args.order.now c.in-Some.left (c.lasts.ensures ∙ ap (λ n. nat_lt 0 c.in-Some.left && nat_le n c.in-Some.left) c.ticks_by-ticks.ensures)))

pub returns-in-None-clause-time : goal.returns-in-None-clause-time
returns-in-None-clause-time g c w s at stands =
    let is = sym c.in-None.is ∙ c.expires.ensures w s (rw (← c.self.view_is) at at) (rw (← c.self.view_is) at stands) in
    rw (← c.self.view_is) (subst (λ x. Decides true (InTime {Call = g.row.P-Call.Denot} x (Happens c.args.order.now))) is (yes tt))

pub returns-in-Some-clause-few : goal.returns-in-Some-clause-few
returns-in-Some-clause-few g c = omega (arith, c.ticks_by-ticks.ensures)

pub returns-in-None-clause-few : goal.returns-in-None-clause-few
returns-in-None-clause-few g c = omega (arith, c.ticks_by-ticks.ensures)
