use Rattle.std.proofs.Common.{◌<◌, ◌^◌, refl, subst, sym}
use Rattle.run_model.specs.Frame.{report_of}
use Rattle.run_model.specs.Machine.{Acts}
use Rattle.audit_base.specs.Outside.{IsWorld}
use Rattle.audit_machines.proofs.Taken.{takes}
use Rattle.audit_machines.specs.Happens.{Takes, Tells, times_by}
use Rattle.audit_machines.proofs.machines.Machines.act.Goals as goal

pub returns-clause-takes : goal.returns-clause-takes
returns-clause-takes g c w s at stands =
    let p = g.P.Part in
    let old = c.args.self.now in
    let m = (p.member (p.table old.modules)).machine in
    let times = times_by old.places c.args.times.now in
    subst (λ call. Takes (λ y. IsWorld c.count.new.self w × p.stands c.act.new.self y) s c.told.result (report_of m call) (m.happens w s (Acts call times))) c.call_of-call.ensures
    (takes (IsWorld c.count.new.self w) (p.stands c.act.new.self) s c.told.result c.in_ok-done.done (report_of m c.call_of-call.result) (m.happens w s (Acts c.call_of-call.result times)) (c.count.ensures.world w at)
    (subst (λ t. Tells c.told.result c.in_ok-done.done (report_of (p.member t).machine c.call_of-call.result)) c.in_ok-done.ensures.table c.told.ensures)
    (c.in_ok-done.ensures.follows w s times at c.by_channel-times.ensures.are stands))

pub returns-clause-on : goal.returns-clause-on
returns-clause-on g c =
    record { fit = c.in_ok-done.ensures.fits c.count.new.self c.count.ensures.after; same = c.in_ok-done.ensures.table; places = refl; told = c.count.ensures.told; short = subst (λ n. n < 2 ^ 63) (sym c.count.ensures.osc) c.requires.short }
