use Rattle.std.proofs.Common.{refl, subst}
use Rattle.run_model.specs.Machine.{Moves}
use Rattle.run_model.specs.World.{world_after}
use Rattle.audit_base.specs.Outside.{IsWorld}
use Rattle.audit_machines.proofs.Taken.{takes_silent}
use Rattle.audit_machines.proofs.machines.Machines.move_by.Goals as goal

pub returns-clause-takes : goal.returns-clause-takes
returns-clause-takes g c w s at stands =
    let p = g.P.Part in
    let m = (p.member (p.table c.args.self.now.modules)).machine in
    let order = c.args.order.now in
    takes_silent (IsWorld c.move_by.new.self (world_after w (m.rate s) order)) (p.stands c.moved.new.self) s c.nothing.result (m.happens w s (Moves order))
    (subst (λ n. IsWorld c.move_by.new.self (world_after w n order)) (c.rate-rate.ensures.is s stands) (c.in_ok-move_by.ensures.world w at)) c.nothing.ensures (c.in_ok-moved.ensures.comes w s at stands)

pub returns-clause-on : goal.returns-clause-on
returns-clause-on g c =
    record { fit = c.in_ok-moved.ensures.fits c.move_by.new.self c.in_ok-move_by.ensures.after; same = c.in_ok-moved.ensures.table; places = refl; told = c.in_ok-move_by.ensures.told; short = c.in_ok-move_by.ensures.short }
