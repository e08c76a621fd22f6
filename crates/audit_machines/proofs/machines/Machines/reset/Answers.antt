use Rattle.std.proofs.Common.{◌<◌, ◌^◌, refl, subst, sym}
use Rattle.run_model.specs.Machine.{Restarts}
use Rattle.audit_base.specs.Outside.{IsWorld}
use Rattle.audit_machines.proofs.Taken.{takes_silent}
use Rattle.audit_machines.proofs.machines.Machines.reset.Goals as goal

pub returns-clause-takes : goal.returns-clause-takes
returns-clause-takes g c w s at stands =
    let p = g.P.Part in
    takes_silent (IsWorld c.count.new.self w) (p.stands c.reset.new.self) s c.nothing.result ((p.member (p.table c.args.self.now.modules)).machine.happens w s (Restarts c.args.reason)) (c.count.ensures.world w at) c.nothing.ensures (c.reset.ensures.comes w s stands)

pub returns-clause-on : goal.returns-clause-on
returns-clause-on g c =
    record { fit = c.reset.ensures.fits c.count.new.self c.count.ensures.after; same = c.reset.ensures.table; places = refl; told = c.count.ensures.told; short = subst (λ n. n < 2 ^ 63) (sym c.count.ensures.osc) c.requires.short }
