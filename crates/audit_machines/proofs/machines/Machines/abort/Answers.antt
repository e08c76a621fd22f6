use Rattle.std.proofs.Common.{◌<◌, ◌^◌, refl, subst, sym}
use Rattle.run_model.specs.Machine.{Aborts}
use Rattle.audit_base.specs.Outside.{IsWorld}
use Rattle.audit_machines.proofs.Taken.{takes}
use Rattle.audit_machines.specs.Happens.{unreported}
use Rattle.audit_machines.proofs.machines.Machines.abort.Goals as goal

pub returns-clause-takes : goal.returns-clause-takes
returns-clause-takes g c w s at stands =
    let p = g.P.Part in
    takes (IsWorld c.count.new.self w) (p.stands c.abort.new.self) s c.uncalled.result c.in_ok-done.done unreported ((p.member (p.table c.args.self.now.modules)).machine.happens w s (Aborts c.args.unit)) (c.count.ensures.world w at) c.uncalled.ensures (c.in_ok-done.ensures.follows w s at stands)

pub returns-clause-on : goal.returns-clause-on
returns-clause-on g c =
    record { fit = c.in_ok-done.ensures.fits c.count.new.self c.count.ensures.after; same = c.in_ok-done.ensures.table; places = refl; told = c.count.ensures.told; short = subst (λ n. n < 2 ^ 63) (sym c.count.ensures.osc) c.requires.short }
