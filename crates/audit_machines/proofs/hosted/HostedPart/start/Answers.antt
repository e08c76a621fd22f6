use Rattle.std.specs.Prelude.{IfOk}
use Rattle.std.proofs.Common.{subst}
use Rattle.run_model.specs.Machine.{Starts}
use Rattle.audit_base.specs.Deeds.{Follows}
use Rattle.audit_machines.proofs.hosted.HostedPart.start.Goals as goal

pub returns-clause-follows : goal.returns-clause-follows
returns-clause-follows g c w s at stands =
    let h = g.H.Part in
    let m = (h.member (h.table c.args.self.now.host)).machine in
    subst (λ by. IfOk c.start.result (λ d. Follows (h.stands c.start.new.self) s d (m.happens w s (Starts c.args.unit by c.args.received)))) c.host_call.ensures (c.start.ensures.follows w s at stands)
