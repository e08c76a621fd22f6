use Rattle.std.proofs.Common.{Some, subst, sym}
use Rattle.std.specs.Prelude.{IfOk}
use Rattle.module_machines.specs.dio.Machine.{does}
use Rattle.run_model.specs.Machine.{Acts}
use Rattle.audit_base.proofs.Leaves.{comes_follow}
use Rattle.audit_base.specs.Deeds.{Follows, quiet}
use Rattle.audit_machines.specs.Guest.{happens}
use Rattle.audit_machines.proofs.hosted.HostedPart.act.Goals as goal

pub returns-in-Left-clause-follows : goal.returns-in-Left-clause-follows
returns-in-Left-clause-follows g c w s committed at times stands =
    let m = c.args.self.now in
    let h = g.H.Part in
    subst (λ call. IfOk c.act.result (λ d. Follows (h.stands c.act.new.self) s d (happens (h.member (h.table m.host)) (g.H.HasPins.pins (h.table m.host) m.outputs) m.ports w s (Acts call committed)))) (sym c.in-Left.is)
    (c.act.ensures.follows w s committed at times stands)

pub returns-in-Right-clause-follows : goal.returns-in-Right-clause-follows
returns-in-Right-clause-follows g c w s committed at times stands =
    let m = c.args.self.now in
    let h = g.H.Part in
    subst (λ call. Follows (h.stands c.act_on_pins-told.new.self) s (Some (quiet c.act_on_pins-told.result)) (happens (h.member (h.table m.host)) (g.H.HasPins.pins (h.table m.host) m.outputs) m.ports w s (Acts call committed))) (sym c.in-Right.is)
    (comes_follow (h.stands c.act_on_pins-told.new.self) s c.act_on_pins-told.result (Some (does (g.H.HasPins.pins (h.table m.host) m.outputs) m.ports w s c.in-Right.call)) (c.act_on_pins-told.ensures.gives w s at stands))
