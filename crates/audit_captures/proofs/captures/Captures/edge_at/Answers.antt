use Rattle.std.proofs.Common.{ap, subst, sym, ◌∙◌}
use Rattle.module_machines.specs.icu.Machine.{capture_at, edge_at_pin}
use Rattle.module_machines.specs.icu.Table.{channel_of}
use Rattle.audit_captures.specs.Stands.{CapturesKept, ChannelStands, capture_of}
use Rattle.audit_captures.proofs.ChannelLaws.{same-stands}
use Rattle.audit_captures.proofs.captures.Captures.edge_at.Goals as goal

pub returns-clause-is : goal.returns-clause-is
returns-clause-is c s h =
    let n = c.args.number in
    let k = channel_of c.args.self.now.driver n in
    let there : ChannelStands k c.at.result (capture_at s n) = subst (λ z. ChannelStands k z (capture_at s n)) (sym c.at.ensures.is) (h.channels n c.requires) in
    let found = c.channel.ensures ∙ ap (λ (t : CapturesKept). channel_of t.driver n) c.self.view_is in
    same-stands k c.at.result c.edge_at_pin.result (capture_at s n) (edge_at_pin k c.args.now c.args.pin c.args.rising) there
    (λ es stored. c.edge_at_pin.ensures.is es stored ∙ ap (λ z. edge_at_pin z c.args.now c.args.pin c.args.rising (capture_of c.at.result es stored)) found)
    c.edge_at_pin.ensures.same
