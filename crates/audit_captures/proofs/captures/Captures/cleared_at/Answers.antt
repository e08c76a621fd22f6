use Rattle.std.proofs.Common.{ap, subst, sym, ◌∙◌, Some}
use Rattle.module_machines.specs.icu.Machine.{capture_at, cleared}
use Rattle.module_machines.specs.icu.Table.{channel_of}
use Rattle.audit_captures.specs.Stands.{CapturesKept, ChannelStands}
use Rattle.audit_captures.proofs.ChannelLaws.{none-stands}
use Rattle.audit_captures.proofs.captures.Captures.cleared_at.Goals as goal

pub returns-in-Some-clause-is : goal.returns-in-Some-clause-is
returns-in-Some-clause-is c s h =
    let n = c.args.number in
    let x = capture_at s n in
    let y = c.at-capture.result in
    let k = c.in-Some.channel in
    let known = c.in-Some.ensures ∙ ap (λ (t : CapturesKept). channel_of t.driver n) c.self.view_is in
    let there : ChannelStands (Some k) y x = subst (λ z. ChannelStands z y x) (sym known) (subst (λ z. ChannelStands (channel_of c.args.self.now.driver n) z x) (sym c.at-capture.ensures.is) (h.channels n c.requires)) in
    subst (λ z. ChannelStands z c.cleared.result (cleared z x)) known (none-stands (Some k) y c.cleared.result x (cleared (Some k)) there c.cleared.ensures.is c.cleared.ensures.fresh)
