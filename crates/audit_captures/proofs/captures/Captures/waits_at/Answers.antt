use Rattle.std.proofs.Common.{◌≡◌, ap, subst, sym, ◌∙◌, ◌&&◌, true, false}
use Rattle.module_machines.specs.icu.Machine.{Capture, capture_at, waits}
use Rattle.module_machines.specs.icu.Table.{channel_of}
use Rattle.audit_captures.specs.Stands.{CapturesKept, ChannelStands}
use Rattle.audit_captures.proofs.captures.Captures.waits_at.Goals as goal

pub returns-then-self : goal.returns-then-self
returns-then-self c s h =
    let n = c.args.number in
    let k = channel_of c.args.self.now.driver n in
    let there : ChannelStands k c.at.result (capture_at s n) = subst (λ z. ChannelStands k z (capture_at s n)) (sym c.at.ensures.is) (h.channels n c.requires) in
    let on : s.initialised ≡ true = sym h.initialised ∙ (sym (ap (λ (t : CapturesKept). t.initialised) c.self.view_is) ∙ c.if-self.true) in
    c.waits-waits.ensures ∙ (ap (λ (x : Capture). waits x.waiting) (sym there.is) ∙ ap (λ q. q && waits (capture_at s n).waiting) (sym on))

pub returns-else-self : goal.returns-else-self
returns-else-self c s h =
    let off : s.initialised ≡ false = sym h.initialised ∙ (sym (ap (λ (t : CapturesKept). t.initialised) c.self.view_is) ∙ c.if-self.false) in
    c.if-self.false ∙ ap (λ q. q && waits (capture_at s c.args.number).waiting) (sym off)
