use Rattle.std.proofs.Common.{◌<◌, ap, subst, sym, ◌∙◌, ◌&&◌}
use Rattle.module_machines.specs.icu.Machine.{capture_at, ready_by, waits}
use Rattle.module_machines.specs.icu.Table.{channel_of_line, channel_number}
use Rattle.audit_captures.specs.Stands.{CapturesKept}
use Rattle.audit_captures.proofs.ChannelLaws.{channel-below}
use Rattle.audit_captures.proofs.ServeLaws.{line-channel}
use Rattle.audit_captures.proofs.captures.Captures.ready.Goals as goal

pub waits_at-requires : goal.waits_at-requires
waits_at-requires c =
    let d = c.args.self.now.driver in
    let known = sym (c.in-Some.ensures ∙ ap (λ (t : CapturesKept). channel_of_line t.driver c.args.line) c.self.view_is) in
    subst (λ n. n < 8) (sym c.saturating_sub.ensures) (channel-below d (channel_number c.args.line) _ (line-channel d c.args.line _ known))

pub returns-in-Some : goal.returns-in-Some
returns-in-Some c w s h =
    let line = c.in-Some.ensures ∙ ap (λ (t : CapturesKept). channel_of_line t.driver c.args.line) c.self.view_is in
    c.waits_at.ensures s h ∙ (ap (λ n. s.initialised && waits (capture_at s n).waiting) c.saturating_sub.ensures ∙ ap (λ k. ready_by k s (channel_number c.args.line)) line)

pub returns-in-None : goal.returns-in-None
returns-in-None c w s h =
    ap (λ k. ready_by k s (channel_number c.args.line)) (c.in-None.ensures ∙ ap (λ (t : CapturesKept). channel_of_line t.driver c.args.line) c.self.view_is)
