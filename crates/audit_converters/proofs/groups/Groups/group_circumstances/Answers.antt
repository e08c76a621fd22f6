use Rattle.audit_converters.proofs.Terms.{ap, group_at, GroupKept, is_idle, is_some, not, ◌∙◌}
use Rattle.audit_converters.proofs.groups.Groups.group_circumstances.Goals as goal

pub returns : goal.returns
returns c s h =
    let x = group_at s c.args.group in
    let off = not s.initialised in
    let free = not (is_some x.chosen) in
    ap (λ b. record { uninitialised = not b; unbuffered = c.is_unbuffered.result; idle = c.is_idle.result; busy = c.is_group_busy-busy.result }) (c.is_initialised-initialised.ensures s h)
    ∙ (ap (λ b. record { uninitialised = off; unbuffered = b; idle = c.is_idle.result; busy = c.is_group_busy-busy.result }) (c.is_unbuffered.ensures ∙ ap (λ (y : GroupKept). not (is_some y.chosen)) (c.at-found.ensures.is s h))
    ∙ (ap (λ b. record { uninitialised = off; unbuffered = free; idle = b; busy = c.is_group_busy-busy.result }) (c.is_idle.ensures ∙ ap (λ (y : GroupKept). is_idle y.status) (c.at-found.ensures.is s h))
    ∙ ap (λ b. record { uninitialised = off; unbuffered = free; idle = is_idle x.status; busy = b }) (c.is_group_busy-busy.ensures s h)))
