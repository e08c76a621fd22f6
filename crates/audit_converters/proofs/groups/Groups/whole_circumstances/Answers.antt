use Rattle.audit_converters.proofs.Terms.{ap, not, true, ◌∙◌}
use Rattle.audit_converters.proofs.groups.Groups.whole_circumstances.Goals as goal

pub returns : goal.returns
returns c s h =
    ap (λ b. record { uninitialised = not b; unbuffered = true; idle = true; busy = c.is_any_under_way.result }) (c.is_initialised-initialised.ensures s h)
    ∙ ap (λ b. record { uninitialised = not s.initialised; unbuffered = true; idle = true; busy = b }) (c.is_any_under_way.ensures s h)
