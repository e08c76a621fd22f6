use Rattle.audit_converters.proofs.Terms.{ap, ◌&&◌, ◌∙◌}
use Rattle.audit_converters.proofs.groups.Groups.ready.Goals as goal

pub returns : goal.returns
returns c w s at h = c.both.ensures ∙ (ap (λ b. b && c.waits-waits.result) (c.is_initialised-initialised.ensures s h) ∙ ap (λ b. s.initialised && b) (c.waits-waits.ensures w s at h))
