use Rattle.audit_converters.proofs.Terms.{ap, Kept, ◌∙◌}
use Rattle.audit_converters.proofs.groups.Groups.is_initialised.Goals as goal

pub returns : goal.returns
returns c s h = ap (λ (k : Kept). k.initialised) c.self.view_is ∙ h.initialised
