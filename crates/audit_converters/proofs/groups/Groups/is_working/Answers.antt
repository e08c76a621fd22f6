use Rattle.audit_converters.proofs.Terms.{ap, GroupKept, is_idle, not, ◌∙◌}
use Rattle.audit_converters.proofs.groups.Groups.is_working.Goals as goal

pub returns : goal.returns
returns c s h = ap not (c.is_idle.ensures ∙ ap (λ (x : GroupKept). is_idle x.status) (c.at.ensures.is s h))
