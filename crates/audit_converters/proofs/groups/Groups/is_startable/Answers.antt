use Rattle.audit_converters.proofs.Terms.{ap, is_some, round_as, some_mapped, starts, sym, ◌||◌, ◌∙◌}
use Rattle.audit_converters.proofs.groups.Groups.is_startable.Goals as goal

pub returns : goal.returns
returns c w s at h =
    c.either.ensures
    ∙ (ap (λ b. b || c.is_some-aborts.result) (c.is_some-starts.ensures ∙ ap is_some (c.starts.ensures s h))
    ∙ ap (λ b. is_some (starts c.args.table.now s c.args.unit) || b) (c.is_some-aborts.ensures ∙ (sym (some_mapped round_as c.aborts.result) ∙ ap is_some (c.aborts.ensures w s at h))))
