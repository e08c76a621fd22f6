use Rattle.audit_converters.proofs.Terms.{ap, is_under_way, takes_one, ◌&&◌, ◌||◌, ◌∙◌}
use Rattle.audit_converters.proofs.groups.Groups.is_start_busy.Goals as goal

pub returns : goal.returns
returns c s h =
    c.either.ensures
    ∙ (ap (λ b. b || c.both-full.result) (c.is_under_way-under_way.ensures s h)
    ∙ ap (λ b. is_under_way s c.args.group || b) (c.both-full.ensures
    ∙ (ap (λ b. b && c.is_unit_taken-taken.result) c.takes_one.ensures
    ∙ ap (λ b. takes_one c.args.table.now && b) (c.is_unit_taken-taken.ensures s h))))
