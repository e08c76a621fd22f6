use Rattle.audit_converters.proofs.Terms.{ap, is_unit_taken, ◌∙◌}
use Rattle.audit_converters.proofs.groups.Groups.is_unit_taken.Goals as goal

pub returns-in-Some : goal.returns-in-Some
returns-in-Some c s h = c.is_taken.ensures s h ∙ ap (is_unit_taken c.args.table.now s) c.in-Some.ensures

pub returns-in-None : goal.returns-in-None
returns-in-None c s h = ap (is_unit_taken c.args.table.now s) c.in-None.ensures
