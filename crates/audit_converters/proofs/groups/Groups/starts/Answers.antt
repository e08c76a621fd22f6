use Rattle.audit_converters.proofs.Terms.{ap, next_group, option_map, round_as, starts_by, sym, ◌∙◌}
use Rattle.audit_converters.proofs.groups.Groups.starts.Goals as goal

pub returns-in-Some : goal.returns-in-Some
returns-in-Some c s h = ap (λ r. starts_by (option_map round_as r) (next_group c.args.table.now s c.args.unit)) (sym c.in-Some.is) ∙ ap (λ r. starts_by r (next_group c.args.table.now s c.args.unit)) (c.round.ensures s h)

pub returns-in-None : goal.returns-in-None
returns-in-None c s h = c.next_group.ensures s h ∙ (ap (λ r. starts_by (option_map round_as r) (next_group c.args.table.now s c.args.unit)) (sym c.in-None.is) ∙ ap (λ r. starts_by r (next_group c.args.table.now s c.args.unit)) (c.round.ensures s h))
