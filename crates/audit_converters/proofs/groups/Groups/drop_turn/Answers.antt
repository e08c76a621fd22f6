use Rattle.audit_converters.proofs.Terms.{None, with_waiting}
use Rattle.audit_converters.proofs.groups.Groups.drop_turn.Goals as goal

pub returns-clause-is : goal.returns-clause-is
returns-clause-is c s h = c.drop_rounds.ensures.is (with_waiting s c.args.group None) (c.set_waiting.ensures.is s h)
