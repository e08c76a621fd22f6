use Rattle.audit_converters.proofs.Terms.{arith, has_room, take_more_set}
use Rattle.audit_converters.proofs.values.Values.with.Goals as goal

pub returns : goal.returns
returns c = take_more_set c.args.self.items c.args.self.count c.args.value (has_room c.args.self.items c.args.self.count (omega arith) c.requires)
