use Rattle.mcal_system.proofs.Carried.{stopped, whole, within}
use Rattle.mcal_system.proofs.system.System.into_journal.Goals as goal

pub returns-clause-whole : goal.returns-clause-whole
returns-clause-whole c = whole c.self.inside.engine c.self.invariant.made c.args.self c.self.view_is c.into_journal.result.entries c.into_journal.ensures.whole

pub returns-clause-stopped : goal.returns-clause-stopped
returns-clause-stopped c = stopped c.self.inside.engine c.self.invariant.made c.args.self c.self.view_is c.into_journal.result.entries c.self.invariant.limited c.into_journal.ensures.stopped

pub returns-clause-within : goal.returns-clause-within
returns-clause-within c = within c.self.inside.engine c.self.invariant.made c.args.self c.self.view_is c.self.invariant.limited c.into_journal.ensures.within
