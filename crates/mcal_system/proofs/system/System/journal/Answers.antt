use Rattle.mcal_system.proofs.Carried.{follows, legal, stops}
use Rattle.mcal_system.proofs.system.System.journal.Goals as goal

pub returns-clause-follows : goal.returns-clause-follows
returns-clause-follows c = follows c.self.inside.engine c.self.invariant.made c.args.self.now c.self.view_is c.journal.result.now.entries c.journal.ensures.follows

pub returns-clause-stops : goal.returns-clause-stops
returns-clause-stops c = stops c.self.inside.engine c.self.invariant.made c.args.self.now c.self.view_is c.journal.result.now.entries c.journal.ensures.stops

pub returns-clause-legal : goal.returns-clause-legal
returns-clause-legal c = legal c.self.inside.engine c.self.invariant.made c.args.self.now c.self.view_is c.journal.result.now.entries c.journal.ensures.legal
