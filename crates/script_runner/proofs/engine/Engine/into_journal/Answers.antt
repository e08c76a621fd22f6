use Rattle.script_runner.proofs.UnderWay.{run_of}
use Rattle.script_runner.proofs.engine.Engine.into_journal.Goals as goal

pub returns-clause-whole : goal.returns-clause-whole
returns-clause-whole g c = let i = c.self.inside in rw (← c.self.view_is) (run_of (g.M.Module.spec i.course.driver) (g.M.Caller.call_of i.course.driver) (g.M.Caller.has_service i.course.driver) i.course.config i.course.script.now i.course.devices i.limit i.course.most i.obeyed i.too_long i.parts.bus i.parts.stack i.parts.journal c.self.invariant)
