use Rattle.script_runner.proofs.UnderWay.{few_of, follows_of, legal_of, stopped_of}
use Rattle.script_runner.proofs.engine.Engine.journal.Goals as goal

pub returns-clause-follows : goal.returns-clause-follows
returns-clause-follows g c = let i = c.self.inside in rw (← c.self.view_is) (follows_of (g.M.Module.spec i.course.driver) (g.M.Caller.call_of i.course.driver) (g.M.Caller.has_service i.course.driver) i.course.config i.course.script.now i.course.devices i.limit i.course.most i.obeyed i.too_long i.parts.bus i.parts.stack i.parts.journal c.self.invariant)

pub returns-clause-stops : goal.returns-clause-stops
returns-clause-stops g c = let i = c.self.inside in rw (← c.self.view_is) (stopped_of (g.M.Module.spec i.course.driver) (g.M.Caller.call_of i.course.driver) (g.M.Caller.has_service i.course.driver) i.course.config i.course.script.now i.course.devices i.limit i.course.most i.obeyed i.too_long i.parts.bus i.parts.stack i.parts.journal c.self.invariant)

pub returns-clause-legal : goal.returns-clause-legal
returns-clause-legal g c = let i = c.self.inside in rw (← c.self.view_is) (legal_of (g.M.Module.spec i.course.driver) (g.M.Caller.call_of i.course.driver) (g.M.Caller.has_service i.course.driver) i.course.config i.course.script.now i.course.devices i.limit i.course.most i.obeyed i.too_long i.parts.bus i.parts.stack i.parts.journal c.self.invariant)

pub returns-clause-few : goal.returns-clause-few
returns-clause-few g c = let i = c.self.inside in rw (← c.self.view_is) (few_of (g.M.Module.spec i.course.driver) (g.M.Caller.call_of i.course.driver) (g.M.Caller.has_service i.course.driver) i.course.config i.course.script.now i.course.devices i.limit i.course.most i.obeyed i.too_long i.parts.bus i.parts.stack i.parts.journal c.self.invariant)
