use Rattle.script_runner.proofs.UnderWay.{at_rest, none_left}
use Rattle.script_runner.proofs.engine.Engine.is_at_rest.Goals as goal

pub returns-clause-quiet : goal.returns-clause-quiet
returns-clause-quiet g c = let i = c.self.inside in rw (← c.self.view_is) (at_rest (g.M.Module.spec i.course.driver) (g.M.Caller.call_of i.course.driver) (g.M.Caller.has_service i.course.driver) i.course.config i.course.script.now i.course.devices i.limit i.course.most i.course.driver i.obeyed i.too_long i.parts.bus i.parts.stack i.parts.journal _ c.self.invariant (none_left _ _ c.depth.ensures))
