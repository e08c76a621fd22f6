use Rattle.std.proofs.Common.{arith}
use Rattle.script_runner.proofs.UnderWay.{next_at, next_built, next_offered, next_given, next_time, next_room, next_number, goes, stops}
use Rattle.script_runner.proofs.engine.Engine.obey.Goals as goal

pub obey_one-requires-clause-at : goal.obey_one-requires-clause-at
obey_one-requires-clause-at g c = let i = c.self.inside in next_at (g.M.Module.spec i.course.driver) (g.M.Caller.call_of i.course.driver) (g.M.Caller.has_service i.course.driver) i.course.config i.course.script.now i.course.devices i.limit i.course.most i.obeyed i.too_long c.args.directive.now i.parts.bus i.parts.stack i.parts.journal (rw (← c.self.view_is) at c.requires.next) c.self.invariant

pub obey_one-requires-clause-built : goal.obey_one-requires-clause-built
obey_one-requires-clause-built g c = let i = c.self.inside in next_built (g.M.Module.spec i.course.driver) (g.M.Caller.call_of i.course.driver) (g.M.Caller.has_service i.course.driver) i.course.config i.course.script.now i.course.devices i.limit i.course.most i.obeyed i.too_long c.args.directive.now i.parts.bus i.parts.stack i.parts.journal (rw (← c.self.view_is) at c.requires.next) c.self.invariant

pub obey_one-requires-clause-offered : goal.obey_one-requires-clause-offered
obey_one-requires-clause-offered g c = let i = c.self.inside in next_offered (g.M.Module.spec i.course.driver) (g.M.Caller.call_of i.course.driver) (g.M.Caller.has_service i.course.driver) i.course.config i.course.script.now i.course.devices i.limit i.course.most i.obeyed i.too_long c.args.directive.now i.parts.bus i.parts.stack i.parts.journal (rw (← c.self.view_is) at c.requires.next) c.self.invariant

pub obey_one-requires-clause-given : goal.obey_one-requires-clause-given
obey_one-requires-clause-given g c = let i = c.self.inside in next_given (g.M.Module.spec i.course.driver) (g.M.Caller.call_of i.course.driver) (g.M.Caller.has_service i.course.driver) i.course.config i.course.script.now i.course.devices i.limit i.course.most i.obeyed i.too_long c.args.directive.now i.parts.bus i.parts.stack i.parts.journal (rw (← c.self.view_is) at c.requires.next) (rw (← c.self.view_is) at c.requires.goes) c.self.invariant

pub obey_one-requires-clause-time : goal.obey_one-requires-clause-time
obey_one-requires-clause-time g c = let i = c.self.inside in next_time (g.M.Module.spec i.course.driver) (g.M.Caller.call_of i.course.driver) (g.M.Caller.has_service i.course.driver) i.course.config i.course.script.now i.course.devices i.limit i.course.most i.obeyed i.too_long c.args.directive.now i.parts.bus i.parts.stack i.parts.journal (rw (← c.self.view_is) at c.requires.next) (rw (← c.self.view_is) at c.requires.goes) c.self.invariant

pub obey_one-requires-clause-room : goal.obey_one-requires-clause-room
obey_one-requires-clause-room g c = let i = c.self.inside in next_room (g.M.Module.spec i.course.driver) (g.M.Caller.call_of i.course.driver) (g.M.Caller.has_service i.course.driver) i.course.config i.course.script.now i.course.devices i.limit i.course.most i.obeyed i.too_long c.args.directive.now i.parts.bus i.parts.stack i.parts.journal (rw (← c.self.view_is) at c.requires.next) (rw (← c.self.view_is) at c.requires.goes) c.self.invariant

pub overflow_add-self : goal.overflow_add-self
overflow_add-self g c = let i = c.self.inside in let h = next_number (g.M.Module.spec i.course.driver) (g.M.Caller.call_of i.course.driver) (g.M.Caller.has_service i.course.driver) i.course.config i.course.script.now i.course.devices i.limit i.course.most i.obeyed i.too_long c.args.directive.now i.parts.bus i.parts.stack i.parts.journal (rw (← c.self.view_is) at c.requires.next) c.self.invariant in omega (arith, h)

pub invariant_of-self : goal.invariant_of-self
invariant_of-self g c = let i = c.self.inside in goes (g.M.Module.spec i.course.driver) (g.M.Caller.call_of i.course.driver) (g.M.Caller.has_service i.course.driver) i.course.config i.course.script.now i.course.devices i.limit i.course.most i.obeyed i.too_long c.args.directive.now i.parts.bus i.parts.stack i.parts.journal c.obey_one.new.parts.bus c.obey_one.new.parts.stack c.obey_one.new.parts.journal (rw (← c.self.view_is) at c.requires.next) (rw (← c.self.view_is) at c.requires.goes) c.self.invariant c.in-Ok.ensures.obeyed

pub invariant_of-self-in-Err : goal.invariant_of-self-in-Err
invariant_of-self-in-Err g c = let i = c.self.inside in stops (g.M.Module.spec i.course.driver) (g.M.Caller.call_of i.course.driver) (g.M.Caller.has_service i.course.driver) i.course.config i.course.script.now i.course.devices i.limit i.course.most i.obeyed i.too_long c.args.directive.now i.parts.bus i.parts.stack i.parts.journal c.obey_one.new.parts.bus c.obey_one.new.parts.stack c.obey_one.new.parts.journal (rw (← c.self.view_is) at c.requires.next) (rw (← c.self.view_is) at c.requires.goes) c.self.invariant c.in-Err.ensures.too_long

pub returns-in-Ok-clause-adds : goal.returns-in-Ok-clause-adds
returns-in-Ok-clause-adds g c = let o = c.in-Ok.ensures.obeyed in rw (← c.self.view_is) (record { items = o.adds.items; is = o.adds.is; gives = o.adds.right })

pub obey_one-requires-clause-hung : goal.obey_one-requires-clause-hung
obey_one-requires-clause-hung g c = rw (← c.self.view_is) at c.requires.hung

pub returns-in-Ok-clause-calls : goal.returns-in-Ok-clause-calls
returns-in-Ok-clause-calls g c = rw (← c.self.view_is) c.obey_one.ensures.calls

pub returns-in-Err-clause-calls : goal.returns-in-Err-clause-calls
returns-in-Err-clause-calls g c = rw (← c.self.view_is) c.obey_one.ensures.calls
