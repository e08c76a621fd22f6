use Rattle.run_model.specs.Script.{deeds_of}
use Rattle.script_runner.proofs.Orders.{began_call, stayed_call}
use Rattle.script_runner.specs.Scripts.{chip_for}
use Rattle.script_runner.proofs.beginnings.obey_call.Goals as goal

pub returns-in-Ok-clause-began : goal.returns-in-Ok-clause-began
returns-in-Ok-clause-began g c =
    began_call (g.M.Module.spec c.args.course.now.driver) (chip_for c.args.course.now.devices c.args.course.now.config c.args.course.now.script.now) (g.M.Caller.call_of c.args.course.now.driver) c.args.course.now.script.now c.args.line c.depth-depth.result c.args.level c.call-call.result (g.M.Caller.call_of c.args.course.now.driver c.args.request.now) c.args.parts.now.bus c.args.parts.now.stack c.args.parts.now.journal _ c.begin.new.stack c.begun.new.self
    c.call-call.ensures.call c.requires.at c.in-Ok.ensures.cause c.depth-depth.ensures c.in-Ok.ensures.stack c.begun.ensures
    (c.in-Ok.ensures.stands (chip_for c.args.course.now.devices c.args.course.now.config c.args.course.now.script.now) (deeds_of (g.M.Caller.call_of c.args.course.now.driver) c.args.course.now.script.now c.args.parts.now.journal.entries) c.requires.fits c.call-call.ensures.can c.requires.stands)
    c.requires.stands ((g.met.M.Module.laws c.args.course.now.driver c.requires.fits).call_fuel c.call-call.result c.call-call.ensures.can)

pub returns-in-Err-clause-held : goal.returns-in-Err-clause-held
returns-in-Err-clause-held g c =
    stayed_call (g.M.Module.spec c.args.course.now.driver) (chip_for c.args.course.now.devices c.args.course.now.config c.args.course.now.script.now) (g.M.Caller.call_of c.args.course.now.driver) c.args.course.now.script.now c.args.line c.depth-depth.result c.args.level c.in-Err.cause c.call-call.result (g.M.Caller.call_of c.args.course.now.driver c.args.request.now) c.args.parts.now.bus c.args.parts.now.stack c.args.parts.now.journal c.begin.new.stack c.held.new.self
    c.call-call.ensures.call c.in-Err.ensures.cause c.depth-depth.ensures c.in-Err.ensures.stack c.held.ensures c.requires.stands
