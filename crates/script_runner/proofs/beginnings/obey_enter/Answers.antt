use Rattle.run_model.specs.Script.{deeds_of}
use Rattle.script_runner.proofs.Orders.{began_line, stayed_line}
use Rattle.script_runner.specs.Scripts.{chip_for}
use Rattle.script_runner.proofs.beginnings.obey_enter.Goals as goal

pub returns-in-Ok-clause-began : goal.returns-in-Ok-clause-began
returns-in-Ok-clause-began g c =
    let law = g.met.M.Module.laws c.args.course.now.driver c.requires.fits in
    began_line (g.M.Module.spec c.args.course.now.driver) (chip_for c.args.course.now.devices c.args.course.now.config c.args.course.now.script.now) (g.M.Caller.call_of c.args.course.now.driver) c.args.course.now.script.now c.args.line c.depth-depth.result c.args.irq c.args.parts.now.bus c.args.parts.now.stack c.args.parts.now.journal c.enter.new.stack c.begun.new.self
    (law.handled c.args.irq) c.requires.at c.in-Ok.ensures.cause c.depth-depth.ensures c.in-Ok.ensures.stack c.begun.ensures
    (c.in-Ok.ensures.stands (chip_for c.args.course.now.devices c.args.course.now.config c.args.course.now.script.now) (deeds_of (g.M.Caller.call_of c.args.course.now.driver) c.args.course.now.script.now c.args.parts.now.journal.entries) c.requires.fits c.requires.stands)
    c.requires.stands (λ f e. law.line_fuel c.args.irq f e)

pub returns-in-Err-clause-held : goal.returns-in-Err-clause-held
returns-in-Err-clause-held g c =
    let law = g.met.M.Module.laws c.args.course.now.driver c.requires.fits in
    stayed_line (g.M.Module.spec c.args.course.now.driver) (chip_for c.args.course.now.devices c.args.course.now.config c.args.course.now.script.now) (g.M.Caller.call_of c.args.course.now.driver) c.args.course.now.script.now c.args.line c.depth-depth.result c.args.irq c.in-Err.cause c.args.parts.now.bus c.args.parts.now.stack c.args.parts.now.journal c.enter.new.stack c.held.new.self
    (law.handled c.args.irq) c.in-Err.ensures.cause c.depth-depth.ensures c.in-Err.ensures.stack c.held.ensures c.requires.stands
