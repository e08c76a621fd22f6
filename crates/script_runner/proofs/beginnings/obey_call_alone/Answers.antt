use Rattle.run_model.specs.Follows.{call_held}
use Rattle.run_model.specs.Moment.{Begins}
use Rattle.script_runner.proofs.Orders.{alone, on_same, obeyed_same}
use Rattle.script_runner.specs.Scripts.{chip_for}
use Rattle.script_runner.proofs.beginnings.obey_call_alone.Goals as goal

pub returns : goal.returns
returns g c order at =
    let same = c.obey_call-began.ensures.bus in
    obeyed_same (g.M.Module.spec c.args.course.now.driver) (chip_for c.args.course.now.devices c.args.course.now.config c.args.course.now.script.now) (g.M.Caller.call_of c.args.course.now.driver) c.args.course.now.script.now c.args.course.now.most order c.args.parts.now.bus c.obey_call-began.new.parts.bus c.args.parts.now.stack c.args.parts.now.journal c.obey_call-began.new.parts.bus c.obey_call-began.new.parts.stack c.obey_call-began.new.parts.journal _ same
    (alone (g.M.Module.spec c.args.course.now.driver) (chip_for c.args.course.now.devices c.args.course.now.config c.args.course.now.script.now) (g.M.Caller.call_of c.args.course.now.driver) c.args.course.now.script.now c.args.course.now.most c.args.line order (Begins (g.M.Caller.call_of c.args.course.now.driver c.args.request.now) c.args.level) c.obey_call-began.new.parts.bus c.args.parts.now.stack c.args.parts.now.journal c.obey_call-began.new.parts.stack c.obey_call-began.new.parts.journal (λ m. call_held (g.M.Module.spec c.args.course.now.driver).setting m (g.M.Caller.call_of c.args.course.now.driver c.args.request.now) c.args.level) c.obey_call-began.result
    c.requires.room.steps at (on_same (g.M.Module.spec c.args.course.now.driver) (chip_for c.args.course.now.devices c.args.course.now.config c.args.course.now.script.now) (g.M.Caller.call_of c.args.course.now.driver) c.args.course.now.script.now c.args.parts.now.bus c.obey_call-began.new.parts.bus c.args.parts.now.stack.frames c.args.parts.now.journal.entries same c.requires.stands) c.obey_call-began.ensures.began c.obey_call-began.ensures.held)
