use Rattle.step_runner.proofs.Hung.{devices-taken, takes-same}
use Rattle.step_runner.proofs.Runs.{stands-step, fuel-step}
use Rattle.step_runner.specs.Kept.{written_by}
use Rattle.step_runner.proofs.run.step_into.Goals as goal

pub returns-clause-hung : goal.returns-clause-hung
returns-clause-hung g c = devices-taken g.M.Frame.Routine.move_of g.M.Frame.Routine.left g.M.Frame.Routine.gave c.args.stack.now.frames c.args.stack.now.steps _ _ c.args.bus.now c.step_top.new.self c.step_top.new.bus c.step_top.result c.step_top.new.stepped c.step_top.ensures.count c.step_top.ensures.step

pub returns-clause-stands : goal.returns-clause-stands
returns-clause-stands g c driver first h hung fits few st = stands-step (g.M.Module.spec driver) g.M.Frame.Routine.move_of g.M.Frame.Routine.left g.M.Frame.Routine.gave (g.met.M.Module.laws driver fits) first h c.args.bus.now c.step_top.new.bus c.args.stack.now.frames c.args.stack.now.steps c.step_top.new.self (written_by c.step_top.result c.step_top.new.stepped) c.requires.still (takes-same g.M.Frame.Routine.move_of g.M.Frame.Routine.left g.M.Frame.Routine.gave c.args.stack.now.frames c.args.stack.now.steps _ c.args.bus.now c.step_top.new.self c.step_top.new.bus (written_by c.step_top.result c.step_top.new.stepped) hung c.step_top.ensures.step) few st

pub returns-clause-shortens : goal.returns-clause-shortens
returns-clause-shortens g c driver first h hung fits few st = fuel-step (g.M.Module.spec driver) g.M.Frame.Routine.move_of g.M.Frame.Routine.left g.M.Frame.Routine.gave (g.met.M.Module.laws driver fits) first h c.args.bus.now c.step_top.new.bus c.args.stack.now.frames c.args.stack.now.steps c.step_top.new.self (written_by c.step_top.result c.step_top.new.stepped) c.requires.still (takes-same g.M.Frame.Routine.move_of g.M.Frame.Routine.left g.M.Frame.Routine.gave c.args.stack.now.frames c.args.stack.now.steps _ c.args.bus.now c.step_top.new.self c.step_top.new.bus (written_by c.step_top.result c.step_top.new.stepped) hung c.step_top.ensures.step) few st
