use Rattle.step_runner.proofs.Beginnings.{after-end}
use Rattle.step_runner.proofs.run.run_out.Goals as goal

pub returns-clause-stands : goal.returns-clause-stands
returns-clause-stands g c driver first h fits st = after-end (g.M.Module.spec driver) g.M.Frame.Routine.move_of g.M.Frame.Routine.left g.M.Frame.Routine.gave (g.met.M.Module.laws driver fits) first h c.args.bus.now c.hardware.new.self c.reset.new.self c.args.stack.now c.clear.new.self c.args.ticks c.hardware.ensures c.reset.ensures c.clear.ensures.left c.requires.can c.requires.ends st
