use Rattle.step_runner.proofs.Beginnings.{after-hardware}
use Rattle.step_runner.proofs.run.hardware.Goals as goal

pub returns-clause-stands : goal.returns-clause-stands
returns-clause-stands g c driver first h fits free early st = after-hardware (g.M.Module.spec driver) g.M.Frame.Routine.move_of g.M.Frame.Routine.left g.M.Frame.Routine.gave (g.met.M.Module.laws driver fits) first h c.args.bus.now c.hardware.new.self c.args.stack.now.frames c.args.happening.now.order c.hardware.ensures c.requires early free st
