use Rattle.std.proofs.Common.{arith, rules}
use Rattle.std.specs.Prelude.{Ok}
use Rattle.step_runner.proofs.Beginnings.{after-enter}
use Rattle.step_runner.proofs.run.enter.Goals as goal

pub returns-clause-stands : goal.returns-clause-stands
returns-clause-stands g c first h fits st = after-enter (g.M.Module.spec c.args.driver.now) g.M.Frame.Routine.move_of g.M.Frame.Routine.left g.M.Frame.Routine.gave (g.met.M.Module.laws c.args.driver.now fits) first h c.args.bus.now c.args.stack.now c.put_handler.new.self (Ok (tt {0})) c.args.line (search rules) (grind arith) st
