use Rattle.std.proofs.Common.{arith}
use Rattle.sweep_trials.proofs.swept.with_steps.Goals as goal

pub returns : goal.returns
returns c = omega (arith, c.saturating_add.ensures, c.steps_of_all.ensures)
