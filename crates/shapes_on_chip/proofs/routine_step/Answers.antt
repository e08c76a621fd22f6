use Rattle.shapes_on_chip.proofs.Steps.{routine_step-test}
use Rattle.shapes_on_chip.proofs.routine_step.Goals as goal

pub returns : goal.returns
returns g c own n r chip received done whole there looks h =
    routine_step-test (record { move_of = g.R.Routine.move_of; left = g.R.Routine.left; gave = g.R.Routine.gave }) own n r chip received done whole there looks h
