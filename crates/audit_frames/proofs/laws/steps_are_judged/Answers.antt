-- Steps are judged as the definitions say.
use Rattle.audit_frames.proofs.PartLaws.{whole, divides}
use Rattle.audit_frames.proofs.StackLaws.{begins, holds, steps_on}
use Rattle.audit_frames.proofs.StepLaws.{sound, complete, goes}
use Rattle.audit_frames.proofs.laws.steps_are_judged.Goals as goal

pub returns : goal.returns
returns g c = record {
  sound = sound g.R.Run.setting;
  complete = complete g.R.Run.setting;
  whole = λ m o s. whole g.R.Run.setting m o s;
  divides = λ m o s. divides g.R.Run.setting m o s;
  going = goes g.R.Run.setting;
  begins = begins g.R.Run.setting;
  holds = holds g.R.Run.setting;
  steps_on = steps_on g.R.Run.setting;
}
