use Rattle.machine_laws.proofs.RoundLaws.{inputs_listed}
use Rattle.machine_laws.proofs.converters.chip.inputs_as_listed.Goals as goal

pub returns : goal.returns
returns _ = inputs_listed
