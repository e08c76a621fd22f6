use Rattle.module_machines.proofs.of_icu.MeasureLaws.{measures_are}
use Rattle.module_machines.proofs.icu.laws.measures_have_no_gap.Goals as goal

pub returns : goal.returns
returns c = measures_are
