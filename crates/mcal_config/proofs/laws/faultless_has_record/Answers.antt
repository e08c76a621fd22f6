use Rattle.mcal_config.proofs.Recorded.{faultless}
use Rattle.mcal_config.proofs.laws.faultless_has_record.Goals as goal

pub returns : goal.returns
returns c = faultless
