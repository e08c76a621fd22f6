use Rattle.audit_whole.specs.laws.Places.{few_channels}
use Rattle.audit_whole.proofs.laws.channels_are_few.Goals as goal

pub returns : goal.returns
returns c t d outputs channel limits e = few_channels t channel limits e
