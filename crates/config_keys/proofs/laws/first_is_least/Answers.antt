use Rattle.config_keys.proofs.Least.{least}
use Rattle.config_keys.proofs.laws.first_is_least.Goals as goal

pub returns : goal.returns
returns c = least
