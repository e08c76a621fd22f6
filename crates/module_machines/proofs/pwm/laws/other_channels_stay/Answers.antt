use Rattle.module_machines.proofs.of_pwm.StateLaws.{others_stay}
use Rattle.module_machines.proofs.pwm.laws.other_channels_stay.Goals as goal

pub returns : goal.returns
returns _ = others_stay
