use Rattle.module_machines.proofs.of_port.ModeLaws.{found_among, listed_among}
use Rattle.module_machines.proofs.port.laws.modes_of_a_pin.Goals as goal

pub returns : goal.returns
returns _ x m = (found_among x.modes m, listed_among x.modes m)
