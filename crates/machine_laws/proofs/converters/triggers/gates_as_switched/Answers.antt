use Rattle.machine_laws.proofs.PulseLaws.{gate_on, gate_off}
use Rattle.machine_laws.proofs.converters.triggers.gates_as_switched.Goals as goal

pub returns : goal.returns
returns _ = record { on = gate_on; off = gate_off }
