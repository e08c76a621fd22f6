use Rattle.machine_laws.proofs.BufferLaws.{set_up_since}
use Rattle.machine_laws.proofs.serial.buffers.set_up_counts.Goals as goal

pub returns : goal.returns
returns _ d w s c words source destination times out history = set_up_since d w s c words source destination times out history
