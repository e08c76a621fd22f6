use Rattle.std.proofs.Common.{◌≡◌, drop}
use Rattle.chip_model.specs.Chip.{channel_from}
use Rattle.audit_machines.proofs.around_pins.channel_at.Given as goal

abbrev pub invariant-loop-channel : goal.invariant-loop-channel
invariant-loop-channel l = channel_from 0 l.outputs l.pin ≡ channel_from l.channel (drop l.channel l.outputs) l.pin
