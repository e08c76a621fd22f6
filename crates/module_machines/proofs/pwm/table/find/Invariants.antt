use Rattle.std.proofs.Common.{◌≡◌, drop}
use Rattle.module_machines.specs.pwm.Table as spec
use Rattle.module_machines.proofs.pwm.table.find.Given as goal

abbrev pub invariant-loop-channel : goal.invariant-loop-channel
invariant-loop-channel l = spec.channel_in l.channels l.number ≡ spec.channel_in (drop l.channel-index l.channels) l.number
