use Rattle.std.proofs.Common.{◌≡◌, drop}
use Rattle.std.specs.List.{list_any}
use Rattle.spi_machine.specs.State.{carries_channel}
use Rattle.audit_serial.proofs.units.any_uses.Given as goal

abbrev pub invariant-loop-each : goal.invariant-loop-each
invariant-loop-each l = list_any (carries_channel l.table l.channel) l.carried ≡ list_any (carries_channel l.table l.channel) (drop l.each-index l.carried)
