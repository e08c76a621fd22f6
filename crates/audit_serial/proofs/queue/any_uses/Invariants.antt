use Rattle.std.proofs.Common.{◌≡◌, drop, map}
use Rattle.spi_machine.specs.Pending.{is_in_use}
use Rattle.audit_serial.specs.Words.{pending_as}
use Rattle.audit_serial.proofs.queue.any_uses.Given as goal

abbrev pub invariant-loop-entry : goal.invariant-loop-entry
invariant-loop-entry l = is_in_use l.table l.channel (map pending_as l.entries) ≡ is_in_use l.table l.channel (map pending_as (drop l.entry-index l.entries))
