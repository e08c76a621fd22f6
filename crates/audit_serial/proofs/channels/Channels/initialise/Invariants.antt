use Rattle.std.proofs.Common.{◌≡◌}
use Rattle.spi_machine.specs.Channels.{initialised}
use Rattle.spi_machine.specs.Table.{channel_of}
use Rattle.audit_serial.proofs.Indexed.{changed_to}
use Rattle.audit_serial.proofs.channels.Channels.initialise.Given as goal

abbrev pub invariant-loop-number : goal.invariant-loop-number
invariant-loop-number l = l.self-inside.items.items ≡ changed_to (λ k. initialised (channel_of l.table k)) l.number l.initial.self-inside.items.items
