use Rattle.std.proofs.Common.{◌≡◌}
use Rattle.spi_machine.specs.Numbered.{first_items}
use Rattle.audit_serial.proofs.buffers.Buffers.readable.Given as goal

abbrev pub invariant-loop-place : goal.invariant-loop-place
invariant-loop-place l = l.words ≡ first_items 0 l.place l.self-inside.received.items
