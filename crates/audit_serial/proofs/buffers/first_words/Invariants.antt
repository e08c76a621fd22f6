use Rattle.std.proofs.Common.{◌≡◌}
use Rattle.spi_machine.specs.Numbered.{first_items}
use Rattle.audit_serial.proofs.buffers.first_words.Given as goal

abbrev pub invariant-loop-place : goal.invariant-loop-place
invariant-loop-place l = l.words.items ≡ first_items 0 l.place l.from
