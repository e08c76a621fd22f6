use Rattle.std.proofs.Common.{◌≡◌, ◌≤◌, ◌*◌, take}
use Rattle.std.specs.Prelude.{sum_by}
use Rattle.spi_machine.specs.Bounds.{internal_by}
use Rattle.audit_serial.proofs.may.internal_words.Given as goal

abbrev pub invariant-loop-channel : goal.invariant-loop-channel
invariant-loop-channel l = (l.words ≡ sum_by internal_by (take l.channel-index l.channels)) × (l.words ≤ 255 * l.channel-index)
