use Rattle.std.proofs.Common.{◌≡◌, ◌≤◌, ◌*◌, take}
use Rattle.std.specs.Prelude.{sum_by}
use Rattle.spi_machine.specs.Table.{channel_of, length_by}
use Rattle.spi_machine.proofs.bounds.words.Given as goal

abbrev pub invariant-loop-channel : goal.invariant-loop-channel
invariant-loop-channel l = (l.words ≡ sum_by (λ c. length_by (channel_of l.table c)) (take l.channel-index l.channels)) × (l.words ≤ 255 * l.channel-index)
