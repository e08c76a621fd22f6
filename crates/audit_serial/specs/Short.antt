-- What is asked of a configuration.
use Rattle.std.specs.Prelude.{◌≡◌, ◌≤◌, ℕ, Some}
use Rattle.word_shapes.specs.declared.jobs.channel.Channel.{Channel}
use Rattle.spi_machine.specs.Table.{channel_of}
use Rattle.spi_machine.specs.declared.table.SpiTable.{SpiTable}

-- no channel has more than 64 words
abbrev pub IsShort : SpiTable → Type 0
IsShort d = (c : ℕ) (k : Channel) → channel_of d c ≡ Some k → k.length ≤ 64
