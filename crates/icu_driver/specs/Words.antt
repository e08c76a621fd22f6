-- The driver words of the module, the bits of channels, and what registers are set to.
use Rattle.std.specs.Prelude.{ℕ, ◌+◌, ◌*◌, ◌%◌, ◌^◌, nat_lt, if◌then◌else◌, Option, Some, None}
use Rattle.mcal_base.specs.Bits.{bit_of}
use Rattle.mcal_base.specs.declared.config.icu.IcuStartEdge.{IcuStartEdge}
use Rattle.mcal_base.specs.declared.config.icu.IcuStartEdge.TheVariants.{Rising, Falling, Both}
use Rattle.module_machines.specs.icu.Table.{is_counter, is_measurement}
use Rattle.module_machines.specs.declared.icu.table.Channel.{Channel}
use Rattle.icu_driver.specs.declared.words.TheConstants.{LINE, STAMPS}

-- the word of a channel in a row of words
abbrev pub word : ℕ → ℕ → ℕ
word row c = row + c

-- the line of a channel
abbrev pub line : ℕ → ℕ
line c = LINE + c

-- the word of a place of a channel's stamps; a place past the last one has the first one's
abbrev pub stamp_word : (channel place : ℕ) → ℕ
stamp_word c i = STAMPS + 64 * c + (if nat_lt i 64 then i else 0)

-- the bit of a channel, in 32 bits
abbrev pub bit : ℕ → ℕ
bit c = if nat_lt c 32 then 2 ^ c else 0

-- a number, by its halves
abbrev pub joined : ℕ → ℕ → ℕ
joined low high = low % 65536 + high % 65536 * 65536

-- the condition that chooses these edges
abbrev pub condition_of : IcuStartEdge → ℕ
condition_of Rising = 1
condition_of Falling = 2
condition_of Both = 3

-- the condition and the mode of a channel after Icu_Init
abbrev pub first_condition : Option Channel → ℕ
first_condition None = 0
first_condition (Some k) = if is_measurement k.mode then 3 else condition_of k.start_edge

abbrev pub mode_of : Option Channel → ℕ
mode_of None = 0
mode_of (Some k) = bit_of (is_counter k.mode)
