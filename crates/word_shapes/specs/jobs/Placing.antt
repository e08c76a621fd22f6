-- The driver words of a channel, and what stands in them.
use Rattle.std.specs.Prelude.{ℕ, ◌+◌, ◌-◌, ◌*◌, ◌/◌, ◌%◌, ◌^◌, ◌==◌, nat_lt, Bool, true, false, ◌&&◌, if◌then◌else◌}
use Rattle.mcal_base.specs.declared.layout.TheConstants.{SOURCES, DESTINATIONS}
use Rattle.word_shapes.specs.declared.triple_buffer.TripleBuffer.{TripleBuffer}
use Rattle.word_shapes.specs.declared.jobs.channel.Channel.{Channel}
use Rattle.word_shapes.specs.declared.jobs.channel.Placed.{Placed}
use Rattle.word_shapes.specs.declared.jobs.channel.Side.{Side}
use Rattle.word_shapes.specs.declared.jobs.channel.Side.TheVariants.{Sent, Received}
use Rattle.word_shapes.specs.declared.jobs.channel.TheConstants.{START}
use Rattle.word_shapes.specs.declared.jobs.set_up.SetUp.{SetUp}

abbrev pub first_word : Placed → ℕ
first_word x = START + x.block

abbrev pub control_word : Placed → Side → ℕ
control_word x Sent = first_word x
control_word x Received = first_word x + 1

-- where the three banks begin
abbrev pub banks_word : Placed → Side → ℕ
banks_word x Sent = first_word x + 4
banks_word x Received = first_word x + 4 + 3 * x.channel.length

abbrev pub bank_word : Placed → Side → (bank place : ℕ) → ℕ
bank_word x side b i = banks_word x side + b * x.channel.length + i

-- the three banks of a side
abbrev pub trio_of : Placed → Side → TripleBuffer
trio_of x side = record { banks = banks_word x side; control = control_word x side; len = x.channel.length }

abbrev pub held_word : Placed → ℕ
held_word x = first_word x + 2

abbrev pub set_up_word : Placed → ℕ
set_up_word x = first_word x + 3

-- a place of the users' arrays
abbrev pub source_word : Placed → ℕ → ℕ
source_word x i = SOURCES + 64 * x.number + i

abbrev pub destination_word : Placed → ℕ → ℕ
destination_word x i = DESTINATIONS + 64 * x.number + i

-- a word, masked to a channel's width
abbrev pub masked_by : Channel → ℕ → ℕ
masked_by k v = if nat_lt k.width 32 then v % 2 ^ k.width else v

-- ---- set-ups

abbrev pub flag : Bool → ℕ
flag true = 1
flag false = 0

-- a set-up as a driver word has it, and the one that a word has
abbrev pub packed : SetUp → ℕ
packed x = flag x.source + 2 * flag x.destination + 4 * x.length

abbrev pub unpacked : ℕ → SetUp
unpacked v = record { source = v % 2 == 1; destination = v / 2 % 2 == 1; length = v / 4 % 256 }

-- no source, no destination, the greatest length
abbrev pub not_set_up : Channel → SetUp
not_set_up k = record { source = false; destination = false; length = k.length }

abbrev pub or_none : ℕ → Channel → SetUp
or_none v k = if v == 0 then not_set_up k else unpacked v

-- ---- banks

-- a bank as a word has its number, and the bank that a control word has pinned
abbrev pub bank_of : ℕ → ℕ
bank_of v = v % 4

abbrev pub pinned_bank : ℕ → ℕ
pinned_bank v = (v / 4 - 1) % 4
