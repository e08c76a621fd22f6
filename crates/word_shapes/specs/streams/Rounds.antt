-- Where the rounds of a group stand, and which places of a user's buffer a round goes to.
use Rattle.std.specs.Prelude.{ℕ, ◌+◌, ◌*◌, ◌==◌, if◌then◌else◌}
use Rattle.mcal_base.specs.Bits.{bit_of}
use Rattle.mcal_base.specs.declared.layout.TheConstants.{USERS}
use Rattle.word_shapes.specs.TripleBuffer.{word_at}
use Rattle.word_shapes.specs.declared.triple_buffer.TripleBuffer.{TripleBuffer}
use Rattle.word_shapes.specs.declared.streams.column.Column.{Column}
use Rattle.word_shapes.specs.declared.streams.rounds.Bank.{Bank}
use Rattle.word_shapes.specs.declared.streams.rounds.Bank.TheVariants.{Zero, One, Two}
use Rattle.word_shapes.specs.declared.streams.rounds.Rounds.{Rounds}
use Rattle.word_shapes.specs.declared.streams.rounds.TheConstants.{FIRST}

abbrev pub bank_of : ℕ → Bank
bank_of n = if n == 0 then Zero else (if n == 1 then One else Two)

abbrev pub bank_number : Bank → ℕ
bank_number Zero = 0
bank_number One = 1
bank_number Two = 2

-- the first word of a group's banks
abbrev pub banks_of : Rounds → ℕ
banks_of r = FIRST + r.start + 32

-- the three banks with their control word
abbrev pub trio_of : Rounds → TripleBuffer
trio_of r = record { banks = banks_of r; control = FIRST + r.start + 7; len = r.inputs }

-- the word of an input in a bank, and that of a kept value
abbrev pub bank_word : Rounds → Bank → ℕ → ℕ
bank_word r b j = word_at (trio_of r) (bank_number b) j

abbrev pub kept_word : Rounds → ℕ → ℕ
kept_word r j = banks_of r + 3 * r.inputs + j

-- the word of an input's place in a user's buffer
abbrev pub column_word : Column → ℕ → ℕ
column_word c j = USERS + 2048 * (2 * c.group + bit_of c.second) + j * c.samples + c.place
