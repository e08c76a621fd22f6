-- The driver words of the module, and what stands in them.
use Rattle.std.specs.Prelude.{ℕ, ◌+◌, ◌-◌, ◌*◌, ◌/◌, ◌%◌, ◌^◌, ◌==◌, Bool, not, if◌then◌else◌, Option, Some, None, bit_or, bit_and}
use Rattle.mcal_base.specs.Bits.{without}
use Rattle.mcal_base.specs.declared.answer_name.AnswerName.{AnswerName}
use Rattle.mcal_base.specs.declared.answer_name.AnswerName.TheVariants.{SpiSeqOk, SpiSeqPending, SpiSeqFailed, SpiSeqCanceled, SpiJobOk, SpiJobFailed}
use Rattle.word_shapes.specs.declared.packed.Places.{Places}
use Rattle.word_shapes.specs.declared.search.Search.{Search}
use Rattle.word_shapes.specs.declared.search.Search.TheVariants.{Tally}
use Rattle.spi_sequences.specs.declared.words.Position.{Position}
use Rattle.spi_sequences.specs.declared.words.Running.{Running}
use Rattle.spi_sequences.specs.declared.words.TheConstants.{STATE}

-- what a unit runs, and the place of its word in transfer
abbrev pub running_word : (number : ℕ) → ℕ
running_word u = STATE + 8 + 8 * u

abbrev pub position_word : (number : ℕ) → ℕ
position_word u = STATE + 9 + 8 * u

-- the order of a unit's pending sequences
abbrev pub order_word : (number : ℕ) → ℕ
order_word u = STATE + 10 + 8 * u

abbrev pub order_places : (number : ℕ) → Places
order_places u = record { low = order_word u; high = order_word u + 1; tally = order_word u + 2 }

abbrev pub search_of : (number : ℕ) → Search
search_of u = Tally (order_places u)

-- results
abbrev pub job_word : (job : ℕ) → ℕ
job_word j = STATE + 24 + j

abbrev pub sequence_word : (sequence : ℕ) → ℕ
sequence_word q = STATE + 40 + q

abbrev pub sequence_result_in : ℕ → AnswerName
sequence_result_in v = if v == 0 then SpiSeqOk else if v == 1 then SpiSeqPending else if v == 2 then SpiSeqFailed else SpiSeqCanceled

abbrev pub job_result_in : ℕ → AnswerName
job_result_in v = if v == 0 then SpiJobOk else SpiJobFailed

-- what a unit runs, as its word has it: 0 for nothing
abbrev pub packed_run : Running → ℕ
packed_run r = 1 + r.job + 16 * r.sequence

abbrev pub run_in : ℕ → Option Running
run_in v = if v == 0 then None else Some (record { job = (v - 1) % 16; sequence = (v - 1) / 16 % 8 })

-- a place in a job
abbrev pub packed_position : Position → ℕ
packed_position p = p.channel + 4 * p.word

abbrev pub position_in : ℕ → Position
position_in v = record { channel = v % 4; word = v / 4 % 256 }

-- the place of a sequence's next job, four bits each
abbrev pub next_in : (nexts sequence : ℕ) → ℕ
next_in v q = v / 2 ^ (4 * (q % 8)) % 16

abbrev pub with_next_in : (nexts sequence place : ℕ) → ℕ
with_next_in v q i = bit_or (without v (15 * 2 ^ (4 * (q % 8)) % 2 ^ 32)) (i % 16 * 2 ^ (4 * (q % 8)) % 2 ^ 32)

-- the marks of a sequence that has started, and of one that is cancelled
abbrev pub started_bit : (sequence : ℕ) → ℕ
started_bit q = 2 ^ (q % 8)

abbrev pub cancelled_bit : (sequence : ℕ) → ℕ
cancelled_bit q = 2 ^ (8 + q % 8)

abbrev pub has_mark : (marks bit : ℕ) → Bool
has_mark v b = not (bit_and v b == 0)

abbrev pub unmarked_in : (marks sequence : ℕ) → ℕ
unmarked_in v q = without v (bit_or (started_bit q) (cancelled_bit q))
