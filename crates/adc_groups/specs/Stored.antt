-- The driver's words by number, and the numbers that they have for phases, groups and bits.
use Rattle.std.specs.Prelude.{ℕ, ◌+◌, ◌-◌, ◌*◌, ◌%◌, ◌^◌, ◌==◌, ◌&&◌, nat_lt, nat_le, Bool, true, false, if◌then◌else◌, Option, Some, None, length}
use Rattle.word_shapes.specs.declared.priority_queue.PriorityQueue.{PriorityQueue}
use Rattle.word_shapes.specs.declared.streams.rounds.Rounds.{Rounds}
use Rattle.adc_machine.specs.Groups.{inputs_of}
use Rattle.adc_machine.specs.Table.{group_of}
use Rattle.adc_machine.specs.declared.table.AdcTable.{AdcTable}
use Rattle.adc_machine.specs.declared.table.Group.{Group}
use Rattle.adc_groups.specs.declared.words.Phase.{Phase}
use Rattle.adc_groups.specs.declared.words.Phase.TheVariants.{Idle, Busy, Completed, Streaming, Ended}
use Rattle.adc_groups.specs.declared.words.TheConstants.{STATE}
use Rattle.adc_groups.specs.declared.words.Word.{Word}
use Rattle.adc_groups.specs.declared.words.Word.TheVariants.{State, Running, Claim, Phase as PhaseOf, Chosen, Notified, Turn, Count, Place, Kept}

-- ---- words

-- where a group's words start, counted from the module's first one
abbrev pub start_of : Option Group → ℕ
start_of None = 0
start_of (Some k) = k.start

abbrev pub group_word : AdcTable → (group at : ℕ) → ℕ
group_word d g i = STATE + start_of (group_of d g) + i

abbrev pub word_number : AdcTable → Word → ℕ
word_number d State = STATE
word_number d (Running u) = STATE + 8 + 8 * u
word_number d (Claim u) = STATE + 9 + 8 * u
word_number d (PhaseOf g) = group_word d g 0
word_number d (Chosen g) = group_word d g 1
word_number d (Notified g) = group_word d g 2
word_number d (Turn g) = group_word d g 3
word_number d (Count g) = group_word d g 4
word_number d (Place g) = group_word d g 5
word_number d (Kept g) = group_word d g 6

-- the order of a unit's requests, and where the rounds of a group stand
abbrev pub order_of : ℕ → PriorityQueue
order_of u = record { at = STATE + 10 + 8 * u }

abbrev pub rounds_of : AdcTable → ℕ → Rounds
rounds_of d g = record { start = start_of (group_of d g); inputs = length (inputs_of (group_of d g)) }

-- ---- numbers in words

abbrev pub phase_number : Phase → ℕ
phase_number Idle = 0
phase_number Busy = 1
phase_number Completed = 2
phase_number Streaming = 3
phase_number Ended = 4

abbrev pub phase_in : ℕ → Phase
phase_in n = if n == 0 then Idle else (if n == 1 then Busy else (if n == 2 then Completed else (if n == 3 then Streaming else Ended)))

abbrev pub is_under_way : Phase → Bool
is_under_way Idle = false
is_under_way Busy = true
is_under_way Completed = true
is_under_way Streaming = true
is_under_way Ended = false

-- the phase after the newest round was read
abbrev pub phase_read : Phase → Phase
phase_read Ended = Idle
phase_read _ = Busy

-- a group as an entry of an order
abbrev pub entry : ℕ → ℕ
entry g = g % 16

-- the group whose number, plus 1, a word has
abbrev pub group_in : ℕ → Option ℕ
group_in v = if nat_lt 0 v && nat_le v 16 then Some (v - 1) else None

-- a bit of a register
abbrev pub bit : ℕ → ℕ
bit i = if nat_lt i 32 then 2 ^ i else 0
