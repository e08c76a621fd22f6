-- What a call of Spi_SyncTransmit has sent and stored, by the events of a run. Every list of events has the newest first.
use Rattle.std.specs.Prelude.{◌≡◌, ℕ, ◌+◌, ◌<◌, ◌≤◌, ◌==◌, Bool, true, false, ◌&&◌, List, [], ◌∷◌, ◌++◌, length, drop, Option, Some, None, slice_get, slice_index_or}
use Rattle.mcal_base.specs.declared.answer_name.AnswerName.TheVariants.{EOk, ENotOk, SpiSeqOk, SpiSeqFailed}
use Rattle.mcal_base.specs.declared.error_name.ErrorName.{ErrorName}
use Rattle.run_model.specs.Machine.{Happening, Acts, Starts, Restarts, named}
use Rattle.spi_machine.specs.Machine.{job_words, number_of, sent_by}
use Rattle.spi_machine.specs.Numbered.{word_at}
use Rattle.spi_machine.specs.Promised.{destination_word, go_there, received_at}
use Rattle.spi_machine.specs.State.{SpiState, carried_at, internal_word}
use Rattle.spi_machine.specs.Table.{job_of, jobs_of, select_by}
use Rattle.spi_machine.specs.Transfers.{ToDestination, ToChannel, JobWord, masked, no_word}
use Rattle.spi_machine.specs.Wiring.{unit_of_sequence}
use Rattle.spi_machine.specs.declared.call.Call.{Call}
use Rattle.spi_machine.specs.declared.call.Call.TheVariants.{Sequence}
use Rattle.spi_machine.specs.declared.call.SequenceCall.TheVariants.{SyncTransmit}
use Rattle.spi_machine.specs.declared.table.SpiTable.{SpiTable}
use Rattle.machine_laws.specs.serial.Faults.{begins_on, is_unit}
use Rattle.board_promises.specs.whole_runs.Runs.{Event}
use Rattle.board_promises.specs.run_laws.Results.{begun_at, seen_at, state_of, WordSince, HasFailed}

-- A job that a call has begun: its words, what came in with those that were taken, and with the one in transfer.
pub record SentJob : Type 0 where
  pub job : ℕ
  pub words : List JobWord
  pub taken : List ℕ
  pub last : ℕ

-- its word in transfer, and all that came in
abbrev pub word_in : SentJob → JobWord
word_in x = slice_index_or x.words (length x.taken) no_word

abbrev pub all_in : SentJob → List ℕ
all_in x = x.taken ++ x.last ∷ []

-- ---- words that begin

-- a frame of the call begins a word on the unit of its sequence
abbrev pub begins_for : SpiTable → (sequence : ℕ) → Happening Call → Bool
begins_for d q (Starts unit made_by received) = is_unit (unit_of_sequence d q) (number_of unit) && is_unit q (sent_by made_by)
begins_for d q h = false

-- The word in transfer of a job begins at an event, for the job's device, and this comes in with it.
pub record WordBegins (d : SpiTable) (q : ℕ) (e : Event Call) (past : List (Event Call)) (x : SentJob) : Type 0 where
  pub made : begins_for d q e.what ≡ true
  pub word : begun_at d e past ≡ Some (record { unit = unit_of_sequence d q; word = (word_in x).sent; width = (word_in x).width; device = select_by (job_of d x.job) })
  pub last : x.last ≡ masked (word_in x).width (received_at e.what)

-- The job at a place of the sequence begins with its first word. Its words are those of its channels as they then stand.
pub record JobBegins (d : SpiTable) (q : ℕ) (e : Event Call) (past : List (Event Call)) (place : ℕ) (x : SentJob) : Type 0 where
  pub job : x.job ≡ slice_index_or (jobs_of d q) place 0
  pub words : x.words ≡ job_words d (state_of d (e ∷ past)) x.job
  pub none : x.taken ≡ []
  pub begins : WordBegins d q e past x

-- ---- words that are taken

-- the word that came in stands at its place of the user's destination array, where it has one
abbrev pub IsStored : SpiState → SentJob → Type 0
IsStored s x = (word_in x).goes ≡ ToDestination → destination_word s (word_in x).channel (word_in x).place ≡ x.last

-- A job is over: each of its words has begun, and what came in is stored. What goes to internal channels may be read at its place, of several words for one place the last.
pub record IsOver (s : SpiState) (x : SentJob) : Type 0 where
  pub whole : length x.words ≤ length (all_in x)
  pub stored : IsStored s x
  pub readable : (n : ℕ) (y : JobWord) → slice_get x.words n ≡ Some y → y.goes ≡ ToChannel → go_there y.channel y.place (drop (n + 1) x.words) ≡ false → internal_word s y.channel true y.place ≡ word_at (all_in x) n

-- ---- a call

-- The word in transfer of a unit is done at an event, and it has failed.
pub record WordFailed (d : SpiTable) (u : ℕ) (e : Event Call) (past : List (Event Call)) : Type 0 where
  pub word : WordSince d u past
  pub done : word.start.world.now + 8 ≤ e.world.now
  pub failed : HasFailed word

-- It is done at the event, and it hasn't failed.
pub record WordGood (d : SpiTable) (u : ℕ) (e : Event Call) (past : List (Event Call)) : Type 0 where
  pub word : WordSince d u past
  pub done : word.start.world.now + 8 ≤ e.world.now
  pub good : HasFailed word → ⊥

-- a call of the sequence ends, or the chip is reset
abbrev pub ends_call : (sequence : ℕ) → Happening Call → Option ErrorName → Bool
ends_call q (Acts (Sequence k SyncTransmit) times) None = k == q
ends_call q (Restarts reason) error = true
ends_call q h error = false

-- What a call has sent since it began its sequence: these jobs, which are over, and the one whose word is in transfer.
pub data Sends (d : SpiTable) (q : ℕ) : List (Event Call) → (over : List SentJob) → SentJob → Type 0 where
  -- its unit is free, and its first job begins
  Begins : (e : Event Call) (past : List (Event Call)) (x : SentJob) → carried_at (state_of d past) (unit_of_sequence d q) ≡ None → JobBegins d q e past 0 x → Sends d q (e ∷ past) [] x
  -- no word begins on its unit, and it doesn't end
  Waits : (e : Event Call) (past : List (Event Call)) (over : List SentJob) (x : SentJob) → Sends d q past over x → begins_on (unit_of_sequence d q) (begun_at d e past) ≡ false → ends_call q e.what (seen_at d e past).told.error ≡ false → Sends d q (e ∷ past) over x
  -- the word is done, good and stored, and the next one of the job begins
  NextWord : (e : Event Call) (past : List (Event Call)) (over : List SentJob) (x y : SentJob) → Sends d q past over x → length (all_in x) < length x.words → IsStored (state_of d (e ∷ past)) x
      → WordGood d (unit_of_sequence d q) e past → y.job ≡ x.job → y.words ≡ x.words → y.taken ≡ all_in x → WordBegins d q e past y → Sends d q (e ∷ past) over y
  -- the job is over with a good word, and the next one begins
  NextJob : (e : Event Call) (past : List (Event Call)) (over : List SentJob) (x y : SentJob) → Sends d q past over x → IsOver (state_of d (e ∷ past)) x
      → WordGood d (unit_of_sequence d q) e past → length over + 1 < length (jobs_of d q) → JobBegins d q e past (length over + 1) y → Sends d q (e ∷ past) (over ++ x ∷ []) y

-- The call has sent all jobs of its sequence, each whole and in its order, no word failed, and what came in is stored.
pub record SendsAll (d : SpiTable) (q : ℕ) (e : Event Call) (past : List (Event Call)) : Type 0 where
  pub over : List SentJob
  pub last : SentJob
  pub sends : Sends d q past over last
  pub ends : IsOver (state_of d (e ∷ past)) last
  pub good : WordGood d (unit_of_sequence d q) e past
  pub all : length (jobs_of d q) ≤ length over + 1

-- What an act of a call says: with E_OK it has sent all and no word failed, and with E_NOT_OK and no error the word in
-- transfer on its unit has failed.
pub record EndsSent (d : SpiTable) (q : ℕ) (e : Event Call) (past : List (Event Call)) : Type 0 where
  pub good : (seen_at d e past).told.answer ≡ named EOk → SendsAll d q e past × ((seen_at d e past).has q ≡ SpiSeqOk)
  pub failed : (seen_at d e past).told.error ≡ None → (seen_at d e past).told.answer ≡ named ENotOk → WordFailed d (unit_of_sequence d q) e past × ((seen_at d e past).has q ≡ SpiSeqFailed)

-- each act of Spi_SyncTransmit says so
abbrev pub AreSent : SpiTable → List (Event Call) → Type 0
AreSent d [] = Unit {0}
AreSent d (e ∷ past) = ((q : ℕ) (times : ℕ → ℕ) → e.what ≡ Acts (Sequence q SyncTransmit) times → EndsSent d q e past) × AreSent d past
