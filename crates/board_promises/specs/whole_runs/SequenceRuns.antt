-- What a run of the serial driver shows, event by event, and what each event is to a sequence.
use Rattle.std.specs.Prelude.{ℕ, ◌==◌, suc, Bool, true, false, ◌&&◌, ◌||◌, not, cond, if◌then◌else◌, List, [], ◌∷◌, length, Option, Some, None, is_some}
use Rattle.mcal_base.specs.declared.answer_name.AnswerName.{AnswerName}
use Rattle.mcal_base.specs.declared.answer_name.AnswerName.TheVariants.{SpiSeqPending}
use Rattle.mcal_base.specs.declared.error_name.ErrorName.{ErrorName}
use Rattle.run_model.specs.Machine.{Happening, Acts, Serves, Starts, Aborts, Moves, Restarts, Told, Outcome}
use Rattle.spi_machine.specs.Machine.{spi_machine, number_of, next_at, unit_of, run_of, is_sync_number}
use Rattle.spi_machine.specs.Pending.{Pending, next_job, sequence_result}
use Rattle.spi_machine.specs.State.{SpiState, first_state}
use Rattle.spi_machine.specs.Transfers.{Run}
use Rattle.spi_machine.specs.declared.call.Call.{Call}
use Rattle.spi_machine.specs.declared.call.Call.TheVariants.{Init, Sequence}
use Rattle.spi_machine.specs.declared.call.SequenceCall.TheVariants.{AsyncTransmit}
use Rattle.spi_machine.specs.declared.table.SpiTable.{SpiTable}
use Rattle.board_promises.specs.whole_runs.Runs.{Event, state_after, told_or_nothing, is_restart, is_of}

-- An event as it is seen.
pub record SequenceEvent : Type 0 where
  -- what happens, what it tells, and whether a word begins there
  pub what : Happening Call
  pub told : Told
  pub begins : Bool
  -- the sequence whose job starts there or has its word served, and the job that starts; none where Spi_SyncTransmit
  -- begins a word
  pub sequence : Option ℕ
  pub job : Option ℕ
  -- the result of each sequence before it and after it, as Spi_GetSequenceResult tells it
  pub had : ℕ → AnswerName
  pub has : ℕ → AnswerName

-- ---- how it is seen

abbrev pub sequence_of_next : Option Pending → Option ℕ
sequence_of_next None = None
sequence_of_next (Some p) = Some p.sequence

abbrev pub job_of_next : SpiTable → Option Pending → Option ℕ
job_of_next d None = None
job_of_next d (Some p) = Some (next_job d p)

abbrev pub sequence_of_run : Option Run → Option ℕ
sequence_of_run None = None
sequence_of_run (Some r) = Some r.sequence

abbrev pub sequence_seen : SpiTable → SpiState → Happening Call → Option ℕ
sequence_seen d s (Acts call times) = None
sequence_seen d s (Serves l received) = sequence_of_run (run_of s (unit_of l))
sequence_seen d s (Starts u made_by received) = if is_sync_number d (number_of u) then None else sequence_of_next (next_at d s (number_of u))
sequence_seen d s (Aborts u) = None
sequence_seen d s (Moves order) = None
sequence_seen d s (Restarts reason) = None

abbrev pub job_seen : SpiTable → SpiState → Happening Call → Option ℕ
job_seen d s (Starts u made_by received) = if is_sync_number d (number_of u) then None else job_of_next d (next_at d s (number_of u))
job_seen d s _ = None

abbrev pub begins_by : Option (Outcome SpiState) → Bool
begins_by None = false
begins_by (Some out) = is_some out.begins

-- an event as it is seen, from the state before it and the state after it
abbrev pub seen_between : SpiTable → SpiState → SpiState → Happening Call → Told → (begins : Bool) → SequenceEvent
seen_between d s after h told begins = record { what = h; told = told; begins = begins; sequence = sequence_seen d s h; job = job_seen d s h; had = sequence_result s.sequence_results; has = sequence_result after.sequence_results }

-- the events as they are seen, the newest first
abbrev pub seen_of : SpiTable → List (Event Call) → List SequenceEvent
seen_of d [] = []
seen_of d (e ∷ past) =
    let s : SpiState = state_after (spi_machine d) first_state past in
    let out : Option (Outcome SpiState) = (spi_machine d).happens e.world s e.what in
    seen_between d s (state_after (spi_machine d) first_state (e ∷ past)) e.what (told_or_nothing out) (begins_by out) ∷ seen_of d past

-- ---- what an event is

-- a request of the sequence is accepted: Spi_AsyncTransmit finds no error
abbrev pub is_accepted : ℕ → Happening Call → Option ErrorName → Bool
is_accepted q (Acts (Sequence k AsyncTransmit) times) None = k == q
is_accepted q _ _ = false

abbrev pub accepts : ℕ → SequenceEvent → Bool
accepts q e = is_accepted q e.what e.told.error

-- Spi_Init finds no error
abbrev pub is_begun : Happening Call → Option ErrorName → Bool
is_begun (Acts Init times) None = true
is_begun _ _ = false

abbrev pub initialises : SequenceEvent → Bool
initialises e = is_begun e.what e.told.error

abbrev pub is_reset : SequenceEvent → Bool
is_reset e = is_restart e.what

-- a result says that its sequence is pending
abbrev pub is_pending : AnswerName → Bool
is_pending SpiSeqPending = true
is_pending _ = false

-- the sequence ends: it is pending before and not after, and that isn't by a reset
abbrev pub is_end : ℕ → SequenceEvent → Bool
is_end q e = not (is_reset e) && (is_pending (e.had q) && not (is_pending (e.has q)))

-- a job starts
abbrev pub is_starting : Happening Call → Bool
is_starting (Starts u made_by received) = true
is_starting _ = false

abbrev pub is_serving : Happening Call → Bool
is_serving (Serves l received) = true
is_serving _ = false

-- a job of the sequence starts, and one ends: its word is served, and no further one begins
abbrev pub starts_job : ℕ → SequenceEvent → Bool
starts_job q e = is_starting e.what && is_of q e.sequence

abbrev pub ends_job : ℕ → SequenceEvent → Bool
ends_job q e = is_serving e.what && (is_of q e.sequence && not e.begins)

-- ---- a sequence by what has happened since its last accepted request

-- how many events there were before that request
abbrev pub requested_at : ℕ → List SequenceEvent → ℕ
requested_at q [] = 0
requested_at q (e ∷ past) = cond (accepts q e) (length past) (requested_at q past)

-- how many of its jobs have ended since, and whether one has started since
abbrev pub jobs_ended : ℕ → List SequenceEvent → ℕ
jobs_ended q [] = 0
jobs_ended q (e ∷ past) = cond (accepts q e) 0 (cond (ends_job q e) (suc (jobs_ended q past)) (jobs_ended q past))

abbrev pub has_started : ℕ → List SequenceEvent → Bool
has_started q [] = false
has_started q (e ∷ past) = cond (accepts q e) false (starts_job q e || has_started q past)
