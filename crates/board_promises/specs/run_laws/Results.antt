-- Which result an end gives, by the events of a run. Every list of events has the newest first.
use Rattle.std.specs.Prelude.{◌≡◌, ℕ, suc, ◌+◌, ◌<◌, ◌≤◌, ◌⊎◌, ◌==◌, Bool, true, false, ◌||◌, cond, List, [], ◌∷◌, ◌++◌, Contains, length, Option, None}
use Rattle.mcal_base.specs.declared.answer_name.AnswerName.{AnswerName}
use Rattle.mcal_base.specs.declared.answer_name.AnswerName.TheVariants.{SpiSeqOk, SpiSeqFailed, SpiSeqCanceled}
use Rattle.mcal_base.specs.declared.directive.Order.TheVariants.{SpiFault}
use Rattle.mcal_base.specs.declared.error_name.ErrorName.{ErrorName}
use Rattle.run_model.specs.Frame.{begun_by}
use Rattle.run_model.specs.Machine.{Happening, Acts, Serves, Starts, Moves, Restarts, Begun}
use Rattle.spi_machine.specs.Machine.{spi_machine, number_of, unit_of}
use Rattle.spi_machine.specs.Promised.{received_at}
use Rattle.spi_machine.specs.State.{SpiState, first_state}
use Rattle.spi_machine.specs.Table.{jobs_of}
use Rattle.spi_machine.specs.Transfers.{refused}
use Rattle.spi_machine.specs.Wiring.{is_sync_sequence}
use Rattle.spi_machine.specs.declared.call.Call.{Call}
use Rattle.spi_machine.specs.declared.call.Call.TheVariants.{Sequence}
use Rattle.spi_machine.specs.declared.call.SequenceCall.TheVariants.{Cancel}
use Rattle.spi_machine.specs.declared.table.SpiTable.{SpiTable}
use Rattle.machine_laws.specs.serial.Faults.{begins_on, is_unit}
use Rattle.board_promises.specs.whole_runs.Runs.{Event, state_after, told_or_nothing, NoneOf}
use Rattle.board_promises.specs.whole_runs.SequenceRuns.{SequenceEvent, seen_between, seen_of, begins_by, accepts, is_end, ends_job, jobs_ended}

-- the state after these events, and what the next one is seen to be there
abbrev pub state_of : SpiTable → List (Event Call) → SpiState
state_of d past = state_after (spi_machine d) first_state past

abbrev pub seen_at : SpiTable → Event Call → List (Event Call) → SequenceEvent
seen_at d e past =
    let out = (spi_machine d).happens e.world (state_of d past) e.what in
    seen_between d (state_of d past) (state_of d (e ∷ past)) e.what (told_or_nothing out) (begins_by out)

-- ---- cancels

-- a call without an error cancels the sequence
abbrev pub is_cancel : ℕ → Happening Call → Option ErrorName → Bool
is_cancel q (Acts (Sequence k Cancel) times) None = k == q
is_cancel q h error = false

abbrev pub cancels : ℕ → SequenceEvent → Bool
cancels q e = is_cancel q e.what e.told.error

-- the sequence was cancelled since its last accepted request
abbrev pub was_cancelled : ℕ → List SequenceEvent → Bool
was_cancelled q [] = false
was_cancelled q (e ∷ past) = cond (accepts q e) false (cancels q e || was_cancelled q past)

-- ---- words

-- the event takes the word of a unit or begins one there, or resets the chip
abbrev pub touches : (unit : ℕ) → Happening Call → Bool
touches u (Serves line received) = is_unit u (unit_of line)
touches u (Starts unit made_by received) = is_unit u (number_of unit)
touches u (Restarts reason) = true
touches u h = false

-- the word that begins at an event, where one does
abbrev pub begun_at : SpiTable → Event Call → List (Event Call) → Option Begun
begun_at d e before = begun_by ((spi_machine d).happens e.world (state_of d before) e.what)

-- The word in transfer of a unit: the event at which it began, and those since, none of which took it.
pub record WordSince (d : SpiTable) (u : ℕ) (past : List (Event Call)) : Type 0 where
  pub since : List (Event Call)
  pub start : Event Call
  pub before : List (Event Call)
  pub is : past ≡ since ++ start ∷ before
  pub begins : begins_on u (begun_at d start before) ≡ true
  pub alone : NoneOf (λ (e : Event Call). touches u e.what) since

-- A fault of the unit's wire met a word that began at this time before it was done.
pub record IsMet (u began : ℕ) (since : List (Event Call)) : Type 0 where
  pub fault : Event Call
  pub among : Contains since fault
  pub is : fault.what ≡ Moves (SpiFault u)
  pub soon : fault.world.now < began + 8

-- the word has failed
abbrev pub HasFailed : {d : SpiTable} {u : ℕ} {past : List (Event Call)} → WordSince d u past → Type 0
HasFailed {u = u} x = (received_at x.start.what ≡ refused) ⊎ IsMet u x.start.world.now x.since

-- the event serves the line of a unit
abbrev pub serves : (unit : ℕ) → Happening Call → Bool
serves u (Serves line received) = is_unit u (unit_of line)
serves u h = false

-- the exchange of a word that begins at an event was refused, or a fault comes
abbrev pub is_fault : Happening Call → Bool
is_fault (Moves (SpiFault u)) = true
is_fault h = false

abbrev pub can_fail : Event Call → Bool
can_fail e = (received_at e.what == refused) || is_fault e.what

-- ---- ends

-- how a sequence ends at an event, and with which result
pub data EndsAs (d : SpiTable) (q : ℕ) (e : Event Call) (past : List (Event Call)) : AnswerName → Type 0 where
  -- at its cancel, and at the end of its job after one
  AtCancel : cancels q (seen_at d e past) ≡ true → EndsAs d q e past SpiSeqCanceled
  AfterCancel : was_cancelled q (seen_of d past) ≡ true → ends_job q (seen_at d e past) ≡ true → EndsAs d q e past SpiSeqCanceled
  -- its job ends by a word that failed
  ByFailure : was_cancelled q (seen_of d past) ≡ false → ends_job q (seen_at d e past) ≡ true → (u : ℕ) → serves u e.what ≡ true → (x : WordSince d u past) → HasFailed x → EndsAs d q e past SpiSeqFailed
  -- its last job ends by a good word
  AfterAll : was_cancelled q (seen_of d past) ≡ false → ends_job q (seen_at d e past) ≡ true → length (jobs_of d q) ≤ suc (jobs_ended q (seen_of d past))
      → (u : ℕ) → serves u e.what ≡ true → (x : WordSince d u past) → (HasFailed x → ⊥) → EndsAs d q e past SpiSeqOk

-- each end of a sequence that is requested gives the result that the events before it say
abbrev pub AreEndedAs : SpiTable → List (Event Call) → Type 0
AreEndedAs d [] = Unit {0}
AreEndedAs d (e ∷ past) = ((q : ℕ) → is_sync_sequence d q ≡ false → is_end q (seen_at d e past) ≡ true → EndsAs d q e past ((seen_at d e past).has q)) × AreEndedAs d past
