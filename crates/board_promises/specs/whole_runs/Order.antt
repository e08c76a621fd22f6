-- The standard's order: at each start on a serial unit the job is the next one.
use Rattle.std.specs.Prelude.{◌≡◌, ℕ, ◌<◌, ◌≤◌, ◌⊎◌, Bool, true, false, ◌&&◌, not, List, [], ◌∷◌, Some, slice_index_or}
use Rattle.mcal_base.specs.declared.answer_name.AnswerName.TheVariants.{SpiSeqPending}
use Rattle.run_model.specs.Machine.{Happening, Starts}
use Rattle.spi_machine.specs.Machine.{number_of}
use Rattle.spi_machine.specs.Table.{job_of, jobs_of, sequence_of, priority_by, is_interruptible, is_on_unit, is_sync_unit}
use Rattle.spi_machine.specs.Wiring.{is_sync_sequence}
use Rattle.spi_machine.specs.declared.call.Call.{Call}
use Rattle.spi_machine.specs.declared.table.SpiTable.{SpiTable}
use Rattle.board_promises.specs.whole_runs.SequenceRuns.{SequenceEvent, requested_at, jobs_ended, has_started}

-- the next job of a sequence: the one at the place that says how many have ended
abbrev pub job_in : SpiTable → ℕ → List SequenceEvent → ℕ
job_in d q past = slice_index_or (jobs_of d q) (jobs_ended q past) 0

-- its priority, and whether its sequence has started and isn't interruptible
abbrev pub priority_in : SpiTable → ℕ → List SequenceEvent → ℕ
priority_in d q past = priority_by (job_of d (job_in d q past))

abbrev pub keeps_unit_in : SpiTable → ℕ → List SequenceEvent → Bool
keeps_unit_in d q past = has_started q past && not (is_interruptible (sequence_of d q))

-- The next job of a sequence goes before that of another one, or is it.
pub data GoesFirst (d : SpiTable) (past : List SequenceEvent) (q other : ℕ) : Type 0 where
  -- it has started and isn't interruptible, and the other isn't such
  Started : keeps_unit_in d q past ≡ true → keeps_unit_in d other past ≡ false → GoesFirst d past q other
  -- neither is such, and its job has the higher priority
  Priority : keeps_unit_in d q past ≡ false → keeps_unit_in d other past ≡ false → priority_in d other past < priority_in d q past → GoesFirst d past q other
  -- among equals its request isn't later
  Earlier : keeps_unit_in d q past ≡ keeps_unit_in d other past → (keeps_unit_in d q past ≡ true) ⊎ (priority_in d q past ≡ priority_in d other past)
      → requested_at q past ≤ requested_at other past → GoesFirst d past q other

-- A unit starts the next job: that of a pending sequence whose next job is for the unit, and which goes before all others of which that holds, but for those that Spi_SyncTransmit sends.
pub record StartsNext (d : SpiTable) (u : ℕ) (e : SequenceEvent) (past : List SequenceEvent) : Type 0 where
  pub sequence : ℕ
  pub named : e.sequence ≡ Some sequence
  pub job : e.job ≡ Some (job_in d sequence past)
  pub pending : e.had sequence ≡ SpiSeqPending
  pub on : is_on_unit u (job_of d (job_in d sequence past)) ≡ true
  pub first : (other : ℕ) → is_sync_sequence d other ≡ false → e.had other ≡ SpiSeqPending → is_on_unit u (job_of d (job_in d other past)) ≡ true → GoesFirst d past sequence other

-- each start on a serial unit starts the next job, but on a unit that sends by Spi_SyncTransmit
abbrev pub InOrderBy : SpiTable → SequenceEvent → List SequenceEvent → Happening Call → Type 0
InOrderBy d e past (Starts unit made_by received) = (u : ℕ) → number_of unit ≡ Some u → is_sync_unit d u ≡ false → StartsNext d u e past
InOrderBy d e past _ = Unit {0}

abbrev pub AreInOrder : SpiTable → List SequenceEvent → Type 0
AreInOrder d [] = Unit {0}
AreInOrder d (e ∷ past) = InOrderBy d e past e.what × AreInOrder d past
