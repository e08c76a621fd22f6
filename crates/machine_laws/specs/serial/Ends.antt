-- What becomes of a pending sequence.
use Rattle.std.specs.Prelude.{◌≡◌, ℕ, true, false, Option, Some, None}
use Rattle.mcal_base.specs.declared.answer_name.AnswerName.{AnswerName}
use Rattle.mcal_base.specs.declared.answer_name.AnswerName.TheVariants.{SpiSeqOk, SpiSeqFailed, SpiSeqCanceled}
use Rattle.mcal_base.specs.declared.moves.Unit as units
use Rattle.run_model.specs.Machine.{Happening, Acts, Serves, Starts}
use Rattle.spi_machine.specs.Machine.{next_at, number_of, unit_of}
use Rattle.spi_machine.specs.Pending.{Pending, has_further, goes_to_next, cancels, starts, sequence_result}
use Rattle.spi_machine.specs.State.{SpiState, is_running, run_at}
use Rattle.spi_machine.specs.Transfers.{Run, goes_on}
use Rattle.spi_machine.specs.declared.call.Call.{Call}
use Rattle.spi_machine.specs.declared.call.Call.TheVariants.{Sequence}
use Rattle.spi_machine.specs.declared.call.SequenceCall.TheVariants.{Cancel}
use Rattle.spi_machine.specs.declared.table.SpiTable.{SpiTable}

-- The serving of a line ends the running job of a sequence: the job's word in transfer is its last one, or has failed.
pub record EndsWith (s : SpiState) (q line : ℕ) (r : Run) : Type 0 where
  pub unit : ℕ
  pub on : unit_of line ≡ Some unit
  pub runs : run_at s unit ≡ Some r
  pub its : r.sequence ≡ q
  pub over : goes_on r ≡ false

-- what becomes of a pending sequence, and which result it then has
pub data Sequel (d : SpiTable) (s : SpiState) (q : ℕ) (p : Pending) : Happening Call → Option Pending → AnswerName → Type 0 where
  -- it is left
  IsLeft : {h : Happening Call} → Sequel d s q p h (Some p) (sequence_result s.sequence_results q)
  -- its job starts
  Starting : (unit : units.Unit) (made_by : Option Call) (received u : ℕ) (next : Pending) → number_of unit ≡ Some u → next_at d s (Some u) ≡ Some next → next.sequence ≡ q
      → Sequel d s q p (Starts unit made_by received) (Some (starts p)) (sequence_result s.sequence_results q)
  -- its job ends well, and its next one waits
  GoingOn : (line received : ℕ) (r : Run) → EndsWith s q line r → p.cancelled ≡ false → r.transfer.failed ≡ false → has_further d p ≡ true
      → Sequel d s q p (Serves line received) (Some (goes_to_next p)) (sequence_result s.sequence_results q)
  -- it is cancelled while its job runs
  BeingCancelled : (times : ℕ → ℕ) → is_running s q ≡ true → Sequel d s q p (Acts (Sequence q Cancel) times) (Some (cancels p)) (sequence_result s.sequence_results q)
  -- it is cancelled while none of its jobs runs, and ends
  EndsAtOnce : (times : ℕ → ℕ) → is_running s q ≡ false → Sequel d s q p (Acts (Sequence q Cancel) times) None SpiSeqCanceled
  -- it was cancelled, and its job ends
  EndsCancelled : (line received : ℕ) (r : Run) → EndsWith s q line r → p.cancelled ≡ true → Sequel d s q p (Serves line received) None SpiSeqCanceled
  -- its job fails
  EndsFailed : (line received : ℕ) (r : Run) → EndsWith s q line r → p.cancelled ≡ false → r.transfer.failed ≡ true → Sequel d s q p (Serves line received) None SpiSeqFailed
  -- its last job ends well
  EndsOk : (line received : ℕ) (r : Run) → EndsWith s q line r → p.cancelled ≡ false → r.transfer.failed ≡ false → has_further d p ≡ false
      → Sequel d s q p (Serves line received) None SpiSeqOk
