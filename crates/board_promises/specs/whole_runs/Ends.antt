-- One end for each request of a sequence.
use Rattle.std.specs.Prelude.{◌≡◌, ℕ, ◌≤◌, true, false, ◌&&◌, cond, List, [], ◌∷◌, ◌++◌, Contains, count_by}
use Rattle.mcal_base.specs.declared.answer_name.AnswerName.TheVariants.{SpiSeqOk, SpiSeqPending, SpiSeqFailed, SpiSeqCanceled}
use Rattle.spi_machine.specs.Promised.{names_end}
use Rattle.spi_machine.specs.Table.{sequence_of, notifies_sequence}
use Rattle.spi_machine.specs.Wiring.{is_sync_sequence}
use Rattle.spi_machine.specs.declared.table.SpiTable.{SpiTable}
use Rattle.board_promises.specs.whole_runs.Runs.{NoneOf}
use Rattle.board_promises.specs.whole_runs.SequenceRuns.{SequenceEvent, accepts, initialises, is_reset, is_pending, is_end}

-- What an event does to the result of a sequence.
pub data ResultGoes (q : ℕ) (e : SequenceEvent) : Type 0 where
  Stays : accepts q e ≡ false → e.has q ≡ e.had q → ResultGoes q e
  -- an accepted request makes it pending, which it wasn't
  Becomes : accepts q e ≡ true → is_pending (e.had q) ≡ false → e.has q ≡ SpiSeqPending → ResultGoes q e
  -- an end gives it one result
  Ends : accepts q e ≡ false → is_end q e ≡ true → Contains (SpiSeqOk ∷ SpiSeqFailed ∷ SpiSeqCanceled ∷ []) (e.has q) → ResultGoes q e
  -- Spi_Init, which finds no sequence pending, and a reset make it OK
  Begins : initialises e ≡ true → is_pending (e.had q) ≡ false → e.has q ≡ SpiSeqOk → ResultGoes q e
  Reset : is_reset e ≡ true → e.has q ≡ SpiSeqOk → ResultGoes q e

-- where a notice is configured an end tells it once, and no other event tells it
abbrev pub TellsEnd : SpiTable → ℕ → SequenceEvent → Type 0
TellsEnd d q e = count_by (names_end q) e.told.notices ≡ cond (is_end q e && notifies_sequence (sequence_of d q)) 1 0

-- What an event does to the results of sequences, and which ends it tells.
pub record IsEnded (d : SpiTable) (e : SequenceEvent) : Type 0 where
  pub results : (q : ℕ) → is_sync_sequence d q ≡ false → ResultGoes q e
  pub told : (q : ℕ) → is_sync_sequence d q ≡ false → TellsEnd d q e
  -- of a sequence that Spi_SyncTransmit sends no request is accepted, and no end told
  pub sent : (q : ℕ) → is_sync_sequence d q ≡ true → (accepts q e ≡ false) × (count_by (names_end q) e.told.notices ≡ 0)

abbrev pub AreEnded : SpiTable → List SequenceEvent → Type 0
AreEnded d [] = Unit {0}
AreEnded d (e ∷ past) = IsEnded d e × AreEnded d past

-- Between an accepted request of a sequence and the next one of it, with no reset between, there is exactly one end; and whether a reset comes or the run stops first, at most one.
pub record HasOneEnd (q : ℕ) (log : List SequenceEvent) : Type 0 where
  pub one : (later between before : List SequenceEvent) (second first : SequenceEvent) → log ≡ later ++ second ∷ (between ++ first ∷ before) → accepts q second ≡ true → accepts q first ≡ true
      → NoneOf (accepts q) between → NoneOf is_reset between → count_by (is_end q) between ≡ 1
  pub most : (later between before : List SequenceEvent) (first : SequenceEvent) → log ≡ later ++ (between ++ first ∷ before) → accepts q first ≡ true
      → NoneOf (accepts q) between → count_by (is_end q) between ≤ 1
