-- What the windows of a call that sends a sequence and waits owe: a word begins in each of them, or the sequence ends, and
-- after the moves that are owed then the words and registers agree.
-- From services.SendAround, spi_sequences: services.SyncSteps, bookkeeping.HeldWord and 1 more.
-- Used by services.SendSteps, services.WindowsRight, services.SendFurther, services.SendGoesOn and 5 more.
use Rattle.std.proofs.Common.{◌≡◌, ◌∷◌}
use Rattle.spi_laws.specs.sending.Terms
use Terms.{act_of, answers, Arrived, Begun, Call, Called, Chip, chip_after, CommitsTo, first_place, fresh_history}
use Terms.{happens, List, Move, None, Option, outcome, outcome_with, Position, Reservations, Sends, SendsRight}
use Terms.{SerialData, Some, spi_owing, SpiRepresents, SpiState, SpiTable, Starts, sync_begun, SyncBody, SyncPlace}
use Terms.{SyncTransmit, tells_nothing, unit_at, unit_named, with_holds, World, Write, ℕ}
use Rattle.spi_laws.specs.sending.Sending.{BeforeJob, device_at, IsSender, holds_before, sent_answer}
use Rattle.spi_laws.specs.sending.Sending.{word_sent}
use Rattle.spi_laws.specs.sending.laws.{bookkeeping.HeldWord.{sending_of}, services.SendAround.{body, foot}}
use Rattle.spi_machine.specs.declared.call.Call.TheVariants as calls
use Rattle.spi_sequences.specs.declared.service.sync.SyncPlace.TheVariants as place

-- a word begins: what the machine gives, the word on the wire, and what the frame of this body owes then
pub record WordBegins (d : SpiTable) (held : Reservations) (u : ℕ) (call : Call) (before after : Chip) (w : World) (s : SpiState) (made : Move) (received : ℕ) (k : SyncBody) : Type 0 where
  pub state : SpiState
  pub begins : Begun
  pub is : happens d w s (Starts (unit_named u) (Some call) received) ≡ Some (outcome_with state tells_nothing (Some begins))
  pub sends : SendsRight before (Some begins) made
  pub owes : (n : ℕ) × CommitsTo (spi_owing d) n (Sends k) after (λ c. SpiRepresents d held c w state)

-- the sequence ends with this result
pub record SequenceEnds (d : SpiTable) (held : Reservations) (call : Call) (after : Chip) (w : World) (s : SpiState) (result : ℕ) (k : SyncBody) : Type 0 where
  pub state : SpiState
  pub is : act_of d w s call ≡ Some (outcome state (answers (sent_answer result)))
  pub owes : (n : ℕ) × CommitsTo (spi_owing d) n (Sends k) after (λ c. SpiRepresents d held c w state)

abbrev pub asks : (sequence : ℕ) → Call
asks q = calls.Sequence q SyncTransmit

module _ (d : SpiTable) (below : Reservations) (chip : Chip) (w : World) (s : SpiState) (q u n : ℕ) (at : Position) (bs : List ℕ) where
  abbrev k : SyncPlace → SyncBody
  k p = body d q u n at bs p

  abbrev after : ℕ → ℕ → Chip
  after x y = chip_after chip (Write (SerialData u) x) y

  -- the first word of a job
  abbrev pub FirstBegins : Option Arrived → (word received : ℕ) → Type 0
  FirstBegins b x y = WordBegins d (sending_of u q n first_place bs None (device_at d q n) ∷ below) u (asks q) chip (after x y) w s (Write (SerialData u) x) y (k (sync_begun (k (place.Begin b x)) b))

  abbrev pub SentBy : Type 0
  SentBy = IsSender d d q u bs below (Called (asks q)) fresh_history

-- what is left to show of them
pub record AreWindowsRight (d : SpiTable) : Type 0 where
  pub first : (below : Reservations) (chip : Chip) (w : World) (s : SpiState) (q u n : ℕ) (at : Position) (bs : List ℕ) (b : Option Arrived) (x y : ℕ) → SentBy d below chip w s q u n at bs → SpiRepresents d (with_holds (Called (asks q)) None (holds_before (body d q u n at bs (place.Begin b x)) b (device_at d q n)) below) chip w s
      → BeforeJob d (body d q u n at bs (place.Begin b x)) b (foot d chip) w s → x ≡ (word_sent d s (body d q u n at bs (place.Begin b x))).sent → (unit_at chip.serials u).select ≡ device_at d q n → (unit_at chip.serials u).width ≡ (word_sent d s (body d q u n at bs (place.Begin b x))).width
      → FirstBegins d below chip w s q u n at bs b x y
