-- Spi_Cancel: its steps.
-- Used by services.CancelRight, src/service/cancel.rt, PendingWrites, bookkeeping.PendingWritesBounds, services.AtOnce.
use Rattle.std.specs.Prelude.{◌==◌, if◌then◌else◌}
use Rattle.spi_sequences.specs.StepTerms
use StepTerms.{Act, acts, bit_or, BodyTaken, Bool, CancelBody, CANCELLED, Cancelled, cancelled_bit, drop_gave}
use StepTerms.{drop_left, drop_move, Dropped, ends, Epilogue, false, goes, has_ended, Load, MARKS, Move, no_answer}
use StepTerms.{None, Nothing, One, Option, PENDING, run_in, Running, running_word, search_of, sequence_word, Some}
use StepTerms.{SpiSeqEndNotification, Store, true, ℕ}
use Rattle.word_shapes.specs.declared.dropped.Dropped.TheVariants as drops
use Rattle.spi_sequences.specs.declared.service.cancel.CancelBody.TheVariants as cancel

abbrev pub cancel_work : CancelBody → Move
cancel_work (cancel.Result r) = Load (sequence_word r.sequence)
cancel_work (cancel.Running r) = Load (running_word r.unit)
cancel_work (cancel.Marks r) = Load MARKS
cancel_work (cancel.Mark v) = Store MARKS v
cancel_work (cancel.Store r) = Store (sequence_word r.sequence) CANCELLED
cancel_work (cancel.Drop r p) = drop_move p

-- a unit runs a job of the sequence
abbrev pub is_running_sequence : ℕ → Option Running → Bool
is_running_sequence q None = false
is_running_sequence q (Some r) = r.sequence == q

-- what is told of its end
abbrev pub cancel_owed : Cancelled → Epilogue
cancel_owed r = if r.notification then One (record { kind = SpiSeqEndNotification; id = r.sequence }) else Nothing

abbrev pub cancel_drops : Cancelled → Dropped → ℕ → (ended : Bool) → CancelBody × BodyTaken
cancel_drops r p v true = (cancel.Drop r (drop_left p v), ends None no_answer (cancel_owed r))
cancel_drops r p v false = (cancel.Drop r (drop_left p v), goes)

abbrev pub cancel_takes : CancelBody → ℕ → CancelBody × BodyTaken
cancel_takes (cancel.Result r) v = if v == PENDING then (cancel.Running r, goes) else (cancel.Result r, ends (Some Act) no_answer Nothing)
cancel_takes (cancel.Running r) v = (if is_running_sequence r.sequence (run_in v) then cancel.Marks r else cancel.Store r, goes)
cancel_takes (cancel.Marks r) v = (cancel.Mark (bit_or v (cancelled_bit r.sequence)), goes)
cancel_takes (cancel.Mark x) v = (cancel.Mark x, ends (Some Act) no_answer Nothing)
cancel_takes (cancel.Store r) v = (cancel.Drop r (drops.Look (search_of r.unit) r.sequence), acts)
cancel_takes (cancel.Drop r p) v = cancel_drops r p v (has_ended (drop_gave p v))
