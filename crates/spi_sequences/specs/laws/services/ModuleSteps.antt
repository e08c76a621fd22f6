-- Spi_DeInit, Spi_SetAsyncMode and Spi_GetStatus: their steps.
-- Used by services.ModuleRight, src/service/whole.rt, PendingWrites, services.AtOnce.
use Rattle.std.specs.Prelude.{◌+◌, ◌==◌, if◌then◌else◌}
use Rattle.spi_sequences.specs.StepTerms
use StepTerms.{Act, acts, AnswerName, BodyTaken, Bool, DeInit, EnableClear, EnableSet, ends, ENotOk, EOk, false, goes}
use StepTerms.{Interrupt, LINES, Load, Mode, Move, named, nat_lt, None, Nothing, PENDING, Polling, sequence_word, Some}
use StepTerms.{SpiBusy, SpiIdle, STATE, Status, Store, true, Whole, WholeBody, Write, ℕ}
use Rattle.spi_sequences.specs.declared.service.whole.WholeBody.TheVariants as whole

-- the state word afterwards, what enables the lines or disables them, and the answer while a sequence is pending; no line
-- is named where there is none to enable
abbrev pub state_word_after : Whole → ℕ
state_word_after DeInit = 0
state_word_after (Mode Polling n) = 1
state_word_after (Mode Interrupt n) = 2
state_word_after Status = 1

abbrev pub lines_enabled : (lines : ℕ) → Move
lines_enabled n = if n == 0 then Write EnableClear LINES else Write EnableSet n

abbrev pub lines_move : Whole → Move
lines_move DeInit = Write EnableClear LINES
lines_move (Mode Polling n) = Write EnableClear LINES
lines_move (Mode Interrupt n) = lines_enabled n
lines_move Status = Write EnableClear LINES

abbrev pub busy_answer : Whole → AnswerName
busy_answer DeInit = ENotOk
busy_answer (Mode m n) = ENotOk
busy_answer Status = SpiBusy

abbrev pub whole_work : WholeBody → Move
whole_work (whole.Look x q) = Load (sequence_word q)
whole_work (whole.Store x) = Store STATE (state_word_after x)
whole_work (whole.Lines x) = lines_move x

-- after the last sequence
abbrev pub all_looked : Whole → ℕ → WholeBody × BodyTaken
all_looked DeInit q = (whole.Store DeInit, goes)
all_looked (Mode m n) q = (whole.Store (Mode m n), goes)
all_looked Status q = (whole.Look Status q, ends (Some Act) (named SpiIdle) Nothing)

abbrev pub looked_at : Whole → ℕ → (pending : Bool) → WholeBody × BodyTaken
looked_at x q true = (whole.Look x q, ends (Some Act) (named (busy_answer x)) Nothing)
looked_at x q false = if nat_lt q 7 then (whole.Look x (q + 1), goes) else all_looked x q

abbrev pub whole_takes : WholeBody → ℕ → WholeBody × BodyTaken
whole_takes (whole.Look x q) v = looked_at x q (v == PENDING)
whole_takes (whole.Store x) v = (whole.Lines x, acts)
whole_takes (whole.Lines x) v = (whole.Lines x, ends None (named EOk) Nothing)
