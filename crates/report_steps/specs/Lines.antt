-- What is made of the next line of a block.
use Rattle.std.specs.Prelude.{◌≡◌, ℕ, ◌+◌, Bool, true, false, List, [], ◌∷◌, ◌++◌, length}
use Rattle.bench_report.specs.Lines.{Line, numbered}
use Rattle.report_text.specs.reading.Blocks.{behind, printed}
use Rattle.report_text.specs.Unread.{Unread, own, own_text}
use Rattle.trace_reader.specs.Reading.{parts_of}

-- Nothing but lines of the block was taken: those behind it are as they were, and each that was taken is counted.
pub record Advances (before after : Unread) : Type 0 where
  pub number : after.number ≡ before.number
  pub later : behind before.number (parts_of after.left) ≡ behind before.number (parts_of before.left)
  pub counted : after.read + length (own after) ≡ before.read + length (own before)

-- These lines were taken off the front of the block.
pub record Past (lines : List Line) (before after : Unread) : Type 0 where
  pub on : Advances before after
  pub text : own_text before ≡ printed before.number lines ++ own_text after

-- the line comes and was taken; or it doesn't come, and nothing was
abbrev pub TakesLine : (right : Bool) → Line → (before after : Unread) → Type 0
TakesLine true line before after = Past (line ∷ []) before after
TakesLine false line before after = (after ≡ before) × ((rest : List ℕ) → own_text before ≡ numbered before.number line ++ rest → ⊥)

-- these lines come and were taken; or they don't come
abbrev pub TakesLines : (right : Bool) → List Line → (before after : Unread) → Type 0
TakesLines true lines before after = Past lines before after
TakesLines false lines before after = (rest : List ℕ) → own_text before ≡ printed before.number lines ++ rest → ⊥
