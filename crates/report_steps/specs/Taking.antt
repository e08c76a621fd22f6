-- What is answered of lines that are taken off the front of a block.
use Rattle.std.specs.Prelude.{◌≡◌, ℕ, Bool, true, false, List, [], ◌++◌}
use Rattle.bench_report.specs.Lines.{Line}
use Rattle.run_model.specs.Moment.{Setting}
use Rattle.run_model.specs.declared.stop_condition.StopCondition.{StopCondition}
use Rattle.report_text.specs.reading.Blocks.{AuditState, counted, printed}
use Rattle.report_text.specs.reading.Steps.{PrintsSteps}

-- Lines were taken that lead to a place, for which stands what is kept; and where such lines are the whole block, nothing of it is left.
pub record Took {State Call : Type 0} (Prints : List Line → AuditState State Call → Type 0) (Stands : AuditState State Call → Type 0) (number : ℕ) (text rest : List ℕ) : Type 0 where
  pub lines : List Line
  pub place : AuditState State Call
  pub prints : Prints lines place
  pub is : text ≡ printed number lines ++ rest
  pub stands : Stands place
  pub whole : (all : List Line) (there : AuditState State Call) → Prints all there → text ≡ printed number all → rest ≡ []

-- Such lines were taken off the front of the block, or the block has no such lines.
abbrev pub Takes : {State Call : Type 0} → (right : Bool) → (Prints : List Line → AuditState State Call → Type 0) → (Stands : AuditState State Call → Type 0) → (number : ℕ) → (text rest : List ℕ) → Type 0
Takes true Prints Stands number text rest = Took Prints Stands number text rest
Takes {State} {Call} false Prints Stands number text rest = (all : List Line) (there : AuditState State Call) → Prints all there → text ≡ printed number all → ⊥

-- The lines are those of steps from a place on, which lead there.
pub record PrintsOn {State Call : Type 0} (g : Setting State Call) (reach : StopCondition) (made : ℕ) (silent : Bool) (p : AuditState State Call) (lines : List Line) (there : AuditState State Call) : Type 0 where
  pub steps : PrintsSteps g reach made silent p.moment p.frames lines there.moment there.frames
  pub tally : there.tally ≡ counted p.tally lines
