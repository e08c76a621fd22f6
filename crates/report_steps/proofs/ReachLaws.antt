-- What is kept of a step says how far a directive reaches.
use Rattle.std.proofs.Common.{◌≡◌, ℕ, Bool, true, false, ◌&&◌, ◌||◌, not, List, ◌∷◌, ◌++◌, Option, Some, None, refl, sym, ◌∙◌, ap}
use Rattle.std.specs.Prelude.{is_some}
use Rattle.bench_report.specs.Lines.{Line}
use Rattle.bench_report.specs.Report.{end_lines, move_lines}
use Rattle.bench_report.specs.declared.frames.Purpose.{Purpose}
use Rattle.bench_report.specs.declared.frames.Purpose.TheVariants as purposes
use Rattle.mcal_base.specs.declared.answer.Answer.{Answer}
use Rattle.mcal_base.specs.declared.directive.Stop.{Stop}
use Rattle.mcal_base.specs.declared.directive.Stop.TheVariants as stops
use Rattle.mcal_base.specs.declared.moves.Move.{Move}
use Rattle.mcal_base.specs.declared.moves.Move.TheVariants.{Read, Write, Load, Store, Mask, Unmask, Note, Report}
use Rattle.run_model.specs.Follows as run
use Rattle.run_model.specs.Moment.{Moment, Setting}
use Rattle.run_model.specs.declared.item.Stepped.{Stepped}
use Rattle.run_model.specs.declared.stop_condition.StopCondition.{StopCondition}
use Rattle.run_model.specs.declared.stop_condition.StopCondition.TheVariants.{Count, Until, Whole}
use Rattle.report_text.specs.reading.Steps as steps
use Rattle.report_text.specs.reading.Steps.{StepComes, AtOnce, Awaited, lines_at}
use Rattle.report_steps.specs.Reaching.{has_line, is_reached, is_silent, stops_at}
use Rattle.report_steps.specs.StepRules.{made_of}

-- ---- where it stops

stops_same : (stop : Stop) (s : Stepped) → run.stops_at stop s ≡ stops_at stop (made_of s)
stops_same stops.Act s = refl
stops_same stops.Mask s = refl
stops_same stops.Unmask s = refl
stops_same stops.Note s = refl

reached_same : (reach : StopCondition) (n : ℕ) (s : Stepped) → run.is_reached reach n s ≡ is_reached reach n (made_of s)
reached_same (Count k) n s = refl
reached_same (Until stop) n s = stops_same stop s
reached_same Whole n s = refl

pub last_same : (reach : StopCondition) (n : ℕ) (s : Stepped) → is_some s.ended || run.is_reached reach n s ≡ ((made_of s).ended || is_reached reach n (made_of s))
last_same reach n s = ap (λ b. is_some s.ended || b) (reached_same reach n s)

-- ---- what is printed beside it

ends_silent : (purpose : Purpose) (frames : List Purpose) (ended : Option Answer) → steps.is_silent (end_lines (purpose ∷ frames) ended) ≡ not (is_some ended)
ends_silent purpose frames None = refl
ends_silent (purposes.Call service) frames (Some a) = refl
ends_silent (purposes.Handler line) frames (Some a) = refl

and_true : (b : Bool) → (b && true) ≡ b
and_true true = refl
and_true false = refl

and_false : (b : Bool) → false ≡ (b && false)
and_false true = refl
and_false false = refl

behind_silent : (made : Move) (purpose : Purpose) (frames : List Purpose) (ended : Option Answer) → steps.is_silent (move_lines made ++ end_lines (purpose ∷ frames) ended) ≡ (not (is_some ended) && not (has_line made))
behind_silent (Note n) purpose frames ended = and_false (not (is_some ended))
behind_silent (Report e) purpose frames ended = and_false (not (is_some ended))
behind_silent (Read r) purpose frames ended = ends_silent purpose frames ended ∙ sym (and_true (not (is_some ended)))
behind_silent (Write r v) purpose frames ended = ends_silent purpose frames ended ∙ sym (and_true (not (is_some ended)))
behind_silent (Load k) purpose frames ended = ends_silent purpose frames ended ∙ sym (and_true (not (is_some ended)))
behind_silent (Store k v) purpose frames ended = ends_silent purpose frames ended ∙ sym (and_true (not (is_some ended)))
behind_silent Mask purpose frames ended = ends_silent purpose frames ended ∙ sym (and_true (not (is_some ended)))
behind_silent Unmask purpose frames ended = ends_silent purpose frames ended ∙ sym (and_true (not (is_some ended)))

pub silent_same : {State Call : Type 0} (g : Setting State Call) (m at : Moment State Call) (s : Stepped) (waits : List Line) (frames : List Purpose) (purpose : Purpose) (more : List Purpose) → frames ≡ purpose ∷ more → StepComes g m s at waits
    → steps.is_silent (waits ++ lines_at at frames s) ≡ is_silent (made_of s)
silent_same g m at s waits frames purpose more e (AtOnce fits comes) = ap (λ fs. steps.is_silent (move_lines s.made ++ end_lines fs s.ended)) e ∙ behind_silent s.made purpose more s.ended
silent_same g m at s waits frames purpose more e (Awaited unit ticks comes is goes awaits fits step) = ap (λ fs. steps.is_silent (move_lines s.made ++ end_lines fs s.ended)) e ∙ behind_silent s.made purpose more s.ended
