-- How far a directive's steps reach, by what is kept of a step.
use Rattle.std.specs.Prelude.{ℕ, ◌==◌, Bool, true, false, ◌&&◌, not}
use Rattle.mcal_base.specs.declared.directive.Stop.{Stop}
use Rattle.mcal_base.specs.declared.directive.Stop.TheVariants as stops
use Rattle.mcal_base.specs.declared.moves.Move.{Move}
use Rattle.mcal_base.specs.declared.moves.Move.TheVariants.{Note, Report}
use Rattle.run_model.specs.Follows.{is_mask, is_unmask, is_notice}
use Rattle.run_model.specs.Frame.{is_act, resets_chip}
use Rattle.run_model.specs.declared.stop_condition.StopCondition.{StopCondition}
use Rattle.run_model.specs.declared.stop_condition.StopCondition.TheVariants.{Count, Until, Whole}
use Rattle.report_steps.specs.declared.made.Made.{Made}

-- `upto` stops at it
abbrev pub stops_at : Stop → Made → Bool
stops_at stops.Act s = is_act s.event
stops_at stops.Mask s = is_mask s.made
stops_at stops.Unmask s = is_unmask s.made
stops_at stops.Note s = is_notice s.made

-- the directive stops after it, having made so many
abbrev pub is_reached : StopCondition → ℕ → Made → Bool
is_reached (Count n) count s = count == n
is_reached (Until stop) count s = stops_at stop s
is_reached Whole count s = false

abbrev pub resets : Made → Bool
resets s = resets_chip s.made

-- the move has a line of its own
abbrev pub has_line : Move → Bool
has_line (Note n) = true
has_line (Report e) = true
has_line _ = false

-- no line tells of it but the step's own
abbrev pub is_silent : Made → Bool
is_silent s = not s.ended && not (has_line s.made)
