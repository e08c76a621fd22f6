-- What the signs of a trace say of its lines and of its script.
use Rattle.std.specs.Prelude.{◌≡◌, ℕ, ◌+◌, List, length, map, Option, Some, None, count_by}
use Rattle.std.specs.List.{filter_map}
use Rattle.mcal_base.specs.declared.directive.Directive.{Directive}
use Rattle.bench_report.specs.declared.frames.Purpose.{Purpose}
use Rattle.bench_report.specs.declared.frames.Purpose.TheVariants as purposes
use Rattle.trace_reader.specs.declared.told.Reply.{Reply}
use Rattle.trace_reader.specs.declared.told.Told.TheVariants as tells
use Rattle.trace_reader.specs.declared.told.TraceLine.{TraceLine}
use Rattle.trace_lanes.specs.Drawn.{is_drawn, is_left_out}
use Rattle.trace_forms.specs.declared.kinds.signs.Ending.{Ending}
use Rattle.trace_forms.specs.declared.kinds.signs.Ending.TheVariants as endings
use Rattle.trace_forms.specs.declared.kinds.signs.Frame.{Frame}
use Rattle.trace_forms.specs.declared.kinds.signs.Sign.{Sign}
use Rattle.trace_forms.specs.declared.kinds.signs.What.{What}
use Rattle.trace_forms.specs.declared.kinds.signs.What.TheVariants as whats
use Rattle.trace_drawing.specs.signs.Drawing.{Drawing}

-- what some signs show, in their order, by their script lines and what they stand for
abbrev pub seen : {T : Type 0} → (ℕ → What → Option T) → List Sign → List T
seen f signs = filter_map (λ s. f s.number s.what) signs

-- a call that returned and a handler that ended show the line of their end
abbrev pub returned_line : ℕ → Purpose → Reply → Option TraceLine
returned_line number (purposes.Call service) reply = Some (record { number = number; told = tells.Returned service reply })
returned_line number (purposes.Handler line) reply = None

abbrev pub left_line : ℕ → Purpose → Option TraceLine
left_line number (purposes.Call service) = None
left_line number (purposes.Handler line) = Some (record { number = number; told = tells.Left line })

abbrev pub gone_line : ℕ → Purpose → Ending → Option TraceLine
gone_line number purpose (endings.Returned reply) = returned_line number purpose reply
gone_line number purpose endings.Left = left_line number purpose
gone_line number purpose endings.Dropped = None
gone_line number purpose endings.Open = None

-- the line of the trace that a sign shows
abbrev pub line_of : ℕ → What → Option TraceLine
line_of number (whats.Stepped step fresh) = Some (record { number = number; told = tells.Step step })
line_of number (whats.Held cause) = Some (record { number = number; told = tells.Held cause })
line_of number (whats.Waited ticks all) = Some (record { number = number; told = tells.Waited ticks })
line_of number (whats.Noted notice) = Some (record { number = number; told = tells.Noted notice })
line_of number (whats.Erred found) = Some (record { number = number; told = tells.Erred found })
line_of number (whats.Gone frame ending) = gone_line number frame.purpose ending
line_of number (whats.Reset reason dropped) = Some (record { number = number; told = tells.Reset reason dropped })
line_of number whats.Shown = Some (record { number = number; told = tells.Shown })
line_of number whats.Done = Some (record { number = number; told = tells.Done })
line_of number _ = None

-- the directive of the script that it shows
abbrev pub turn_of : ℕ → What → Option ℕ
turn_of number (whats.Turn asked) = Some number
turn_of number _ = None

-- the frame that begins, and the one that is gone
abbrev pub beginning_of : ℕ → What → Option Frame
beginning_of number (whats.Begins frame) = Some frame
beginning_of number _ = None

abbrev pub going_of : ℕ → What → Option Frame
going_of number (whats.Gone frame ending) = Some frame
going_of number _ = None

-- The signs show each line of the trace and each directive of the script, in their order and once, and nothing else of
-- these; as many frames are gone as begin; and each sign is drawn on a page, or counted as left out, or begins a frame.
pub record IsDrawingOf (script : List Directive) (lines : List TraceLine) (d : Drawing) : Type 0 where
  pub shows_lines : seen line_of d.signs ≡ lines
  pub shows_script : seen turn_of d.signs ≡ map (λ (directive : Directive). directive.line) script
  pub shows_ends : length (seen beginning_of d.signs) ≡ length (seen going_of d.signs)
  pub counts_all : count_by is_drawn d.signs + count_by is_left_out d.signs + length (seen beginning_of d.signs) ≡ length d.signs
