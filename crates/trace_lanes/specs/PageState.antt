-- Where a run stands on the page before each of its signs.
use Rattle.std.specs.Prelude.{ℕ, ◌==◌, ◌&&◌, min, nat_le, Bool, true, false, Option, Some, None, is_some, unwrap_or, not, slice_index_or, slice_set, replicate, if◌then◌else◌}
use Rattle.irq_control.specs.declared.held.Held.{Held}
use Rattle.mcal_base.specs.declared.moves.Move.{Move}
use Rattle.mcal_base.specs.declared.moves.Move.TheVariants as moves
use Rattle.mcal_base.specs.declared.register.Reg.TheVariants as regs
use Rattle.bench_report.specs.declared.frames.Purpose.{Purpose}
use Rattle.bench_report.specs.declared.frames.Purpose.TheVariants as purposes
use Rattle.trace_reader.specs.declared.told.Step.{Step}
use Rattle.trace_forms.specs.kinds.Holds.{may_begin}
use Rattle.trace_forms.specs.kinds.Sums.{sum_up}
use Rattle.trace_forms.specs.declared.kinds.signs.Asked.{Asked}
use Rattle.trace_forms.specs.declared.kinds.signs.Asked.TheVariants as asks
use Rattle.trace_forms.specs.declared.kinds.signs.Frame.{Frame}
use Rattle.trace_forms.specs.declared.kinds.signs.Sign.{Sign}
use Rattle.trace_forms.specs.declared.kinds.signs.What.{What}
use Rattle.trace_forms.specs.declared.kinds.signs.What.TheVariants as whats
use Rattle.trace_lanes.specs.Rows.{slot}
use Rattle.trace_lanes.specs.declared.page_state.PageState.{PageState}
use Rattle.trace_lanes.specs.declared.page_state.Level.{Level}
use Rattle.trace_lanes.specs.declared.page_state.RowPoint.{RowPoint}
use Rattle.trace_lanes.specs.declared.page_state.Setting.{Setting}
use Rattle.trace_lanes.specs.declared.page_state.Wait.{Wait}
use Rattle.trace_lanes.specs.declared.rows.Row.{Row}
use Rattle.trace_lanes.specs.declared.rows.Row.TheVariants as rows

abbrev pub at : Row → ℕ → RowPoint
at row x = record { row = row; x = x }

-- where a run begins
abbrev pub first : PageState
first = record { x = 130; plain = 0; ticks = 0; asked = asks.Nothing; frames = replicate 9 (at rows.Title 130); waits = replicate 177 None; shut = None; levels = replicate 177 None }

-- the row of the frames of a purpose, at the level of a call
abbrev pub row_of : Purpose → ℕ → Row
row_of (purposes.Call service) level = rows.Level level
row_of (purposes.Handler line) level = rows.Handler line

-- ---- places

-- nothing but a move is seen of a step, and it leaves the mask
abbrev pub leaves_mask : Move → Bool
leaves_mask moves.Mask = false
leaves_mask moves.Unmask = false
leaves_mask _ = true

abbrev pub is_plain : Step → Bool
is_plain step = leaves_mask step.made && not (is_some step.mark)

-- a step is 9 wide, but 1 where twelve plain ones stand before a plain one; ticks are 54 wide
abbrev pub breadth : PageState → What → ℕ
breadth c (whats.Stepped step fresh) = if is_plain step && nat_le 12 c.plain then 1 else 9
breadth c (whats.Ticked ticks all) = 54
breadth c (whats.Waited ticks all) = 54
breadth c _ = 0

abbrev pub plain_behind : ℕ → What → ℕ
plain_behind plain (whats.Stepped step fresh) = if is_plain step then sum_up plain 1 else 0
plain_behind plain _ = 0

abbrev pub passed : PageState → What → PageState
passed c what = record c { x = min (sum_up c.x (breadth c what)) 10000000; plain = plain_behind c.plain what }

-- ---- frames

-- where the topmost of so many frames began
abbrev pub frame_at : PageState → ℕ → RowPoint
frame_at c depth = slice_index_or c.frames (min depth 8) (at rows.Title 0)

abbrev pub wait_in : PageState → Row → Option Wait
wait_in c row = slice_index_or c.waits (slot row) None

abbrev pub begun : PageState → Frame → PageState
begun c frame = record c {
  frames = slice_set c.frames (min frame.depth 8) (at (row_of frame.purpose frame.level) c.x);
  waits = slice_set c.waits (slot (row_of frame.purpose frame.level)) None;
}

-- it waits, if none does in its row
abbrev pub waiting : PageState → ℕ → Row → PageState
waiting c step row = record c { waits = slice_set c.waits (slot row) (Some (record { x = c.x; step = step; ticks = c.ticks })) }

abbrev pub held : PageState → ℕ → Held → Asked → PageState
held c step cause (asks.Frame purpose level whole) = if may_begin cause && not (is_some (wait_in c (row_of purpose level))) then waiting c step (row_of purpose level) else c
held c step cause _ = c

-- a move may close the mask
abbrev pub closed : PageState → ℕ → Move → PageState
closed c depth moves.Mask = record c { shut = Some (unwrap_or c.shut (at (frame_at c depth).row c.x)) }
closed c depth _ = c

-- ---- values

-- the value of a pulse output that a step writes or reads
abbrev pub setting : Row → ℕ → Setting
setting row value = record { row = row; value = value }

abbrev pub pulse_of : Move → ℕ → Option Setting
pulse_of (moves.Write (regs.PulsePeriod output) period) value = Some (setting (rows.Period output) period)
pulse_of (moves.Write (regs.PulseDuty output) duty) value = Some (setting (rows.Duty output) duty)
pulse_of (moves.Read (regs.PulseOut output)) value = Some (setting (rows.Output output) value)
pulse_of _ value = None

abbrev pub asked_setting : Asked → Option Setting
asked_setting (asks.Pin p level) = Some (setting (rows.Pin p) (if level then 1 else 0))
asked_setting (asks.Analog input value) = Some (setting (rows.Analog input) value)
asked_setting _ = None

-- the value that a sign sets in a row, if it does
abbrev pub setting_of : What → Option Setting
setting_of (whats.Turn asked) = asked_setting asked
setting_of (whats.Stepped step fresh) = pulse_of step.made step.value
setting_of _ = None

abbrev pub level_in : PageState → Row → Option Level
level_in c row = slice_index_or c.levels (slot row) None

abbrev pub with_level : PageState → Sign → Setting → Bool → PageState
with_level c s to changed = record c { levels = slice_set c.levels (slot to.row) (Some (record { row = to.row; x = c.x; value = to.value; changed = changed; sign = s })) }

abbrev pub set_over : PageState → Sign → Setting → Option Level → PageState
set_over c s to None = with_level c s to false
set_over c s to (Some level) = if level.value == to.value then c else with_level c s to true

abbrev pub set_in : PageState → Sign → Option Setting → PageState
set_in c s None = c
set_in c s (Some to) = set_over c s to (level_in c to.row)

-- ---- behind a sign

-- what a sign changes, beside the place and the values
abbrev pub noted : PageState → Sign → What → PageState
noted c s (whats.Turn asked) = record c { asked = asked }
noted c s (whats.Ticked ticks all) = record c { ticks = all }
noted c s (whats.Waited ticks all) = record c { ticks = all }
noted c s (whats.Begins frame) = begun c frame
noted c s (whats.Stepped step fresh) = closed c s.depth step.made
noted c s (whats.Held cause) = held c s.step cause c.asked
noted c s (whats.Window step) = record c { shut = None }
noted c s (whats.Reset reason dropped) = record c { waits = replicate 177 None }
noted c s _ = c

abbrev pub moved : PageState → Sign → PageState
moved c s = passed (noted c s s.what) s.what

unfoldable pub behind : PageState → Sign → PageState
behind c s = moved (set_in c s (setting_of s.what)) s
