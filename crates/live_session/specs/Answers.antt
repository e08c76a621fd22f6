-- What is done for a line, as a journal would have it, and what is told of that.
use Rattle.std.specs.Prelude.{◌≡◌, ℕ, ◌<◌, ◌≤◌, Bool, List, [], ◌++◌, codes}
use Rattle.chip_model.specs.Chip.{Chip}
use Rattle.mcal_base.specs.declared.directive.Order.{Order}
use Rattle.mcal_base.specs.declared.directive.Request.{Request}
use Rattle.run_model.specs.Entry.{Entry}
use Rattle.run_model.specs.Follows.{deeds_in}
use Rattle.run_model.specs.Moment.{Moment, Transition, after_all, start_moment}
use Rattle.script_runner.specs.Standing.{words_by}
use Rattle.step_runner.specs.Driver.{Driver}
use Rattle.step_runner.specs.Stands.{Stands}
use Rattle.bench_report.specs.Report.{chapter_frames, chapter_lines}
use Rattle.bench_report.specs.declared.frames.Purpose.{Purpose}
use Rattle.live_board.specs.Lives.{LiveRun}
use Rattle.live_session.specs.Pages.{Page, refused, say_all}

-- the last moment of a run, from power on with this chip
abbrev pub moment_at : {State Call Frame : Type 0} → Driver State Call Frame → (first : Chip) → List (Transition Call) → Moment State Call
moment_at d first h = after_all d.setting (start_moment d.setting first) h

-- It stands at the end of a legal run, with no more steps than it has counted.
pub record EndsAt {M State Call Frame : Type 0} (d : Driver State Call Frame) (first : Chip) (live : LiveRun M Frame) (h : List (Transition Call)) : Type 0 where
  pub stands : Stands d first live.chip live.kept.frames h
  pub few : (moment_at d first h).steps ≤ live.kept.steps

-- What was done, as the items of a journal: of whatever such run it stood at the end, it stands at the end of that run with their
-- deeds more, and they are right in its last moment. Their lines are told, and the frames are those that they leave.
pub record Answers {M State Call Frame : Type 0} (d : Driver State Call Frame) (call_of : Request → Call) (traced : Bool) (order : Order) (before after : LiveRun M Frame) (frames later : List Purpose) (page told : Page) (Right : Moment State Call → List Entry → Type 0) : Type 0 where
  pub items : List Entry
  pub goes : (first : Chip) (h : List (Transition Call)) → EndsAt d first before h → EndsAt d first after (h ++ deeds_in call_of order items)
  pub right : (first : Chip) (h : List (Transition Call)) → EndsAt d first before h → Right (moment_at d first h) items
  pub frames_are : later ≡ chapter_frames order frames items
  pub page_is : told ≡ say_all page (chapter_lines traced order frames [] items)

-- Something that is counted since power on is used up: fewer ticks are left than a wait or a directive takes, no step is, or fewer words than an order gives.
pub data IsSpent {M Frame : Type 0} (order : Order) (live : LiveRun M Frame) : Type 0 where
  Of_ticks : (ticks : ℕ) → ticks < 4294967296 → live.left < ticks → IsSpent order live
  Of_steps : 4294967295 ≤ live.kept.steps → IsSpent order live
  Of_words : live.room < words_by order → IsSpent order live

-- Something was done, and no more could be.
pub record WasSpent {M State Call Frame : Type 0} (d : Driver State Call Frame) (call_of : Request → Call) (traced : Bool) (order : Order) (before after : LiveRun M Frame) (frames later : List Purpose) (page told : Page) : Type 0 where
  pub between : Page
  pub answers : Answers d call_of traced order before after frames later page between (λ m items. Unit {0})
  pub spent : IsSpent order after
  pub page_is : told ≡ refused between (codes "Spent")

-- An order was obeyed, or as much of it as what is counted allowed.
pub data IsObeyed {M State Call Frame : Type 0} (d : Driver State Call Frame) (call_of : Request → Call) (traced : Bool) (order : Order) (before after : LiveRun M Frame) (frames later : List Purpose) (page told : Page) (Right : Moment State Call → List Entry → Type 0) : Type 0 where
  As_asked : Answers d call_of traced order before after frames later page told Right → IsObeyed d call_of traced order before after frames later page told Right
  As_far : WasSpent d call_of traced order before after frames later page told → IsObeyed d call_of traced order before after frames later page told Right
