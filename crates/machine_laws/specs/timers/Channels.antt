-- Histories of the timer driver's machine, and what in them leaves a channel alone.
use Rattle.std.specs.Prelude.{◌≡◌, ◌<◌, ℕ, ◌==◌, Bool, true, false, not, List, [], ◌∷◌, Some}
use Rattle.mcal_base.specs.declared.notice.Notice.{Notice}
use Rattle.mcal_base.specs.declared.notice.NoticeKind.{NoticeKind}
use Rattle.run_model.specs.Frame.{state_by}
use Rattle.run_model.specs.Machine.{Happening, Acts, Serves, Restarts}
use Rattle.run_model.specs.World.{World}
use Rattle.module_machines.specs.gpt.Machine.{GptState, channel_at, happens}
use Rattle.module_machines.specs.declared.gpt.call.Call.{Call}
use Rattle.module_machines.specs.declared.gpt.call.Call.TheVariants.{Init, DeInit, SetMode}
use Rattle.module_machines.specs.declared.gpt.call.Call.TheVariants as calls
use Rattle.module_machines.specs.declared.gpt.call.ChannelCall.TheVariants.{StartTimer, StopTimer, Change}
use Rattle.module_machines.specs.declared.gpt.call.Change.TheVariants.{Notification, Check}
use Rattle.module_machines.specs.declared.gpt.call.GptMode.TheVariants.{Sleep}
use Rattle.module_machines.specs.declared.gpt.table.GptTable.{GptTable}

-- a happening, with the outside at its time
pub record Occurrence : Type 0 where
  pub world : World
  pub what : Happening Call

-- the state after a happening, and after several
abbrev pub state_after : GptTable → World → GptState → Happening Call → GptState
state_after d w s h = state_by s (happens d w s h)

abbrev pub after_all : GptTable → GptState → List Occurrence → GptState
after_all d s [] = s
after_all d s (x ∷ xs) = after_all d (state_after d x.world s x.what) xs

-- ---- what a happening leaves

-- neither a reset, nor a call that makes the module initialised or uninitialised
abbrev pub leaves_module : Happening Call → Bool
leaves_module (Acts Init times) = false
leaves_module (Acts DeInit times) = false
leaves_module (Restarts reason) = false
leaves_module _ = true

-- and neither a start, a stop or a serving of this channel, nor a call for sleep
abbrev pub leaves_course : ℕ → Happening Call → Bool
leaves_course c (Acts (calls.Channel n (StartTimer v)) times) = not (c == n)
leaves_course c (Acts (calls.Channel n StopTimer) times) = not (c == n)
leaves_course c (Acts (SetMode (Some Sleep)) times) = false
leaves_course c (Serves line received) = not (c == line)
leaves_course c h = leaves_module h

-- and no call that switches the notification of this channel
abbrev pub leaves_notification : ℕ → Happening Call → Bool
leaves_notification c (Acts (calls.Channel n (Change (Notification on))) times) = not (c == n)
leaves_notification c h = leaves_module h

-- and no check of this channel's wakeup
abbrev pub leaves_wakeup : ℕ → Happening Call → Bool
leaves_wakeup c (Acts (calls.Channel n (Change Check)) times) = not (c == n)
leaves_wakeup c h = leaves_module h

-- anything but a start of this channel
abbrev pub leaves_start : ℕ → Happening Call → Bool
leaves_start c (Acts (calls.Channel n (StartTimer v)) times) = not (c == n)
leaves_start c h = true

-- anything but a serving of this channel
abbrev pub leaves_serving : ℕ → Happening Call → Bool
leaves_serving c (Serves line received) = not (c == line)
leaves_serving c h = true

-- the mode and each channel are as they were
pub record KeepsChannels (s after : GptState) : Type 0 where
  pub mode : after.mode ≡ s.mode
  pub channels : (c : ℕ) → c < 8 → channel_at after c ≡ channel_at s c

-- this notice about the channel, and no other
abbrev pub one_notice : NoticeKind → ℕ → List Notice
one_notice kind c = record { kind = kind; id = c } ∷ []
