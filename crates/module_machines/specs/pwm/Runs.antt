-- What the laws of pulse outputs say.
use Rattle.std.specs.Prelude.{◌≡◌, ℕ, ◌+◌, ◌-◌, ◌*◌, ◌<◌, ◌≤◌, ◌==◌, Bool, true, false, not, List, [], ◌∷◌}
use Rattle.run_model.specs.World.{World}
use Rattle.run_model.specs.Machine.{Happening, Acts}
use Rattle.run_model.specs.Frame.{state_by}
use Rattle.module_machines.specs.pwm.Machine.{PwmState, happens}
use Rattle.module_machines.specs.pwm.Output.{Output, Regime, level_of, regime_level, turns}
use Rattle.module_machines.specs.declared.pwm.call.Call.{Call}
use Rattle.module_machines.specs.declared.pwm.call.Call.TheVariants as calls
use Rattle.module_machines.specs.declared.pwm.call.ChannelCall.{ChannelCall}
use Rattle.module_machines.specs.declared.pwm.call.ChannelCall.TheVariants.{SetDutyCycle, SetPeriodAndDuty, SetOutputToIdle, EnableNotification, DisableNotification}
use Rattle.module_machines.specs.declared.pwm.call.PwmEdge.{PwmEdge}
use Rattle.module_machines.specs.declared.pwm.table.PwmTable.{PwmTable}

-- an output that ran by a regime goes over to a new period and absolute duty at the end of the period that ran at a time
pub record StartsAtEnd (polarity : Bool) (r : Regime) (now period duty : ℕ) (o : Output) : Type 0 where
  pub periods : ℕ
  pub later : now < r.start + periods * r.period
  pub soon : r.start + periods * r.period ≤ now + r.period
  pub before : (time : ℕ) → time < r.start + periods * r.period → level_of polarity o time ≡ regime_level polarity r time
  pub after : (time : ℕ) → r.start + periods * r.period ≤ time → level_of polarity o time ≡ regime_level polarity (record { start = r.start + periods * r.period; period = period; duty = duty }) time

-- the level turns so from one unit of time to the next, after the first time and not after the second
pub record TurnsBetween (edge : PwmEdge) (level : ℕ → Bool) (first last : ℕ) : Type 0 where
  pub time : ℕ
  pub later : first < time
  pub within : time ≤ last
  pub turned : turns edge (level (time - 1)) (level time) ≡ true

-- the call sets what the output does
abbrev pub sets_output : ChannelCall → Bool
sets_output (SetDutyCycle duty) = true
sets_output (SetPeriodAndDuty period duty) = true
sets_output SetOutputToIdle = true
sets_output (EnableNotification edge) = false
sets_output DisableNotification = false

-- anything but a call that enables the notification of this channel
abbrev pub leaves_off : ℕ → Happening Call → Bool
leaves_off c (Acts (calls.Channel n (EnableNotification edge)) committed) = not (c == n)
leaves_off c _ = true

-- a happening, with the outside at its time
pub record Occurrence : Type 0 where
  pub world : World
  pub what : Happening Call

-- the state after a happening, and after several
abbrev pub state_after : PwmTable → World → PwmState → Happening Call → PwmState
state_after d w s h = state_by s (happens d w s h)

abbrev pub after_all : PwmTable → PwmState → List Occurrence → PwmState
after_all d s [] = s
after_all d s (x ∷ xs) = after_all d (state_after d x.world s x.what) xs
