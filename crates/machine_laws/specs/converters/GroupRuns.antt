-- What the laws of converter groups say: runs, what leaves a group alone in them, and what is under way.
use Rattle.std.specs.Prelude.{◌≡◌, ◌<◌, ℕ, ◌+◌, ◌-◌, ◌==◌, Bool, true, false, ◌&&◌, not, cond, List, [], ◌∷◌, Some}
use Rattle.mcal_base.specs.declared.notice.Notice.{Notice}
use Rattle.mcal_base.specs.declared.notice.NoticeKind.TheVariants.{AdcNotification}
use Rattle.run_model.specs.Frame.{state_by}
use Rattle.run_model.specs.Machine.{Happening, Acts, Serves, Restarts}
use Rattle.run_model.specs.World.{World}
use Rattle.adc_machine.specs.Groups.{Busy, Completed, StreamCompleted}
use Rattle.adc_machine.specs.Laws.{Step}
use Rattle.adc_machine.specs.Machine.{happens, ready, is_unit_line}
use Rattle.adc_machine.specs.Table.{group_of}
use Rattle.adc_machine.specs.Turns.{AdcState, group_at, round_at, has_turn, is_round_of, waits_for, rank_of}
use Rattle.adc_machine.specs.declared.call.Call.{Call}
use Rattle.adc_machine.specs.declared.call.Call.TheVariants.{Init, DeInit, Group}
use Rattle.adc_machine.specs.declared.call.GroupCall.TheVariants.{StartGroupConversion, StopGroupConversion, EnableHardwareTrigger, DisableHardwareTrigger, Notification}
use Rattle.adc_machine.specs.declared.table.AdcTable.{AdcTable}
use Rattle.adc_machine.specs.declared.table.Group as configured

-- ---- what a happening leaves

-- neither a reset, nor a call that makes the module initialised or uninitialised
abbrev pub leaves_module : Happening Call → Bool
leaves_module (Acts Init times) = false
leaves_module (Acts DeInit times) = false
leaves_module (Restarts reason) = false
leaves_module h = true

-- and neither switches this group's notification nor stops the group
abbrev pub leaves_notification : (group : ℕ) → Happening Call → Bool
leaves_notification g (Acts (Group n (Notification on)) times) = not (g == n)
leaves_notification g (Acts (Group n StopGroupConversion) times) = not (g == n)
leaves_notification g (Acts (Group n DisableHardwareTrigger) times) = not (g == n)
leaves_notification g h = leaves_module h

-- and begins no stream of this group
abbrev pub leaves_stream : (group : ℕ) → Happening Call → Bool
leaves_stream g (Acts (Group n StartGroupConversion) times) = not (g == n)
leaves_stream g (Acts (Group n EnableHardwareTrigger) times) = not (g == n)
leaves_stream g h = leaves_module h

-- a serving of a round of this group
abbrev pub serves_round : AdcTable → World → AdcState → (group : ℕ) → Happening Call → Bool
serves_round d w s g (Serves line received) = ready d w s line && (is_unit_line line && is_round_of g (round_at s (line - 24)))
serves_round d w s g h = false

-- how many rounds of this group are served in a run
abbrev pub rounds_served : AdcTable → AdcState → (group : ℕ) → List Step → ℕ
rounds_served d s g [] = 0
rounds_served d s g (x ∷ xs) = cond (serves_round d x.world s g x.happening) 1 0 + rounds_served d (state_by s (happens d x.world s x.happening)) g xs

-- the notice of this group, and no other
abbrev pub one_notice : ℕ → List Notice
one_notice g = record { kind = AdcNotification; id = g } ∷ []

-- the happening serves no unit's line
abbrev pub ServesNoUnit : Happening Call → Type 0
ServesNoUnit (Serves line received) = is_unit_line line ≡ false
ServesNoUnit h = Unit {0}

-- ---- what is under way

-- a group is under way
pub data IsUnderWay (s : AdcState) (g : ℕ) : Type 0 where
  WhileBusy : (group_at s g).status ≡ Busy → IsUnderWay s g
  WhileCompleted : (group_at s g).status ≡ Completed → IsUnderWay s g
  -- its stream is completed, and it still has a turn or an enabled trigger
  WithTurn : (group_at s g).status ≡ StreamCompleted → has_turn s g ≡ true → IsUnderWay s g
  WithTrigger : (group_at s g).status ≡ StreamCompleted → (group_at s g).trigger ≡ true → IsUnderWay s g

-- Units take one group at a time, and a group of this unit is under way.
pub record IsTaken (d : AdcTable) (s : AdcState) (unit : ℕ) : Type 0 where
  pub priorities : d.priorities ≡ false
  pub queuing : d.queuing ≡ false
  pub group : ℕ
  pub configured : configured.Group
  pub there : group_of d group ≡ Some configured
  pub on : configured.unit ≡ unit
  pub under_way : IsUnderWay s group

-- A group waits for the unit whose priority is strictly higher than this group's.
pub record IsOutranked (d : AdcTable) (s : AdcState) (unit group : ℕ) : Type 0 where
  pub other : ℕ
  pub waits : waits_for d s unit other ≡ true
  pub higher : rank_of d group < rank_of d other
