-- What a run of the converter groups shows, event by event, and what each event is to a group.
use Rattle.std.specs.Prelude.{ℕ, ◌-◌, ◌==◌, Bool, true, false, ◌&&◌, ◌||◌, not, cond, List, [], ◌∷◌, Option, Some, None, is_some}
use Rattle.mcal_base.specs.declared.error_name.ErrorName.{ErrorName}
use Rattle.run_model.specs.World.{World}
use Rattle.run_model.specs.Machine.{Happening, Acts, Serves, Starts, Aborts, Moves, Restarts, Told}
use Rattle.adc_machine.specs.Groups.{Round, Results, newest}
use Rattle.adc_machine.specs.Machine.{adc_machine, is_unit_line}
use Rattle.adc_machine.specs.Triggers.{listener}
use Rattle.adc_machine.specs.Turns.{AdcState, first_state, group_at, round_at, has_turn, number_of, starts}
use Rattle.adc_machine.specs.declared.call.Call.{Call}
use Rattle.adc_machine.specs.declared.call.Call.TheVariants.{Init, DeInit, Group}
use Rattle.adc_machine.specs.declared.call.GroupCall.TheVariants.{StartGroupConversion, StopGroupConversion, EnableHardwareTrigger, DisableHardwareTrigger}
use Rattle.adc_machine.specs.declared.table.AdcTable.{AdcTable}
use Rattle.board_promises.specs.whole_runs.Runs.{Event, state_after, told_or_nothing, is_restart, is_of}

-- An event as it is seen.
pub record GroupEvent : Type 0 where
  -- the outside at its time, what happens, and what it tells
  pub world : World
  pub what : Happening Call
  pub told : Told
  -- the group whose round is started, aborted or served, or for which a trigger makes a request
  pub group : Option ℕ
  -- what each place of each buffer of each group holds before it and after it
  pub held : Results
  pub holds : Results
  -- the newest round of each group before it and after it, where it has one
  pub had_newest : ℕ → Option (List ℕ)
  pub has_newest : ℕ → Option (List ℕ)

-- ---- how it is seen

-- the group of a round
abbrev pub round_group : Option Round → Option ℕ
round_group None = None
round_group (Some r) = Some r.group

-- the group that a unit starts
abbrev pub started_group : AdcTable → AdcState → Option ℕ → Option ℕ
started_group d s None = None
started_group d s (Some u) = starts d s u

abbrev pub aborted_group : AdcState → Option ℕ → Option ℕ
aborted_group s None = None
aborted_group s (Some u) = round_group (round_at s u)

-- the group that listens to a trigger and has no turn
abbrev pub requesting_group : AdcState → Option ℕ → Option ℕ
requesting_group s None = None
requesting_group s (Some g) = cond (has_turn s g) None (Some g)

abbrev pub served_group : AdcTable → AdcState → (line : ℕ) → Option ℕ
served_group d s l = cond (is_unit_line l) (round_group (round_at s (l - 24))) (requesting_group s (listener d s (l - 28)))

abbrev pub group_seen : AdcTable → AdcState → Happening Call → Option ℕ
group_seen d s (Acts call times) = None
group_seen d s (Serves l received) = served_group d s l
group_seen d s (Starts u made_by received) = started_group d s (number_of u)
group_seen d s (Aborts u) = aborted_group s (number_of u)
group_seen d s (Moves order) = None
group_seen d s (Restarts reason) = None

-- the newest of these rounds
abbrev pub newest_of : List (List ℕ) → Option (List ℕ)
newest_of [] = None
newest_of (r ∷ rs) = Some (newest (r ∷ rs))

abbrev pub newest_in : AdcState → ℕ → Option (List ℕ)
newest_in s g = newest_of (group_at s g).rounds

-- an event as it is seen, from the state before it and the state after it
abbrev pub seen_between : AdcTable → AdcState → AdcState → Event Call → Told → GroupEvent
seen_between d s after e told = record { world = e.world; what = e.what; told = told; group = group_seen d s e.what; held = s.results; holds = after.results; had_newest = newest_in s; has_newest = newest_in after }

-- the events as they are seen, the newest first
abbrev pub seen_of : AdcTable → List (Event Call) → List GroupEvent
seen_of d [] = []
seen_of d (e ∷ past) =
    let s : AdcState = state_after (adc_machine d) first_state past in
    seen_between d s (state_after (adc_machine d) first_state (e ∷ past)) e (told_or_nothing ((adc_machine d).happens e.world s e.what)) ∷ seen_of d past

-- ---- what an event is

-- the call that acts without an error, where one does
abbrev pub call_by : Happening Call → Option ErrorName → Option Call
call_by (Acts call times) None = Some call
call_by _ _ = None

abbrev pub call_in : GroupEvent → Option Call
call_in e = call_by e.what e.told.error

-- such a call starts, enables, stops or disables a group
abbrev pub is_start : ℕ → Option Call → Bool
is_start g (Some (Group h StartGroupConversion)) = h == g
is_start g _ = false

abbrev pub is_enabling : ℕ → Option Call → Bool
is_enabling g (Some (Group h EnableHardwareTrigger)) = h == g
is_enabling g _ = false

abbrev pub is_stop : ℕ → Option Call → Bool
is_stop g (Some (Group h StopGroupConversion)) = h == g
is_stop g (Some (Group h DisableHardwareTrigger)) = h == g
is_stop g _ = false

-- such a call is Adc_Init or Adc_DeInit
abbrev pub is_whole : Option Call → Bool
is_whole (Some Init) = true
is_whole (Some DeInit) = true
is_whole _ = false

-- the chip is reset, Adc_Init or Adc_DeInit acts
abbrev pub is_reset : GroupEvent → Bool
is_reset e = is_restart e.what

abbrev pub clears : GroupEvent → Bool
clears e = is_reset e || is_whole (call_in e)

-- the group is stopped or its trigger disabled, or the module is cleared
abbrev pub stops : ℕ → GroupEvent → Bool
stops g e = clears e || is_stop g (call_in e)

-- the group is started or its trigger enabled, or the module is cleared
abbrev pub begins : ℕ → GroupEvent → Bool
begins g e = clears e || (is_start g (call_in e) || is_enabling g (call_in e))

-- a trigger's line is served
abbrev pub is_triggering : Happening Call → Bool
is_triggering (Serves l received) = not (is_unit_line l)
is_triggering _ = false

-- a request of the group is made: it is started, or its trigger's line is served
abbrev pub requests : ℕ → GroupEvent → Bool
requests g e = is_start g (call_in e) || (is_triggering e.what && is_of g e.group)

-- the unit whose round is started, aborted or served
abbrev pub unit_started : Happening Call → Option ℕ
unit_started (Starts u made_by received) = number_of u
unit_started _ = None

abbrev pub unit_aborted : Happening Call → Option ℕ
unit_aborted (Aborts u) = number_of u
unit_aborted _ = None

abbrev pub unit_served : Happening Call → Option ℕ
unit_served (Serves l received) = cond (is_unit_line l) (Some (l - 24)) None
unit_served _ = None

-- a unit starts, aborts or serves a round of the group
abbrev pub starts_on : (unit group : ℕ) → GroupEvent → Bool
starts_on u g e = is_of u (unit_started e.what) && is_of g e.group

abbrev pub aborts_on : (unit group : ℕ) → GroupEvent → Bool
aborts_on u g e = is_of u (unit_aborted e.what) && is_of g e.group

abbrev pub serves_on : (unit group : ℕ) → GroupEvent → Bool
serves_on u g e = is_of u (unit_served e.what) && is_of g e.group

-- a round of the group is served
abbrev pub serves : ℕ → GroupEvent → Bool
serves g e = is_some (unit_served e.what) && is_of g e.group

-- something happens on a unit: a round is started, aborted or served
abbrev pub is_on : (unit : ℕ) → GroupEvent → Bool
is_on u e = is_of u (unit_started e.what) || (is_of u (unit_aborted e.what) || is_of u (unit_served e.what))

-- the event is one of the group's own: a request of it is made, or a round of it is started, aborted or served
abbrev pub touches : ℕ → GroupEvent → Bool
touches g e = is_start g (call_in e) || is_of g e.group
