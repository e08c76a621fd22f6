-- How what the program keeps stands for the machine's state, which keeps all rounds that were served and all that was stored.
use Rattle.std.specs.Prelude.{◌≡◌, ℕ, ◌+◌, ◌*◌, ◌<◌, ◌≤◌, Bool, true, false, ◌&&◌, List, length, Option, Some, None, option_map, nat_lt, if◌then◌else◌, cond, slice_index_or, slice_set}
use Rattle.std.specs.List.{list_any}
use Rattle.adc_machine.specs.Checks as checks
use Rattle.adc_machine.specs.Groups as machine
use Rattle.adc_machine.specs.Groups.{GroupState, Results, newest, held_in}
use Rattle.adc_machine.specs.Machine.{is_under_way, is_done, served_round}
use Rattle.adc_machine.specs.Table.{group_of, all_groups}
use Rattle.adc_machine.specs.Turns.{AdcState, is_on, round_at}
use Rattle.run_model.specs.Machine.{Outcome}
use Rattle.run_model.specs.World.{World}
use Rattle.adc_machine.specs.Words.{buffer_number}
use Rattle.adc_machine.specs.declared.call.GroupCall.{GroupCall}
use Rattle.adc_machine.specs.declared.call.GroupCall.TheVariants.{SetupResultBuffer}
use Rattle.adc_machine.specs.declared.call.ResultBuffer.{ResultBuffer}
use Rattle.adc_machine.specs.declared.table.AdcTable.{AdcTable}
use Rattle.audit_converters.specs.Listed.{listed, no_values}
use Rattle.audit_converters.specs.declared.checks.Circumstances.{Circumstances}
use Rattle.audit_converters.specs.declared.group.Group as code
use Rattle.audit_converters.specs.declared.group.Request.{Request}
use Rattle.audit_converters.specs.declared.group.Round.{Round}
use Rattle.audit_converters.specs.declared.group.Status.{Status}
use Rattle.audit_converters.specs.declared.group.Status.TheVariants.{Idle, Busy, Completed, StreamCompleted}

-- ---- requests and rounds

abbrev pub request_as : Request → machine.Request
request_as q = record { number = q.number; kept = listed q.kept }

abbrev pub round_as : Round → machine.Round
round_as r = record { group = r.group; request = request_as r.request; start = r.start }

abbrev pub status_as : Status → machine.Status
status_as Idle = machine.Idle
status_as Busy = machine.Busy
status_as Completed = machine.Completed
status_as StreamCompleted = machine.StreamCompleted

-- ---- groups

-- What is kept of a group: all but its rounds, and of these how many they are and the newest one.
pub record GroupKept : Type 0 where
  pub status : machine.Status
  pub chosen : Option ResultBuffer
  pub notification : Bool
  pub trigger : Bool
  pub count : ℕ
  pub newest : List ℕ
  pub waiting : Option machine.Request

-- what the program keeps of a group, and what is to be kept of a group of the machine
abbrev pub group_as : code.Group → GroupKept
group_as x = record { status = status_as x.status; chosen = x.chosen; notification = x.notification; trigger = x.trigger; count = x.count; newest = listed x.newest; waiting = option_map request_as x.waiting }

abbrev pub kept_of : GroupState → GroupKept
kept_of x = record { status = x.status; chosen = x.chosen; notification = x.notification; trigger = x.trigger; count = length x.rounds; newest = newest x.rounds; waiting = x.waiting }

-- a group after `Adc_Init`, as the program has it
abbrev pub blank : code.Group
blank = record { status = Idle; chosen = None; notification = false; trigger = false; count = 0; newest = no_values; waiting = None }

-- a group with so many rounds has no more than there were events
abbrev pub IsWithin : (events : ℕ) → code.Group → Type 0
IsWithin events x = x.count ≤ events

-- ---- the module without its results

-- How many requests were made and rounds served, whether the module is initialised, the groups, the rounds of the units, the marks, and the number of the last request.
pub record Kept : Type 0 where
  pub events : ℕ
  pub initialised : Bool
  pub groups : List code.Group
  pub units : List (Option Round)
  pub marks : List Bool
  pub requests : ℕ

-- the parts stand for those of the machine
abbrev pub GroupsStand : List code.Group → List GroupState → Type 0
GroupsStand xs ys = (g : ℕ) → group_as (slice_index_or xs g blank) ≡ kept_of (slice_index_or ys g machine.untouched)

abbrev pub UnitsStand : List (Option Round) → List (Option machine.Round) → Type 0
UnitsStand xs ys = (u : ℕ) → option_map round_as (slice_index_or xs u None) ≡ slice_index_or ys u None

abbrev pub MarksStand : List Bool → List Bool → Type 0
MarksStand xs ys = (i : ℕ) → slice_index_or xs i false ≡ slice_index_or ys i false

-- It stands for a state of the machine, but for the results.
pub record Stands (kept : Kept) (s : AdcState) : Type 0 where
  pub initialised : kept.initialised ≡ s.initialised
  pub groups : GroupsStand kept.groups s.groups
  pub units : UnitsStand kept.units s.units
  pub marks : MarksStand kept.marks s.marks
  pub requests : kept.requests ≡ s.requests

-- ---- what calls find

abbrev pub circumstances_as : Circumstances → checks.Circumstances
circumstances_as x = record { uninitialised = x.uninitialised; unbuffered = x.unbuffered; idle = x.idle; busy = x.busy }

-- the call chooses a result buffer
abbrev pub sets_up : GroupCall → Bool
sets_up (SetupResultBuffer b) = true
sets_up _ = false

-- the status is busy
abbrev pub is_busy : machine.Status → Bool
is_busy machine.Busy = true
is_busy _ = false

-- a group of the unit is under way
abbrev pub is_taken : AdcTable → AdcState → (unit : ℕ) → Bool
is_taken d s u = list_any (λ h. is_on u (group_of d h) && is_under_way s h) all_groups

-- ---- results

-- the place of a result among the words, 2,048 for each buffer of a group
abbrev pub result_at : (group : ℕ) → ResultBuffer → (place : ℕ) → ℕ
result_at g b p = 2048 * (2 * g + buffer_number b) + p

-- the words hold what was stored, of 16 groups in both buffers at 2,048 places
abbrev pub HoldResults : List ℕ → Results → Type 0
HoldResults words results = (g : ℕ) (b : ResultBuffer) (p : ℕ) → g < 16 → p < 2048 → slice_index_or words (result_at g b p) 0 ≡ held_in results g b p

-- the words with a value at a place of a buffer, of 2,048
abbrev pub put_at : List ℕ → (group : ℕ) → ResultBuffer → (place value : ℕ) → List ℕ
put_at words g b p v = if nat_lt p 2048 then slice_set words (result_at g b p) v else words

-- ---- servings

-- the serving of a unit's round, where it is finished
abbrev pub served_if : AdcTable → World → AdcState → (unit : ℕ) → Option (Outcome AdcState)
served_if d w s u = cond (is_done d w (round_at s u)) (Some (served_round d w s u (round_at s u))) None

-- ---- the whole module

-- The table, and what is kept of groups and results.
pub record ConvertersKept : Type 0 where
  pub table : AdcTable
  pub groups : Kept
  pub results : List ℕ

-- It stands for a state of the machine.
pub record StandsFor (kept : ConvertersKept) (s : AdcState) : Type 0 where
  pub groups : Stands kept.groups s
  pub results : HoldResults kept.results s.results
