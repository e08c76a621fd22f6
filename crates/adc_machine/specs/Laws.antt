-- What the laws of the machine say.
use Rattle.std.specs.Prelude.{◌≡◌, ◌≢◌, ℕ, ◌+◌, ◌*◌, ◌<◌, ◌≤◌, Bool, true, false, cond, List, [], ◌∷◌, length, Option, Some, None, slice_get}
use Rattle.run_model.specs.World.{World, sample_at}
use Rattle.run_model.specs.Frame.{state_by}
use Rattle.run_model.specs.Machine.{Happening, Acts, Serves, Restarts}
use Rattle.adc_machine.specs.Groups.{Request, Idle, Busy, Completed, StreamCompleted, untouched, suspends, ends_with_stream, Round, Results, inputs_left, place_in, samples_of, held_in}
use Rattle.adc_machine.specs.Machine.{happens, is_unit_line, is_trigger_line}
use Rattle.adc_machine.specs.Table.{group_of}
use Rattle.adc_machine.specs.Triggers.{mark_at, has_input}
use Rattle.adc_machine.specs.Turns.{AdcState, round_at, kept_of, group_at, has_turn, waits_for, rank_of, number_in}
use Rattle.adc_machine.specs.declared.call.Call.{Call}
use Rattle.adc_machine.specs.declared.call.Call.TheVariants.{Group}
use Rattle.adc_machine.specs.declared.call.GroupCall.TheVariants.{StartGroupConversion}
use Rattle.adc_machine.specs.declared.call.ResultBuffer.{ResultBuffer}
use Rattle.adc_machine.specs.declared.table.AdcTable.{AdcTable}
use Rattle.adc_machine.specs.declared.table.Group as configured

-- the number of values that a round began with, and the time at which its further input j, from 0, ends
abbrev pub kept_count : Round → ℕ
kept_count r = length r.request.kept

abbrev pub ends_at : Round → ℕ → ℕ
ends_at r j = r.start + 4 * (j + 1)

-- The values of a whole round: those that were kept, and then the level of each further input at the time at which it ends.
pub record HasValues (w : World) (k : Option configured.Group) (r : Round) (values : List ℕ) : Type 0 where
  pub kept : (j v : ℕ) → slice_get r.request.kept j ≡ Some v → slice_get values j ≡ Some v
  pub levels : (j input : ℕ) → slice_get (inputs_left k r) j ≡ Some input → slice_get values (kept_count r + j) ≡ Some (sample_at w.samples input (ends_at r j))
  pub count : length values ≡ kept_count r + length (inputs_left k r)

-- The values of a round that has run up to now: those that were kept, and then the level of each further input that has ended, and no more.
pub record HasEnded (w : World) (k : Option configured.Group) (r : Round) (values : List ℕ) : Type 0 where
  pub kept : (j v : ℕ) → slice_get r.request.kept j ≡ Some v → slice_get values j ≡ Some v
  pub levels : (j input : ℕ) → slice_get (inputs_left k r) j ≡ Some input → ends_at r j ≤ w.now → slice_get values (kept_count r + j) ≡ Some (sample_at w.samples input (ends_at r j))
  pub later : (j : ℕ) → w.now < ends_at r j → slice_get values (kept_count r + j) ≡ None

-- a group is behind another one in neither way: its priority isn't lower, and where it is equal the number of its request isn't greater
abbrev pub IsBefore : AdcTable → AdcState → (g h : ℕ) → Type 0
IsBefore d s g h = (rank_of d h ≤ rank_of d g) × (rank_of d h ≡ rank_of d g → number_in (group_at s g).waiting ≤ number_in (group_at s h).waiting)

-- The group waits for the unit, and no other one that does comes before it.
pub record IsNext (d : AdcTable) (s : AdcState) (u g : ℕ) : Type 0 where
  pub waits : waits_for d s u g ≡ true
  pub first : (h : ℕ) → waits_for d s u h ≡ true → IsBefore d s g h

-- the place is none of those that round r, from 0, with so many inputs goes to
abbrev pub IsElsewhere : Option configured.Group → (r inputs place : ℕ) → Type 0
IsElsewhere k r inputs p = (j : ℕ) → j < inputs → p ≢ j * samples_of k + place_in k r

-- Round r, from 0, was stored in this buffer of a group: its value j stands at place j * N + (r mod N), and no other place has changed.
pub record IsStored (k : Option configured.Group) (r g : ℕ) (b : ResultBuffer) (values : List ℕ) (before after : Results) : Type 0 where
  pub values_at : (j v : ℕ) → slice_get values j ≡ Some v → held_in after g b (j * samples_of k + place_in k r) ≡ v
  pub places : (p : ℕ) → IsElsewhere k r (length values) p → held_in after g b p ≡ held_in before g b p
  pub groups : (h : ℕ) (c : ResultBuffer) (p : ℕ) → h ≢ g → held_in after h c p ≡ held_in before h c p
  pub buffers : (c : ResultBuffer) (p : ℕ) → c ≢ b → held_in after g c p ≡ held_in before g c p

-- it is neither a serving of a unit's line nor a reset
abbrev pub StoresNothing : Happening Call → Type 0
StoresNothing (Serves l received) = is_unit_line l ≡ false
StoresNothing (Restarts reason) = ⊥
StoresNothing _ = Unit {0}

-- ---- requests

-- the number of a request, or of a round's one, is at most this
abbrev pub IsUpTo : ℕ → Option Request → Type 0
IsUpTo n None = Unit {0}
IsUpTo n (Some q) = q.number ≤ n

abbrev pub IsRoundUpTo : ℕ → Option Round → Type 0
IsRoundUpTo n None = Unit {0}
IsRoundUpTo n (Some r) = r.request.number ≤ n

-- No request that waits or runs has a greater number than the last one.
pub record IsNumbered (s : AdcState) : Type 0 where
  pub waiting : (g : ℕ) → IsUpTo s.requests (group_at s g).waiting
  pub running : (u : ℕ) → IsRoundUpTo s.requests (round_at s u)

-- The group waits with a request that was just made, and whose number is greater by one than all before.
pub record HasRequested (before after : AdcState) (g : ℕ) : Type 0 where
  pub waits : (group_at after g).waiting ≡ Some (record { number = before.requests + 1; kept = [] })
  pub last : after.requests ≡ before.requests + 1

-- it is neither a start of a group, nor a serving of a trigger's line, nor a reset
abbrev pub is_start : Call → Bool
is_start (Group g StartGroupConversion) = true
is_start _ = false

abbrev pub MakesNoRequest : Happening Call → Type 0
MakesNoRequest (Acts call times) = is_start call ≡ false
MakesNoRequest (Serves l received) = is_trigger_line l ≡ false
MakesNoRequest (Restarts reason) = ⊥
MakesNoRequest _ = Unit {0}

-- it isn't a reset
abbrev pub IsNoReset : Happening Call → Type 0
IsNoReset (Restarts reason) = ⊥
IsNoReset _ = Unit {0}

-- ---- aborts

-- The round of a unit was aborted: the unit is free, and the group waits with the old number. Under suspend and resume it keeps exactly the values that had ended, and otherwise none.
pub record IsAborted (d : AdcTable) (w : World) (u : ℕ) (r : Round) (after : AdcState) : Type 0 where
  pub free : round_at after u ≡ None
  pub waits : (group_at after r.group).waiting ≡ Some (record { number = r.request.number; kept = kept_of w (group_of d r.group) r })
  pub suspended : suspends (group_of d r.group) ≡ true → HasEnded w (group_of d r.group) r (kept_of w (group_of d r.group) r)
  pub restarted : suspends (group_of d r.group) ≡ false → kept_of w (group_of d r.group) r ≡ []

-- ---- runs

-- something happens, with this outside
pub record Step : Type 0 where
  pub world : World
  pub happening : Happening Call

-- the state after what happens; what isn't allowed changes nothing
abbrev pub state_after : AdcTable → AdcState → List Step → AdcState
state_after d s [] = s
state_after d s (x ∷ xs) = state_after d (state_by s (happens d x.world s x.happening)) xs

-- No request waits, no trigger is enabled, no unit has a round, and no mark stands.
pub record IsAtRest (s : AdcState) : Type 0 where
  pub waiting : (g : ℕ) → (group_at s g).waiting ≡ None
  pub triggers : (g : ℕ) → (group_at s g).trigger ≡ false
  pub rounds : (u : ℕ) → round_at s u ≡ None
  pub marks : (i : ℕ) → mark_at s i ≡ false

-- ---- calls

-- A group was stopped: it is idle, without a turn, an enabled trigger or a notification, and its trigger input has no mark. No result has changed.
pub record IsStopped (d : AdcTable) (g : ℕ) (before after : AdcState) : Type 0 where
  pub idle : (group_at after g).status ≡ Idle
  pub turn : has_turn after g ≡ false
  pub trigger : (group_at after g).trigger ≡ false
  pub notification : (group_at after g).notification ≡ false
  pub mark : (i : ℕ) → has_input i (group_of d g) ≡ true → mark_at after i ≡ false
  pub results : after.results ≡ before.results

-- The newest round was asked for: a completed group is busy, and one whose stream was completed is idle where it ends with its stream, and busy otherwise. Of a busy one nothing has changed.
pub record IsRead (d : AdcTable) (g : ℕ) (before after : AdcState) : Type 0 where
  pub completed : (group_at before g).status ≡ Completed → (group_at after g).status ≡ Busy
  pub ended : (group_at before g).status ≡ StreamCompleted → ends_with_stream (group_of d g) ≡ true → (group_at after g).status ≡ Idle
  pub going : (group_at before g).status ≡ StreamCompleted → ends_with_stream (group_of d g) ≡ false → (group_at after g).status ≡ Busy
  pub busy : (group_at before g).status ≡ Busy → after ≡ before

-- Each group is untouched, but for what it has chosen where that is kept; no unit has a round, no mark stands, and no result has changed.
pub record IsCleared (choices : Bool) (before after : AdcState) : Type 0 where
  pub groups : (g : ℕ) → g < 16 → group_at after g ≡ record untouched { chosen = cond choices (group_at before g).chosen None }
  pub rounds : (u : ℕ) → round_at after u ≡ None
  pub marks : (i : ℕ) → mark_at after i ≡ false
  pub results : after.results ≡ before.results
