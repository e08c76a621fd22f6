-- Groups: their statuses, their rounds, and the places that results are stored at.
use Rattle.std.specs.Prelude.{ℕ, ◌+◌, ◌*◌, ◌-◌, ◌/◌, ◌%◌, ◌==◌, nat_le, Bool, true, false, ◌&&◌, not, cond, List, [], ◌∷◌, ◌++◌, length, take, drop, Option, Some, None, is_some, slice_index_or}
use Rattle.mcal_base.specs.declared.answer_name.AnswerName.{AnswerName}
use Rattle.mcal_base.specs.declared.answer_name.AnswerName.TheVariants as names
use Rattle.run_model.specs.World.{World, Sample, sample_at, with_at}
use Rattle.adc_machine.specs.declared.call.ResultBuffer.{ResultBuffer}
use Rattle.adc_machine.specs.declared.call.ResultBuffer.TheVariants.{Zero, One}
use Rattle.adc_machine.specs.declared.table.Group.{Group}

-- ---- what is configured of a group

-- its inputs in their order; a group that isn't configured has none
abbrev pub inputs_of : Option Group → List ℕ
inputs_of None = []
inputs_of (Some k) = k.inputs

-- the rounds that its buffers have places for
abbrev pub samples_of : Option Group → ℕ
samples_of None = 1
samples_of (Some k) = k.samples

abbrev pub is_continuous : Option Group → Bool
is_continuous None = false
is_continuous (Some k) = k.continuous

abbrev pub is_linear_stream : Option Group → Bool
is_linear_stream None = false
is_linear_stream (Some k) = k.linear

abbrev pub suspends : Option Group → Bool
suspends None = false
suspends (Some k) = k.suspends

-- its trigger input, where it is triggered by hardware
abbrev pub trigger_input : Option Group → Option ℕ
trigger_input None = None
trigger_input (Some k) = k.trigger

-- ---- a group and its rounds

-- `Adc_StatusType`
pub data Status : Type 0 where
  Idle : Status
  Busy : Status
  Completed : Status
  StreamCompleted : Status

-- A request: its number, and the values of the inputs that had ended where its round was aborted.
pub record Request : Type 0 where
  pub number : ℕ
  pub kept : List ℕ

-- A group.
pub record GroupState : Type 0 where
  pub status : Status
  -- the result buffer that was set up last
  pub chosen : Option ResultBuffer
  -- whether its notification is on, and whether its hardware trigger is enabled
  pub notification : Bool
  pub trigger : Bool
  -- the rounds that were served since its start, the newest one last
  pub rounds : List (List ℕ)
  -- its request, while it waits
  pub waiting : Option Request

-- A round under way: the group, its request, and the time at which it was started or resumed.
pub record Round : Type 0 where
  pub group : ℕ
  pub request : Request
  pub start : ℕ

-- a group after Adc_Init
abbrev pub untouched : GroupState
untouched = record { status = Idle; chosen = None; notification = false; trigger = false; rounds = []; waiting = None }

-- ---- the values of a round

-- the inputs that a round still had to convert when it was started or resumed
abbrev pub inputs_left : Option Group → Round → List ℕ
inputs_left k r = drop (length r.request.kept) (inputs_of k)

-- the levels of these inputs, the first one 4 ticks after this time, and each further one 4 ticks later
abbrev pub levels_from : List Sample → (time : ℕ) → List ℕ → List ℕ
levels_from samples time [] = []
levels_from samples time (i ∷ is) = sample_at samples i (time + 4) ∷ levels_from samples (time + 4) is

-- the values of the whole round: those that were kept, and the levels of the further inputs
abbrev pub values_of : World → Option Group → Round → List ℕ
values_of w k r = r.request.kept ++ levels_from w.samples r.start (inputs_left k r)

-- the values of the inputs that have ended: those that were kept, and one more for each 4 ticks
abbrev pub ended_values : World → Option Group → Round → List ℕ
ended_values w k r = r.request.kept ++ levels_from w.samples r.start (take ((w.now - r.start) / 4) (inputs_left k r))

-- the round is finished 4 ticks for each input after its start
abbrev pub finish_of : Option Group → Round → ℕ
finish_of k r = r.start + 4 * length (inputs_left k r)

abbrev pub is_finished : World → Option Group → Round → Bool
is_finished w k r = nat_le (finish_of k r) w.now

-- ---- statuses

abbrev pub name_of : Status → AnswerName
name_of Idle = names.AdcIdle
name_of Busy = names.AdcBusy
name_of Completed = names.AdcCompleted
name_of StreamCompleted = names.AdcStreamCompleted

abbrev pub is_idle : Status → Bool
is_idle Idle = true
is_idle _ = false

-- the status after a round, by whether it went to the last place of the stream
abbrev pub status_after : (last : Bool) → Status → Status
status_after true status = StreamCompleted
status_after false StreamCompleted = StreamCompleted
status_after false _ = Completed

-- the status after the newest round was read, by whether the group ends with its stream
abbrev pub status_read : (ends : Bool) → Status → Status
status_read true StreamCompleted = Idle
status_read ends _ = Busy

-- a one-shot group that is started by software and a linear stream end with their stream
abbrev pub ends_with_stream : Option Group → Bool
ends_with_stream (Some k) = cond k.linear true (not k.continuous && not (is_some k.trigger))
ends_with_stream None = false

-- a linear stream is full after so many rounds
abbrev pub is_full : Option Group → (rounds : ℕ) → Bool
is_full k rounds = is_linear_stream k && nat_le (samples_of k) rounds

-- the newest round
abbrev pub newest : List (List ℕ) → List ℕ
newest rounds = slice_index_or rounds (length rounds - 1) []

-- ---- places

-- the place of a stream of so many samples that round r, from 0, goes to
abbrev pub place_in : Option Group → ℕ → ℕ
place_in k r = r % samples_of k

-- these values stored at this place, and at each one that is so many further
abbrev pub stored_from : (place step : ℕ) → List ℕ → (ℕ → ℕ) → ℕ → ℕ
stored_from place step [] held = held
stored_from place step (v ∷ vs) held = stored_from (place + step) step vs (with_at held place v)

abbrev pub is_same : ResultBuffer → ResultBuffer → Bool
is_same Zero Zero = true
is_same One One = true
is_same _ _ = false

-- A round that was stored in a buffer of a group: its first value at this place, and each further one so many places on.
pub record StoredRound : Type 0 where
  pub group : ℕ
  pub buffer : ResultBuffer
  pub place : ℕ
  pub step : ℕ
  pub values : List ℕ

-- all of them, the last one first
abbrev pub Results : Type 0
Results = List StoredRound

-- what each place of each buffer of each group holds, 0 before anything was stored there
abbrev pub held_in : Results → (group : ℕ) → ResultBuffer → (place : ℕ) → ℕ
held_in [] = λ h c p. 0
held_in (x ∷ xs) = λ h c. cond (h == x.group && is_same c x.buffer) (stored_from x.place x.step x.values (held_in xs x.group x.buffer)) (held_in xs h c)

-- the results with round r, from 0, of a group: input number j, from 0, stands at place j * N + (r mod N) of the chosen buffer
abbrev pub with_round_of : Option Group → (r : ℕ) → (group : ℕ) → Option ResultBuffer → List ℕ → Results → Results
with_round_of k r g None values held = held
with_round_of k r g (Some b) values held = record { group = g; buffer = b; place = place_in k r; step = samples_of k; values = values } ∷ held
