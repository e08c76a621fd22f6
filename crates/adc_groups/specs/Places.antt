-- How a frame stands at each place: what it holds, and what is known there.
use Rattle.std.specs.Prelude.{◌≡◌, ◌≢◌, ℕ, ◌+◌, ◌-◌, ◌%◌, ◌<◌, ◌≤◌, ◌==◌, nat_le, min, if◌then◌else◌, Bool, true, false, ◌&&◌, List, [], ◌∷◌, ◌++◌, Option, Some, None, is_some, length, map, take, drop, ◌⊎◌, ◌*◌, slice_index, slice_index_or}
use Rattle.std.specs.List.{list_any}
use Rattle.mcal_base.specs.declared.answer_name.AnswerName.TheVariants.{EOk}
use Rattle.mcal_base.specs.Bits.{bit_of}
use Rattle.mcal_base.specs.declared.moves.Event.{Event}
use Rattle.mcal_base.specs.declared.moves.Event.TheVariants as events
use Rattle.mcal_base.specs.declared.notice.NoticeKind.TheVariants.{AdcNotification}
use Rattle.run_model.specs.Frame.{Origin, Called, Entered}
use Rattle.run_model.specs.Machine.{no_answer, named, named_with, numbers}
use Rattle.run_model.specs.World.{World}
use Rattle.service_outline.specs.DeferredWrites.{deferring_writes, Under, Windows, windows as windows_of}
use Rattle.service_outline.specs.FrameHistory.{FrameHistory, fresh_history, IsThisFrame}
use Rattle.service_outline.specs.Services.{SharedRefinement, PointAssertion, Within, Outside, Looking, LongBodies}
use Rattle.service_outline.specs.declared.done.Done.{Done}
use Rattle.service_outline.specs.declared.done.Epilogue.TheVariants.{Nothing}
use Rattle.word_shapes.specs.Order.{Entry, choice, chosen, waiting}
use Rattle.word_shapes.specs.Playing.{Ends}
use Rattle.word_shapes.specs.PriorityQueue.{Holds as HoldsOrder, own_of, choosing_front, choosing_next}
use Rattle.word_shapes.specs.declared.choosing.Front.{Front}
use Rattle.word_shapes.specs.TripleBuffer.{free, put_start, take_left}
use Rattle.word_shapes.specs.declared.take.Take.{Take}
use Rattle.word_shapes.specs.declared.take.Take.TheVariants as takes
use Rattle.word_shapes.specs.declared.choosing.Next.{Next}
use Rattle.word_shapes.specs.declared.put.PutPart.TheVariants as puts
use Rattle.word_shapes.specs.streams.Copying.{count_of}
use Rattle.word_shapes.specs.streams.Rounds.{bank_number, bank_of, trio_of}
use Rattle.word_shapes.specs.streams.Stream.{one_more}
use Rattle.word_shapes.specs.declared.streams.copying.Copied as streams
use Rattle.word_shapes.specs.declared.streams.copying.Copied.TheVariants as copied
use Rattle.word_shapes.specs.declared.streams.copying.Copying.{Copying}
use Rattle.word_shapes.specs.declared.streams.rounds.Bank.TheVariants.{Zero}
use Rattle.adc_groups.specs.Refinement.{Reservation, Starts, Yields, Fills, Full, Keeps, Whole, Claims, Copies, Reads, Reservations, Footprint, bare, some_hold, claims_on, phase_of, kept_in, take_of, first_held, IsOrder}
use Rattle.adc_machine.specs.Groups.{Status, Idle, Busy, Completed, StreamCompleted, Round, inputs_of, samples_of, is_finished, is_full, status_read, ends_with_stream, place_in}
use Rattle.adc_machine.specs.Machine.{is_done, is_under_way, is_start_busy, is_busy, takes_one, is_unit_line}
use Rattle.adc_groups.specs.PendingWrites.{PendingWrites, owed_of, making_owed}
use Rattle.adc_machine.specs.Configured.{unit_of, four_from, ranks_of, is_of}
use Rattle.adc_groups.specs.Stored.{word_number, phase_number, order_of, rounds_of}
use Rattle.adc_machine.specs.Table.{group_of}
use Rattle.adc_machine.specs.Triggers.{has_input, mark_at, listener}
use Rattle.adc_machine.specs.Turns.{AdcState, group_at, round_at, is_on, has_turn, is_round_of, number_of, starts, is_outranked, next_group}
use Rattle.adc_machine.specs.Words.{buffer_number}
use Rattle.adc_groups.specs.declared.body.AdcBody.{AdcBody}
use Rattle.adc_groups.specs.declared.body.Place.{Place}
use Rattle.adc_groups.specs.declared.body.Place.TheVariants.{Flag, Looks, Surveys, Seeks, Chooses, Pins, Reads as ReadsPlace, Aborts, Makes, Quits, Opens, Out}
use Rattle.adc_machine.specs.declared.call.Call.{Call}
use Rattle.adc_machine.specs.declared.call.Call.TheVariants as calls
use Rattle.adc_machine.specs.declared.call.GroupCall.{GroupCall}
use Rattle.adc_machine.specs.declared.call.GroupCall.TheVariants.{SetupResultBuffer, StartGroupConversion, StopGroupConversion, ReadGroup, EnableHardwareTrigger, DisableHardwareTrigger, Notification, GetGroupStatus, GetStreamLastPointer}
use Rattle.adc_machine.specs.declared.call.ResultBuffer.{ResultBuffer}
use Rattle.adc_machine.specs.declared.table.AdcTable.{AdcTable}
use Rattle.adc_groups.specs.declared.making.WindowWrite.{WindowWrite}
use Rattle.adc_groups.specs.declared.making.WindowWrite.TheVariants as deeds
use Rattle.adc_groups.specs.declared.making.WriteBatch.{WriteBatch}
use Rattle.adc_groups.specs.declared.making.StructureOp.{StructureOp}
use Rattle.adc_groups.specs.declared.making.StructureOp.TheVariants as shapes
use Rattle.adc_groups.specs.declared.making.Continuation.{Continuation}
use Rattle.adc_groups.specs.declared.making.Continuation.TheVariants as thens
use Rattle.adc_groups.specs.declared.outside.Copied.{Copied}
use Rattle.adc_groups.specs.declared.outside.Copied.TheVariants.{Serves, Tells, Keeps as KeepsThem}
use Rattle.adc_groups.specs.declared.outside.Outside.{Outside as OutPlace}
use Rattle.adc_groups.specs.declared.outside.Outside.TheVariants as outsides
use Rattle.adc_groups.specs.declared.outside.Taken.{Taken}
use Rattle.adc_groups.specs.declared.service.read.Newest.{Newest}
use Rattle.adc_groups.specs.declared.service.serve.RoundSeen.{RoundSeen}
use Rattle.adc_groups.specs.declared.service.read.Stage.{Stage}
use Rattle.adc_groups.specs.declared.service.read.Stage.TheVariants as stages
use Rattle.adc_groups.specs.declared.window.Window.{Window}
use Rattle.adc_groups.specs.declared.window.Window.TheVariants as windows
use Rattle.adc_groups.specs.declared.words.Phase.{Phase}
use Rattle.adc_groups.specs.declared.words.Word.TheVariants as words
use Rattle.adc_groups.specs.laws.services.BodySteps.{body_work, body_takes, pin_of}
use Rattle.adc_groups.specs.laws.services.Decisions.{clean_in, unit_in, done, start, enable, close, pulse_by, quieted, stop_by, nothing_more, round_seen, serving, lists_for, moves_ahead, conversion}
use Rattle.adc_groups.specs.laws.services.LookSteps.{is_wrong}
use Rattle.adc_groups.specs.laws.services.WriteBatchSteps.{making}
use Rattle.adc_groups.specs.laws.words.WindowWords.{words_of}

-- ---- what a frame is, and what it has done

-- a call about a group, of an initialised module, that nothing in its arguments forbids
pub record MayCall (d : AdcTable) (s : AdcState) (g : ℕ) (call : GroupCall) : Type 0 where
  pub on : s.initialised ≡ true
  pub there : is_some (group_of d g) ≡ true
  pub right : is_wrong call (group_of d g) ≡ false

abbrev pub IsCalling : AdcTable → AdcState → ℕ → GroupCall → Origin Call → FrameHistory → Type 0
IsCalling d s g call o p = IsThisFrame (Called (calls.Group g call)) fresh_history o p × MayCall d s g call

-- a call whose answer is empty has acted, or a handler has served its line; and it owes no notice
abbrev pub acted : FrameHistory
acted = record fresh_history { acted = Some no_answer }

abbrev pub has_served : ℕ → FrameHistory
has_served l = record fresh_history { served = l ∷ [] }

-- a handler of a unit's line serves this unit alone, which no frame below claims
abbrev pub MayTurn : (unit line : ℕ) → Reservations → Type 0
MayTurn u l below = is_unit_line l ≡ true → (l ≡ 24 + u) × (some_hold (claims_on u) below ≡ false)

-- what it has done leaves it this unit to start
pub data HasDone (u : ℕ) (below : Reservations) (o : Origin Call) (p : FrameHistory) : Type 0 where
  Has_acted : (c : Call) → IsThisFrame (Called c) acted o p → HasDone u below o p
  Has_served : (l : ℕ) → MayTurn u l below → IsThisFrame (Entered l) (has_served l) o p → HasDone u below o p

-- the calls that stop a group
abbrev pub IsStop : GroupCall → Type 0
IsStop StopGroupConversion = Unit {0}
IsStop DisableHardwareTrigger = Unit {0}
IsStop _ = ⊥

-- a handler that has served nothing yet
abbrev pub IsServing : ℕ → Origin Call → FrameHistory → Type 0
IsServing l o p = IsThisFrame (Entered l) fresh_history o p

-- it has served its line, and owes this notice
abbrev pub owes_note : (line group : ℕ) → FrameHistory
owes_note l g = record (has_served l) { owed = record { notice = record { kind = AdcNotification; id = g }; served = true } ∷ [] }

-- no frame below is the handler of this line
abbrev pub IsAlone : (line : ℕ) → Reservations → Type 0
IsAlone l [] = Unit {0}
IsAlone l (h ∷ hs) = (h.by ≢ Entered l) × IsAlone l hs

-- and none claims the unit either
abbrev pub IsAtUnit : (unit : ℕ) → Reservations → Type 0
IsAtUnit u below = IsAlone (24 + u) below × (some_hold (claims_on u) below ≡ false)

-- no frame below reads a bank of this group
abbrev pub IsOnlyReader : (group : ℕ) → Reservations → Type 0
IsOnlyReader g below = first_held (take_of g) below ≡ None

-- ---- windows

-- what a frame holds in a window
abbrev pub hold_in : Window → List Reservation
hold_in (windows.Yield u) = Yields u ∷ Starts u ∷ []
hold_in (windows.Suspend u g) = Yields u ∷ Starts u ∷ []
hold_in (windows.Keep r) = Whole r.unit r.group r.kept ∷ Starts r.unit ∷ []
hold_in (windows.Begin u) = Starts u ∷ []
hold_in (windows.Leave u) = Claims u ∷ Starts u ∷ []
hold_in (windows.Convert u g false) = Starts u ∷ []
hold_in (windows.Convert u g true) = Claims u ∷ Starts u ∷ []
hold_in (windows.Serve t) = Full t.unit t.group t.bank ∷ Starts t.unit ∷ []
hold_in w = []

-- the unit has a round of this group, which isn't finished where nobody has seen that; no frame claims the unit
pub record IsOutranked (d : AdcTable) (s : AdcState) (u g : ℕ) : Type 0 where
  pub round : Round
  pub is : round_at s u ≡ Some round
  pub group : round.group ≡ g

-- this group waits first on the unit, which is free
abbrev pub IsFirst : AdcTable → AdcState → (unit group : ℕ) → Type 0
IsFirst d s u g = (round_at s u ≡ None) × (is_on u (group_of d g) ≡ true) × (is_some (group_at s g).waiting ≡ true) × (starts d s u ≡ Some g)

-- a finished round of the group is there
pub record IsTaken (d : AdcTable) (w : World) (s : AdcState) (u g : ℕ) : Type 0 where
  pub round : Round
  pub is : round_at s u ≡ Some round
  pub group : round.group ≡ g
  pub finished : is_finished w (group_of d g) round ≡ true

-- what is known in a window
abbrev pub InWindow : AdcTable → Window → Reservations → World → AdcState → Origin Call → FrameHistory → Type 0
InWindow d windows.Close below w s o p = IsThisFrame (Called calls.DeInit) fresh_history o p × (s.initialised ≡ true) × (below ≡ [])
InWindow d (windows.Setup g b) below w s o p = IsCalling d s g (SetupResultBuffer (Some b)) o p
InWindow d (windows.Status g) below w s o p = IsCalling d s g GetGroupStatus o p
InWindow d (windows.Point g) below w s o p = IsCalling d s g GetStreamLastPointer o p
InWindow d (windows.Read g) below w s o p = IsCalling d s g ReadGroup o p × IsOnlyReader g below
InWindow d (windows.Start g) below w s o p = IsCalling d s g StartGroupConversion o p
InWindow d (windows.Enable g) below w s o p = IsCalling d s g EnableHardwareTrigger o p
InWindow d (windows.Stop u g) below w s o p = (is_on u (group_of d g) ≡ true) × ((call : GroupCall) × IsStop call × IsCalling d s g call o p)
InWindow d (windows.Yield u) below w s o p = HasDone u below o p × (u < 2) × (s.initialised ≡ true)
InWindow d (windows.Suspend u g) below w s o p = HasDone u below o p × (u < 2) × (s.initialised ≡ true) × (some_hold (claims_on u) below ≡ false) × IsOutranked d s u g × (is_outranked d s u g ≡ true)
InWindow d (windows.Keep r) below w s o p = HasDone r.unit below o p × (r.unit < 2) × (s.initialised ≡ true)
InWindow d (windows.Begin u) below w s o p = HasDone u below o p × (u < 2) × (s.initialised ≡ true)
InWindow d (windows.Leave u) below w s o p = IsServing (24 + u) o p × (u < 2) × (s.initialised ≡ true) × IsAlone (24 + u) below × (round_at s u ≡ None)
InWindow d (windows.Convert u g false) below w s o p = HasDone u below o p × (u < 2) × (s.initialised ≡ true) × (some_hold (claims_on u) below ≡ false) × IsFirst d s u g
InWindow d (windows.Convert u g true) below w s o p = IsServing (24 + u) o p × (u < 2) × (s.initialised ≡ true) × IsAlone (24 + u) below × IsFirst d s u g
InWindow d (windows.Take u) below w s o p = IsServing (24 + u) o p × (u < 2) × IsAlone (24 + u) below × (is_done d w (round_at s u) ≡ true)
InWindow d (windows.Claim t) below w s o p = IsServing (24 + t.unit) o p × (t.unit < 2) × IsAlone (24 + t.unit) below × IsTaken d w s t.unit t.group
InWindow d (windows.Serve t) below w s o p = IsServing (24 + t.unit) o p × (t.unit < 2) × IsAlone (24 + t.unit) below
InWindow d (windows.Trigger i g) below w s o p = IsServing (28 + i) o p × (i < 4) × (has_input i (group_of d g) ≡ true) × (mark_at s i ≡ true)

-- the words that a window has seen are those of the chip
abbrev pub seen_of : AdcTable → Footprint → Window → (many : ℕ) → List ℕ
seen_of d f w n = take n (map (λ x. f.word (word_number d x)) (words_of w))

-- the bank that a round is to be put into is neither the newest nor pinned
abbrev pub IsChosen : AdcTable → Footprint → Window → Type 0
IsChosen d f (windows.Claim t) = bank_number t.bank ≡ free (f.word (trio_of (rounds_of d t.group)).control)
IsChosen d f w = Unit {0}

abbrev pub HasSeen : AdcTable → Footprint → Window → List ℕ → Type 0
HasSeen d f w seen = (seen ≡ seen_of d f w (length seen)) × (length seen < length (words_of w)) × IsChosen d f w

-- a survey has come to this group, and none before it is under way
abbrev pub HasSurveyed : AdcTable → Window → AdcState → (group : ℕ) → Type 0
HasSurveyed d w s g = (is_of d (unit_in d w) g ≡ true) × ((h : ℕ) → h < g → is_of d (unit_in d w) h ≡ true → is_under_way s h ≡ false)

-- what a request that surveys has looked at before
abbrev pub HasLooked : AdcTable → Window → AdcState → Type 0
HasLooked d windows.Close s = Unit {0}
HasLooked d (windows.Start g) s = (is_some (group_at s g).chosen ≡ true) × (is_under_way s g ≡ false) × (takes_one d ≡ true)
HasLooked d (windows.Enable g) s = (is_some (group_at s g).chosen ≡ true) × (is_under_way s g ≡ false) × (takes_one d ≡ true)
HasLooked d w s = ⊥

-- a window that seeks which request waits first on a unit will find the first of its order
abbrev pub sought_unit : Window → ℕ
sought_unit (windows.Suspend u g) = u
sought_unit (windows.Begin u) = u
sought_unit (windows.Leave u) = u
sought_unit w = 0

abbrev pub IsSeeking : AdcTable → Footprint → Window → Front → Type 0
IsSeeking d f w r = (n : ℕ) × (xs : List Entry) × (n ≤ 3) × HoldsOrder (order_of (sought_unit w)) f.word xs × Ends choosing_front (own_of (order_of (sought_unit w))) n r f.word (λ m found. HoldsOrder (order_of (sought_unit w)) m xs × (found ≡ choice (ranks_of d) xs ∷ []))

-- what it knows of the unit
abbrev pub MaySeek : AdcTable → Window → Reservations → World → AdcState → Origin Call → FrameHistory → Type 0
MaySeek d (windows.Suspend u g) below w s o p = HasDone u below o p × (u < 2) × (s.initialised ≡ true) × (some_hold (claims_on u) below ≡ false) × IsOutranked d s u g
MaySeek d (windows.Begin u) below w s o p = HasDone u below o p × (u < 2) × (s.initialised ≡ true) × (some_hold (claims_on u) below ≡ false) × (round_at s u ≡ None)
MaySeek d (windows.Leave u) below w s o p = IsServing (24 + u) o p × (u < 2) × (s.initialised ≡ true) × IsAlone (24 + u) below × (round_at s u ≡ None)
MaySeek d w below wd s o p = ⊥

-- ---- with the mask open

-- the parts of what is copied
abbrev pub kept_count : streams.Copied → ℕ
kept_count (copied.Round r u e b) = e
kept_count _ = 0

abbrev pub kept_from : streams.Copied → ℕ
kept_from (copied.Ended r u n e) = e
kept_from _ = 0

abbrev pub ended_count : streams.Copied → ℕ
ended_count (copied.Ended r u n e) = n
ended_count _ = 0

abbrev pub hold_bank : streams.Copied → (done : ℕ) → (value : Option ℕ) → List Reservation
hold_bank (copied.Bank r b c) i x = Copies b c i x ∷ []
hold_bank _ i x = []

-- what is held while values are copied, and the unit and the group that they are of
abbrev pub hold_copying : Copying → Copied → List Reservation
hold_copying c (Serves t) = Fills t.unit t.group (kept_count c.what) t.bank c.done c.value ∷ Starts t.unit ∷ []
hold_copying c (Tells u g on) = hold_bank c.what c.done c.value ++ Starts u ∷ []
hold_copying c (KeepsThem r) = Keeps r.unit r.group (kept_from c.what) (Some (ended_count c.what)) c.done c.value ∷ Starts r.unit ∷ []

abbrev pub hold_out : OutPlace → List Reservation
hold_out (outsides.Copies c a) = hold_copying c a
hold_out (outsides.Counts r) = Keeps r.unit r.group r.kept None 0 None ∷ Starts r.unit ∷ []
hold_out (outsides.Reads g b) = Reads g b [] ∷ []
hold_out (outsides.Notes g u) = Starts u ∷ []
hold_out (outsides.Closes w) = hold_in w

-- the copy that a frame makes is that of its errand
abbrev pub IsCopy : AdcTable → streams.Copied → Copied → Type 0
IsCopy d (copied.Round r u e b) (Serves t) = (r ≡ rounds_of d t.group) × (u ≡ t.unit) × (b ≡ t.bank) × (e < length (inputs_of (group_of d t.group)))
IsCopy d (copied.Bank r b c) (Tells u g on) = (r ≡ rounds_of d g) × (c.group ≡ g) × (c.samples ≡ samples_of (group_of d g)) × (c.place < c.samples)
IsCopy d (copied.Ended r u n e) (KeepsThem x) = (r ≡ rounds_of d x.group) × (u ≡ x.unit) × (x.kept ≡ e + n) × (e + n ≤ length (inputs_of (group_of d x.group)))
IsCopy d c a = ⊥

-- what a frame is that copies, and where it goes on
abbrev pub MayCopy : AdcTable → Reservations → Copied → Origin Call → FrameHistory → Type 0
MayCopy d below (Serves t) o p = IsServing (24 + t.unit) o p × IsAlone (24 + t.unit) below × (t.unit < 2) × (is_on t.unit (group_of d t.group) ≡ true)
MayCopy d below (Tells u g true) o p = IsThisFrame (Entered (24 + u)) (owes_note (24 + u) g) o p × IsAtUnit u below × (u < 2) × (is_on u (group_of d g) ≡ true)
MayCopy d below (Tells u g false) o p = IsThisFrame (Entered (24 + u)) (has_served (24 + u)) o p × IsAtUnit u below × (u < 2) × (is_on u (group_of d g) ≡ true)
MayCopy d below (KeepsThem r) o p = HasDone r.unit below o p × (r.unit < 2) × (is_on r.unit (group_of d r.group) ≡ true)

-- what is known with the mask open before a window
abbrev pub MayClose : AdcTable → Window → Reservations → Origin Call → FrameHistory → Type 0
MayClose d (windows.Yield u) below o p = HasDone u below o p × (u < 2)
MayClose d (windows.Begin u) below o p = HasDone u below o p × (u < 2)
MayClose d (windows.Keep r) below o p = HasDone r.unit below o p × (r.unit < 2) × (is_on r.unit (group_of d r.group) ≡ true)
MayClose d (windows.Serve t) below o p = IsServing (24 + t.unit) o p × IsAlone (24 + t.unit) below × (t.unit < 2) × (is_on t.unit (group_of d t.group) ≡ true)
MayClose d w below o p = ⊥

abbrev pub place_out : AdcTable → OutPlace → Reservations → Origin Call → FrameHistory → Type 0
place_out d (outsides.Copies c a) below o p = IsCopy d c.what a × (c.done < count_of c.what) × MayCopy d below a o p
place_out d (outsides.Counts r) below o p = HasDone r.unit below o p × (r.unit < 2) × (is_on r.unit (group_of d r.group) ≡ true) × (r.kept ≤ length (inputs_of (group_of d r.group)))
place_out d (outsides.Reads g b) below o p = IsOnlyReader g below × ((whole : List ℕ) × IsThisFrame (Called (calls.Group g ReadGroup)) (record fresh_history { acted = Some (named_with EOk whole) }) o p)
place_out d (outsides.Notes g u) below o p = IsThisFrame (Entered (24 + u)) (owes_note (24 + u) g) o p × IsAtUnit u below × (u < 2) × (is_on u (group_of d g) ≡ true)
place_out d (outsides.Closes w) below o p = MayClose d w below o p

-- ---- what comes after the moves of a window

-- a frame that ends with this has acted, and owes nothing
pub data MayLeave (o : Origin Call) (p : FrameHistory) (n : Done) : Type 0 where
  Leaves_acted : (c : Call) → IsThisFrame (Called c) (record fresh_history { acted = Some n.answer }) o p → n.owed ≡ Nothing → MayLeave o p n

abbrev pub hold_then : Continuation → List Reservation
hold_then (thens.Ends n) = []
hold_then (thens.Goes o) = hold_out o

abbrev pub place_then : AdcTable → Continuation → Reservations → Origin Call → FrameHistory → Type 0
place_then d (thens.Ends n) below o p = MayLeave o p n
place_then d (thens.Goes o) below o1 p = place_out d o below o1 p

-- ---- moves before which an event stands

-- what a question for the pointer is answered with
abbrev pub pointed : AdcTable → AdcState → ℕ → List ℕ
pointed d s g = min (length (group_at s g).rounds) (samples_of (group_of d g)) ∷ place_in (group_of d g) (length (group_at s g).rounds - 1) ∷ []

-- the group has a buffer, and neither it nor, where a unit takes one group at a time, another one of its unit is under way
pub record MayStart (d : AdcTable) (s : AdcState) (g : ℕ) : Type 0 where
  pub chosen : is_some (group_at s g).chosen ≡ true
  pub quiet : is_under_way s g ≡ false
  pub free : is_start_busy d s g ≡ false

-- the input is marked, and the group listens to it
pub record MayPulse (d : AdcTable) (s : AdcState) (i g : ℕ) : Type 0 where
  pub on : s.initialised ≡ true
  pub few : i < 4
  pub there : is_some (group_of d g) ≡ true
  pub marked : mark_at s i ≡ true
  pub listens : listener d s i ≡ Some g

-- a call is to make its change
pub data IsDealing (d : AdcTable) (below : Reservations) (foot : Footprint) (w : World) (s : AdcState) (o : Origin Call) (p : FrameHistory) : WriteBatch → Type 0 where
  Sets_up : (g : ℕ) (b : ResultBuffer) → IsCalling d s g (SetupResultBuffer (Some b)) o p → (group_at s g).status ≡ Idle
      → IsDealing d below foot w s o p (making (Some events.Act) (deeds.Set (words.Chosen g) (1 + buffer_number b) ∷ []) (thens.Ends (done (named EOk))))
  Notifies : (g : ℕ) (on : Bool) → IsCalling d s g (Notification on) o p
      → IsDealing d below foot w s o p (making (Some events.Act) (deeds.Set (words.Notified g) (bit_of on) ∷ []) (thens.Ends (done no_answer)))
  Points : (g : ℕ) (status : Status) → IsCalling d s g GetStreamLastPointer o p → (group_at s g).status ≡ status → (status ≡ Busy → ⊥) → (status ≡ Idle → ⊥)
      → IsDealing d below foot w s o p (making (Some events.Act) (deeds.Set (words.Phase g) (phase_of (status_read (ends_with_stream (group_of d g)) status) true) ∷ []) (thens.Ends (done (numbers (pointed d s g)))))
  Begins_stream : (g : ℕ) → IsCalling d s g StartGroupConversion o p → MayStart d s g → IsDealing d below foot w s o p (start d g)
  Enables_trigger : (g : ℕ) → IsCalling d s g EnableHardwareTrigger o p → MayStart d s g → IsDealing d below foot w s o p (enable d g)
  -- a group is stopped that has no turn, or one
  Stops : (g : ℕ) (call : GroupCall) → IsStop call → IsCalling d s g call o p → ((group_at s g).status ≡ Idle → ⊥) → has_turn s g ≡ false → IsDealing d below foot w s o p (making (Some events.Act) (quieted d g) nothing_more)
  Stops_turn : (g : ℕ) (call : GroupCall) (run lost : Bool) → IsStop call → IsCalling d s g call o p → ((group_at s g).status ≡ Idle → ⊥) → has_turn s g ≡ true → is_round_of g (round_at s (unit_of (group_of d g))) ≡ run → (foot.word (word_number d (words.Claim (unit_of (group_of d g)))) == 2 + g) ≡ lost
      → IsDealing d below foot w s o p (stop_by d (unit_of (group_of d g)) g run lost)
  -- no group is under way, and no frame of the module is below
  Closes_module : IsThisFrame (Called calls.DeInit) fresh_history o p → s.initialised ≡ true → is_busy d s calls.DeInit ≡ false → below ≡ [] → IsDealing d below foot w s o p close
  -- a handler serves the pulse of an input, for the group that listens to it
  Pulses : (i g : ℕ) (turned : Bool) → IsServing (28 + i) o p → MayPulse d s i g → has_turn s g ≡ turned → IsDealing d below foot w s o p (pulse_by d i g turned)

-- ---- a start

-- a claim ends with it
abbrev pub ends_claim : WindowWrite → Bool
ends_claim (deeds.Set (words.Claim u) v) = true
ends_claim x = false

-- the group that waits first on a unit starts, with so many inputs that are left
pub record IsStart (d : AdcTable) (below : Reservations) (w : World) (s : AdcState) (o : Origin Call) (p : FrameHistory) (u g e left : ℕ) (claimed : Bool) : Type 0 where
  pub window : InWindow d (windows.Convert u g claimed) below w s o p
  pub kept : length (kept_in d s g) ≡ e
  pub all : e + left ≡ length (inputs_of (group_of d g))

-- the list registers and the words of the unit after so many moves that name what they change
pub record HasMade (d : AdcTable) (f : Footprint) (u g e left : ℕ) (claimed : Bool) (made : ℕ) : Type 0 where
  pub lists : (i : ℕ) → i < made → i < lists_for left → slice_index (slice_index_or f.lists u []) i ≡ four_from (inputs_of (group_of d g)) (e + 4 * i)
  pub running : lists_for left < made → f.word (word_number d (words.Running u)) ≡ 1 + g
  pub claim : (claimed ≡ false) ⊎ (lists_for left + 1 < made) → f.word (word_number d (words.Claim u)) ≡ 0

-- first the order changes, and then the registers and words take what the round has
pub data IsStarting (d : AdcTable) (below : Reservations) (f : Footprint) (w : World) (s : AdcState) (o : Origin Call) (p : FrameHistory) (u : ℕ) : WriteBatch → Type 0 where
  Orders : (g e left : ℕ) (claimed : Bool) (n : ℕ) (r : Next) (xs : List Entry) → IsStart d below w s o p u g e left claimed → IsOrder d s u xs → choice (ranks_of d) xs ≡ g
      → Ends choosing_next (own_of (order_of u)) n r f.word (λ m ws. HoldsOrder (order_of u) m (chosen (choice (ranks_of d) xs) xs) × (ws ≡ choice (ranks_of d) xs ∷ [])) → HasMade d f u g e left claimed 0
      → IsStarting d below f w s o p u (record (conversion d u g e left claimed) { order = Some (shapes.Next r) })
  Prepares : (g e left : ℕ) (claimed : Bool) (made : ℕ) (xs : List Entry) → IsStart d below w s o p u g e left claimed → made ≤ moves_ahead left claimed → IsOrder d s u xs → HoldsOrder (order_of u) f.word (waiting g false xs) → HasMade d f u g e left claimed made
      → IsStarting d below f w s o p u (record (conversion d u g e left claimed) { order = None; made = made })

-- ---- readers and lines

-- a handler reads the register of its line
abbrev pub InFlag : AdcTable → Window → Reservations → Origin Call → FrameHistory → Type 0
InFlag d (windows.Take u) below o p = IsServing (24 + u) o p × (u < 2) × IsAlone (24 + u) below
InFlag d (windows.Trigger i g) below o p = IsServing (28 + i) o p × (i < 4) × (has_input i (group_of d g) ≡ true)
InFlag d w below o p = ⊥

-- the newest bank is to be pinned, of a group that has a round, and has this phase then
pub record IsPinning (d : AdcTable) (s : AdcState) (g : ℕ) (x : Phase) : Type 0 where
  pub status : Status
  pub is : (group_at s g).status ≡ status
  pub some : (status ≡ Completed) ⊎ (status ≡ StreamCompleted)
  pub phase : phase_number x ≡ phase_of (status_read (ends_with_stream (group_of d g)) status) true

abbrev pub IsReading : AdcTable → ℕ → List ℕ → Origin Call → FrameHistory → Type 0
IsReading d g whole o p = IsThisFrame (Called (calls.Group g ReadGroup)) (record fresh_history { acted = Some (named_with EOk whole) }) o p

abbrev pub AdcGround : AdcTable → SharedRefinement AdcState Call
AdcGround d = deferring_writes (bare d) (making_owed d)

-- the pin is to end, by the control word
abbrev pub IsReleasing : AdcTable → ℕ → (ℕ → ℕ) → Take → Type 0
IsReleasing d g word (takes.Release c) = c ≡ (trio_of (rounds_of d g)).control
IsReleasing d g word (takes.Free c v) = (c ≡ (trio_of (rounds_of d g)).control) × (v ≡ word c % 4)
IsReleasing d g word r = ⊥

abbrev pub read_spot : (d : AdcTable) → Newest → Stage → PointAssertion (AdcGround d)
read_spot d n stages.Reads = Outside (Reads n.group n.reading.bank n.reading.values ∷ []) (λ below o p. (n.reading.rounds ≡ rounds_of d n.group) × (length n.reading.values < n.reading.rounds.inputs) × IsOnlyReader n.group below × ((whole : List ℕ) × IsReading d n.group whole o p))
read_spot d n stages.Shuts = Outside (Reads n.group n.reading.bank n.reading.values ∷ []) (λ below o p. (n.reading.rounds ≡ rounds_of d n.group) × IsOnlyReader n.group below × IsReading d n.group n.reading.values o p)
read_spot d n (stages.Releases t) = Within (Under None) (Reads n.group n.reading.bank n.reading.values ∷ []) (λ below f w s o p. (n.reading.rounds ≡ rounds_of d n.group) × IsOnlyReader n.group below × IsReading d n.group n.reading.values o p × IsReleasing d n.group f.word t)
read_spot d n stages.Leaves = Within (Under None) [] (λ below f w s o p. IsReading d n.group n.reading.values o p)
read_spot d n stages.Over = Outside [] (λ below o p. ⊥)

-- ---- how it stands

-- so many of a making were made: what is owed then
abbrev pub owes_making : AdcTable → WriteBatch → Option PendingWrites
owes_making d m = if is_some m.event && nat_le m.made m.ahead then None else owed_of d m.order m.banks (drop m.made m.deeds) m.after

abbrev pub owes_at : AdcTable → Place → Option PendingWrites
owes_at d (Makes m) = owes_making d m
owes_at d k = None

-- a call is to pin the newest bank, as the control word has it
abbrev pub pinning : AdcTable → (group : ℕ) → Phase → (value : ℕ) → WriteBatch
pinning d g x v = record (making (Some events.Act) (deeds.Set (words.Phase g) (phase_number x) ∷ []) (thens.Goes (outsides.Reads g (bank_of (v % 4))))) { banks = Some (shapes.Take (take_left (pin_of d g) v)) }

abbrev pub MayPin : AdcTable → Reservations → Footprint → AdcState → Origin Call → FrameHistory → WriteBatch → Type 0
MayPin d below f s o p m = (g : ℕ) × (x : Phase) × IsCalling d s g ReadGroup o p × IsOnlyReader g below × IsPinning d s g x × (m ≡ pinning d g x (f.word (trio_of (rounds_of d g)).control))

-- a handler is to serve the round that is in its bank, by the words that it has seen
abbrev pub round_words : AdcTable → Footprint → Taken → RoundSeen
round_words d f t = round_seen (map (λ x. f.word (word_number d x)) (words_of (windows.Serve t)))

abbrev pub counted : AdcTable → Footprint → Taken → ℕ
counted d f t = one_more (round_words d f t).count (samples_of (group_of d t.group))

abbrev pub MayServe : AdcTable → Reservations → Footprint → AdcState → Origin Call → FrameHistory → WriteBatch → Type 0
MayServe d below f s o p m = (t : Taken) × (r : Round) × IsServing (24 + t.unit) o p × (t.unit < 2) × IsAlone (24 + t.unit) below × (is_some (group_of d t.group) ≡ true) × (round_at s t.unit ≡ Some r) × (m ≡ serving d t (round_words d f t) (counted d f t) (is_full (group_of d t.group) (counted d f t)))

-- the bank is full until the round is served
abbrev pub hold_full : (unit group : ℕ) → streams.Copied → List Reservation
hold_full u g (copied.Bank r b c) = Full u g b ∷ Starts u ∷ []
hold_full u g _ = []

abbrev pub hold_served : Continuation → List Reservation
hold_served (thens.Goes (outsides.Copies c (Tells u g on))) = hold_full u g c.what
hold_served t = []

abbrev pub banks_spot : (d : AdcTable) → WriteBatch → Option StructureOp → PointAssertion (AdcGround d)
banks_spot d m None = Within (Under None) [] (λ below f wd s o p. IsDealing d below f wd s o p m)
banks_spot d m (Some (shapes.Put q)) = Within (Under None) (hold_served m.after) (λ below f wd s o p. MayServe d below f s o p m)
banks_spot d m (Some q) = Within (Under None) [] (λ below f wd s o p. MayPin d below f s o p m)

-- a frame that starts a round stores the unit's words ahead of the start
abbrev pub spot_start : (d : AdcTable) → WriteBatch → Option ℕ → (claimed : Bool) → PointAssertion (AdcGround d)
spot_start d m (Some u) c = Within (Under (Some u)) (hold_in (windows.Convert u 0 c)) (λ below f wd s o p. IsStarting d below f wd s o p u m)
spot_start d m None c = Within (Under None) [] (λ below f wd s o p. ⊥)

abbrev pub spot_making : (d : AdcTable) → WriteBatch → Option Event → PointAssertion (AdcGround d)
spot_making d m (Some (events.Start x)) = spot_start d m (number_of x) (list_any ends_claim m.deeds)
spot_making d m e = banks_spot d m m.banks

abbrev pub spot_at : (d : AdcTable) → Place → PointAssertion (AdcGround d)
spot_at d (Flag w) = Within (Under None) [] (λ below f wd s o p. InFlag d w below o p)
spot_at d (Looks w seen) = Within (Under None) (hold_in w) (λ below f wd s o p. InWindow d w below wd s o p × HasSeen d f w seen)
spot_at d (Surveys w g) = Within (Under None) [] (λ below f wd s o p. InWindow d w below wd s o p × HasLooked d w s × HasSurveyed d w s g)
spot_at d (Seeks w r) = Within (Under None) (hold_in w) (λ below f wd s o p. MaySeek d w below wd s o p × IsSeeking d f w r)
spot_at d (Chooses u g r) = Within (Under None) [] (λ below f wd s o p. InWindow d (windows.Claim (record { unit = u; group = g; bank = Zero })) below wd s o p × (r ≡ put_start (trio_of (rounds_of d g)) puts.Choose))
spot_at d (Pins g x) = Within (Under None) [] (λ below f wd s o p. IsCalling d s g ReadGroup o p × IsOnlyReader g below × IsPinning d s g x)
spot_at d (ReadsPlace n) = read_spot d n n.stage
spot_at d (Aborts r) = Within (Under None) (hold_in (windows.Suspend r.unit r.group)) (λ below f wd s o p. InWindow d (windows.Suspend r.unit r.group) below wd s o p × (length (kept_in d s r.group) ≡ r.kept))
spot_at d (Makes m) = spot_making d m m.event
spot_at d (Quits u) = Within (Under None) (hold_in (windows.Leave u)) (λ below f wd s o p. MaySeek d (windows.Leave u) below wd s o p × (next_group d s u ≡ None))
spot_at d (Opens x) = Within (Under None) (hold_out x) (λ below f wd s o p. place_out d x below o p)
spot_at d (Out x) = Outside (hold_out x) (λ below o p. place_out d x below o p)

-- ---- bodies

-- it has only loaded words so far
abbrev pub clean_at : Place → Bool
clean_at (Looks w seen) = clean_in w
clean_at (Surveys w g) = true
clean_at k = false

-- a body is the driver's
abbrev pub of_driver : {d : AdcTable} → Type 0 → PointAssertion (AdcGround d) → PointAssertion (AdcGround d)
of_driver P (Within gap hs place) = Within gap hs (λ below f w s o p. P × place below f w s o p)
of_driver P (Outside hs place) = Outside hs (λ below o p. P × place below o p)
of_driver P (Looking gap hs place) = Looking gap hs (λ below f w s o p. P × place below f w s o p)

-- the steps after the moves of a window: those from the opening of the mask on
abbrev pub steps_then : (fuel : AdcBody → ℕ) → AdcTable → Continuation → ℕ
steps_then fuel d (thens.Ends n) = 0
steps_then fuel d (thens.Goes o) = fuel (record { table = d; place = Opens o })

-- the bodies of the driver, with these steps and moves that are left at most
abbrev pub adc_windows : (d : AdcTable) (fuel room : AdcBody → ℕ) → Windows (bare d) PendingWrites (AdcTable × Continuation) AdcBody (making_owed d)
adc_windows d fuel room = record {
  bodies = record { work_of = body_work; takes = body_takes; fuel = fuel; room = room; clean = λ k. clean_at k.place; assertion = λ k. of_driver (k.table ≡ d) (spot_at d k.place) };
  owes = λ k. owes_at k.table k.place;
  about = λ x. (x.table, x.after);
  hold = λ a. hold_then a.1;
  place = λ a below o p. (a.0 ≡ d) × place_then d a.1 below o p;
  steps_after = λ a. steps_then fuel a.0 a.1;
  room_after = λ a. 0;
}

abbrev pub adc_bodies : (d : AdcTable) (fuel room : AdcBody → ℕ) → LongBodies (AdcGround d) AdcBody
adc_bodies d fuel room = windows_of (adc_windows d fuel room)
