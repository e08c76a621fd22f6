-- What each window decides by what it has seen, and what it makes of that.
-- From services.WriteBatchSteps.
-- Used by adc_driver: bookkeeping.WindowBounds, adc_driver: bookkeeping.MaskDiscipline, services.CallSteps and 40 more.
use Rattle.std.specs.Prelude.{ℕ, ◌+◌, ◌-◌, ◌*◌, ◌/◌, ◌==◌, ◌&&◌, ◌||◌, not, nat_lt, Bool, true, false, if◌then◌else◌, Option, Some, None, is_some, List, [], ◌∷◌, ◌++◌, length, map, slice_index_or}
use Rattle.adc_groups.specs.StepTerms
use StepTerms.{Abort, Aborts, Adc0, Adc1, AdcBusy, AdcCompleted, AdcIdle, AdcStreamCompleted, AdcTable, add_start}
use StepTerms.{again_start, Answer, AnswerName, Bank, bank_number, bit, bit_of, buffer_number, Chooses, Closes}
use StepTerms.{Column, Continuation, ConverterAck, ConverterGo, ConverterList, Copied, Copies, Copying, copying}
use StepTerms.{Counts, Decided, Disable, Done, drop_start, Ends, ends, ENotOk, entry, EOk, Epilogue, ErrorName, Event}
use StepTerms.{following, four_from, front_start, Goes, group_in, group_of, has_bit, inputs_of, is_continuous}
use StepTerms.{is_full, is_on, is_under_way, limited, Looks, Makes, named, Newest, next_of, next_start, no_answer}
use StepTerms.{Nothing, numbers, one_more, Opens, order_of, Outside, owed_error, Phase, phase_in, phase_number}
use StepTerms.{phase_read, Pins, Place, preceding, put_start, PutPart, Quits, range_with_len, rank_of, ranks_of}
use StepTerms.{reporting, ResultBuffer, rounds_of, RoundSeen, samples_of, Seeks, Serves, Service, Set, Stage}
use StepTerms.{StopSeen, StructureOp, Surveys, Suspended, suspends, Taken, takes_one, Tells, trigger_input}
use StepTerms.{TriggerClear, TriggerFlags, TriggerSet, trio_of, unit_of, Window, WindowWrite, Word, WriteBatch}
use StepTerms.{zero_null}
use Rattle.mcal_base.specs.declared.moves.Unit as units
use Rattle.word_shapes.specs.declared.take.Take as takes
use Rattle.word_shapes.specs.declared.streams.copying.Copied.TheVariants as copied
use Rattle.adc_groups.specs.declared.making.WindowWrite.TheVariants.{Write}
use Rattle.adc_groups.specs.declared.outside.Outside.TheVariants.{Reads}
use Rattle.adc_groups.specs.laws.services.WriteBatchSteps.{making}

-- ---- ends and ways on

abbrev pub over : Decided
over = Ends (ends None no_answer Nothing)

abbrev pub acts_and_ends : Answer → Epilogue → Decided
acts_and_ends a w = Ends (ends (Some Event.Act) a w)

abbrev pub looking : Window → Place
looking w = Looks w []

-- a call that looks at these words has only loaded words so far
abbrev pub clean_in : Window → Bool
clean_in Window.Close = true
clean_in (Window.Setup g b) = true
clean_in (Window.Status g) = true
clean_in (Window.Point g) = true
clean_in (Window.Read g) = true
clean_in (Window.Start g) = true
clean_in (Window.Enable g) = true
clean_in (Window.Stop u g) = true
clean_in w = false

-- a window after one that wasn't a call's first
abbrev pub entered : Window → Place
entered w = if clean_in w then Quits 0 else looking w

abbrev pub makes : WriteBatch → Decided
makes m = Goes (Makes m)

abbrev pub done : Answer → Done
done a = record { answer = a; owed = Nothing }

abbrev pub nothing_more : Continuation
nothing_more = Continuation.Ends (done no_answer)

abbrev pub owed : AdcTable → Service → ErrorName → Epilogue
owed d service name = owed_error (reporting d) service name

-- ---- calls of one change, and questions

-- one deed, at which a call acts, and with which it is done
abbrev pub change : WindowWrite → Answer → Place
change x a = Makes (making (Some Event.Act) (x ∷ []) (Continuation.Ends (done a)))

abbrev pub set_up : AdcTable → ℕ → ResultBuffer → (phase : ℕ) → Decided
set_up d g b p = if p == 0 then Goes (change (Set (Word.Chosen g) (1 + buffer_number b)) (named EOk)) else acts_and_ends (named ENotOk) (owed d Service.AdcSetupResultBuffer ErrorName.AdcBusy)

abbrev pub notify : ℕ → Bool → Place
notify g on = change (Set (Word.Notified g) (bit_of on)) no_answer

abbrev pub name_of : Phase → AnswerName
name_of Phase.Idle = AdcIdle
name_of Phase.Busy = AdcBusy
name_of Phase.Completed = AdcCompleted
name_of Phase.Streaming = AdcStreamCompleted
name_of Phase.Ended = AdcStreamCompleted

abbrev pub status : (phase : ℕ) → Decided
status p = acts_and_ends (named (name_of (phase_in p))) Nothing

-- after the newest round was asked for
abbrev pub point_by : AdcTable → ℕ → (count place : ℕ) → Phase → Decided
point_by d g c p Phase.Idle = acts_and_ends zero_null (owed d Service.AdcGetStreamLastPointer ErrorName.AdcIdle)
point_by d g c p Phase.Busy = acts_and_ends zero_null Nothing
point_by d g c p x = Goes (change (Set (Word.Phase g) (phase_number (phase_read x))) (numbers (c ∷ preceding p (samples_of (group_of d g)) ∷ [])))

abbrev pub point : AdcTable → ℕ → (phase count place : ℕ) → Decided
point d g x c p = point_by d g c p (phase_in x)

abbrev pub read_by : AdcTable → ℕ → Phase → Decided
read_by d g Phase.Idle = acts_and_ends (named ENotOk) (owed d Service.AdcReadGroup ErrorName.AdcIdle)
read_by d g Phase.Busy = acts_and_ends (named ENotOk) Nothing
read_by d g x = Goes (Pins g (phase_read x))

abbrev pub read : AdcTable → ℕ → (phase : ℕ) → Decided
read d g p = read_by d g (phase_in p)

-- it acts, and pins a bank
abbrev pub pin : ℕ → Phase → takes.Take → Bank → Place
pin g x r b = Makes (record (making (Some Event.Act) (Set (Word.Phase g) (phase_number x) ∷ []) (Continuation.Goes (Reads g b))) { banks = Some (StructureOp.Take r) })

abbrev pub reading : AdcTable → ℕ → Bank → Newest
reading d g b = record { group = g; reading = record { rounds = rounds_of d g; bank = b; values = [] }; stage = Stage.Reads }

-- ---- requests

-- what follows a new request on a unit
abbrev pub after_request : AdcTable → ℕ → Continuation
after_request d u = Continuation.Goes (Closes (if d.priorities then Window.Yield u else Window.Begin u))

-- a group begins a stream and makes a request, or has its trigger switched on; and the module is uninitialised
abbrev pub start : AdcTable → ℕ → WriteBatch
start d g = record (making (Some Event.Act) (Set (Word.Phase g) 1 ∷ Set (Word.Count g) 0 ∷ Set (Word.Place g) 0 ∷ Set (Word.Kept g) 0 ∷ Set (Word.Turn g) 1 ∷ []) (after_request d (unit_of (group_of d g)))) { order = Some (StructureOp.Add (add_start (order_of (unit_of (group_of d g))) (entry g))) }

abbrev pub bit_of_trigger : Option ℕ → ℕ
bit_of_trigger None = 0
bit_of_trigger (Some i) = bit i

abbrev pub trigger_bit : AdcTable → ℕ → ℕ
trigger_bit d g = bit_of_trigger (trigger_input (group_of d g))

abbrev pub enable : AdcTable → ℕ → WriteBatch
enable d g = making (Some Event.Act) (Write TriggerSet (trigger_bit d g) ∷ Set (Word.Phase g) 1 ∷ Set (Word.Count g) 0 ∷ Set (Word.Place g) 0 ∷ []) nothing_more

abbrev pub close : WriteBatch
close = making (Some Event.Act) (Set Word.State 0 ∷ Disable ∷ []) nothing_more

-- a call goes on without an error
abbrev pub begin : AdcTable → Window → Place
begin d (Window.Start g) = Makes (start d g)
begin d (Window.Enable g) = Makes (enable d g)
begin d w = Makes close

abbrev pub service_in : Window → Service
service_in Window.Close = Service.AdcDeInit
service_in (Window.Enable g) = Service.AdcEnableHardwareTrigger
service_in w = Service.AdcStartGroupConversion

abbrev pub refused : AdcTable → Window → ErrorName → Decided
refused d w e = acts_and_ends no_answer (owed d (service_in w) e)

-- the unit whose groups must not be under way, none where it is all groups
abbrev pub unit_in : AdcTable → Window → Option ℕ
unit_in d (Window.Start g) = Some (unit_of (group_of d g))
unit_in d (Window.Enable g) = Some (unit_of (group_of d g))
unit_in d w = None

abbrev pub survey_by : AdcTable → Window → Option ℕ → Place
survey_by d w (Some g) = Surveys w g
survey_by d w None = begin d w

abbrev pub survey : AdcTable → Window → (from : ℕ) → Place
survey d w g = survey_by d w (next_of d (unit_in d w) g)

abbrev pub surveyed : AdcTable → Window → (group phase : ℕ) → Decided
surveyed d w g p = if is_under_way (phase_in p) then refused d w ErrorName.AdcBusy else Goes (survey d w (g + 1))

abbrev pub looked : AdcTable → Window → (chosen phase : ℕ) → Decided
looked d w c p = if c == 0 then refused d w ErrorName.AdcBufferUninit else (if is_under_way (phase_in p) then refused d w ErrorName.AdcBusy else Goes (if takes_one d then survey d w 0 else begin d w))

-- a pulse is served
abbrev pub pulse_by : AdcTable → (input group : ℕ) → Bool → WriteBatch
pulse_by d i g true = making (Some (Event.Serve (28 + i))) (Write TriggerFlags (bit i) ∷ []) nothing_more
pulse_by d i g false = record (making (Some (Event.Serve (28 + i))) (Write TriggerFlags (bit i) ∷ Set (Word.Kept g) 0 ∷ Set (Word.Turn g) 1 ∷ []) (after_request d (unit_of (group_of d g)))) { order = Some (StructureOp.Add (add_start (order_of (unit_of (group_of d g))) (entry g))) }

abbrev pub pulse : AdcTable → (input group turn : ℕ) → Decided
pulse d i g t = makes (pulse_by d i g (t == 1))

-- ---- stops

-- a trigger is switched off
abbrev pub trigger_off : ℕ → List WindowWrite
trigger_off v = Write TriggerClear v ∷ Write TriggerFlags v ∷ []

abbrev pub off_where : Bool → ℕ → List WindowWrite
off_where true v = trigger_off v
off_where false v = []

-- the unit's round is taken away, and a claim is no more one that keeps values of this group
abbrev pub taken_away : Bool → ℕ → List WindowWrite
taken_away true u = Abort u ∷ Write (ConverterAck u) 1 ∷ Set (Word.Running u) 0 ∷ []
taken_away false u = []

abbrev pub claim_lost : Bool → ℕ → List WindowWrite
claim_lost true u = Set (Word.Claim u) 1 ∷ []
claim_lost false u = []

abbrev pub quieted : AdcTable → ℕ → List WindowWrite
quieted d g = Set (Word.Phase g) 0 ∷ Set (Word.Notified g) 0 ∷ off_where (is_some (trigger_input (group_of d g))) (trigger_bit d g)

abbrev pub stop_by : AdcTable → (unit group : ℕ) → (run lost : Bool) → WriteBatch
stop_by d u g run lost = record (making (Some Event.Act) (quieted d g ++ (taken_away run u ++ (claim_lost lost u ++ Set (Word.Turn g) 0 ∷ []))) (Continuation.Goes (Closes (Window.Begin u)))) { order = Some (StructureOp.Drop (drop_start (order_of u) (entry g))) }

abbrev pub stop_turn : AdcTable → (unit group : ℕ) → StopSeen → WriteBatch
stop_turn d u g x = stop_by d u g (x.running == 1 + g) (x.claim == 2 + g)

abbrev pub stopping : AdcTable → (unit group : ℕ) → StopSeen → WriteBatch
stopping d u g x = if x.turn == 0 then making (Some Event.Act) (quieted d g) nothing_more else stop_turn d u g x

abbrev pub stop_service : Bool → Service
stop_service true = Service.AdcDisableHardwareTrigger
stop_service false = Service.AdcStopGroupConversion

abbrev pub stop : AdcTable → (unit group : ℕ) → StopSeen → Decided
stop d u g x = if x.phase == 0 then acts_and_ends no_answer (owed d (stop_service (is_some (trigger_input (group_of d g)))) ErrorName.AdcIdle) else makes (stopping d u g x)

-- ---- aborts and starts

abbrev pub unit_named : ℕ → units.Unit
unit_named u = if u == 0 then Adc0 else Adc1

abbrev pub begins_next : ℕ → Place
begins_next u = Opens (Closes (Window.Begin u))

abbrev pub yields_by : AdcTable → ℕ → (claim : ℕ) → Option ℕ → Place
yields_by d u c None = begins_next u
yields_by d u c (Some g) = if c == 0 then Seeks (Window.Suspend u g) (front_start (order_of u) (ranks_of d)) else begins_next u

abbrev pub yields : AdcTable → ℕ → (running claim : ℕ) → Decided
yields d u r c = Goes (yields_by d u c (group_in r))

abbrev pub begins : AdcTable → ℕ → (running claim : ℕ) → Decided
begins d u r c = if r == 0 && c == 0 then Goes (Seeks (Window.Begin u) (front_start (order_of u) (ranks_of d))) else over

-- the claim of a frame ends where nothing waits, or with a start
abbrev pub leaves : AdcTable → ℕ → Decided
leaves d u = Goes (Seeks (Window.Leave u) (front_start (order_of u) (ranks_of d)))

abbrev pub sought : AdcTable → Window → (first : ℕ) → Decided
sought d (Window.Suspend u g) x = Goes (if nat_lt x 16 && nat_lt (rank_of d g) (rank_of d x) then looking (Window.Suspend u g) else begins_next u)
sought d (Window.Begin u) x = if nat_lt x 16 then Goes (looking (Window.Convert u x false)) else over
sought d (Window.Leave u) x = if nat_lt x 16 then Goes (looking (Window.Convert u x true)) else Goes (Quits u)
sought d w x = over

abbrev pub aborts : (unit group kept : ℕ) → Decided
aborts u g e = Goes (Aborts (record { unit = u; group = g; kept = limited e 32 }))

-- the round was aborted: its group waits again, and where it suspends the frame claims the unit
abbrev pub aborted_by : Suspended → Bool → WriteBatch
aborted_by r true = record (making None (Set (Word.Running r.unit) 0 ∷ Set (Word.Claim r.unit) (2 + r.group) ∷ []) (Continuation.Goes (Counts r))) { order = Some (StructureOp.Again (again_start (order_of r.unit) (entry r.group))) }
aborted_by r false = record (making None (Set (Word.Running r.unit) 0 ∷ []) (Continuation.Goes (Closes (Window.Begin r.unit)))) { order = Some (StructureOp.Again (again_start (order_of r.unit) (entry r.group))) }

abbrev pub aborted : AdcTable → Suspended → (value : ℕ) → Option Event × Place
aborted d r x = if x == 1 then (Some (Event.Abort (unit_named r.unit)), Makes (aborted_by r (suspends (group_of d r.group)))) else (None, begins_next r.unit)

abbrev pub kept_where : Bool → Suspended → List WindowWrite
kept_where true r = Set (Word.Kept r.group) r.kept ∷ []
kept_where false r = []

abbrev pub keep : Suspended → (claim : ℕ) → Decided
keep r c = makes (making None (kept_where (c == 2 + r.group) r ++ Set (Word.Claim r.unit) 0 ∷ []) (Continuation.Goes (Closes (Window.Begin r.unit))))

-- the inputs that are left, and the list registers that take them
abbrev pub list_deed : AdcTable → (unit group kept at : ℕ) → WindowWrite
list_deed d u g e i = Write (ConverterList u i) (four_from (inputs_of (group_of d g)) (e + 4 * i))

-- so many registers take four inputs each
abbrev pub lists_for : ℕ → ℕ
lists_for left = (left + 3) / 4

-- the unit is started at the last move, and the words say so before
abbrev pub claim_ended : Bool → ℕ → List WindowWrite
claim_ended true u = Set (Word.Claim u) 0 ∷ []
claim_ended false u = []

abbrev pub start_deeds : AdcTable → (unit group kept left : ℕ) → (claimed : Bool) → List WindowWrite
start_deeds d u g e left c = map (list_deed d u g e) (range_with_len 0 (lists_for left)) ++ (Set (Word.Running u) (1 + g) ∷ claim_ended c u ++ Write (ConverterGo u) left ∷ [])

-- so many moves come before the start
abbrev pub moves_ahead : (left : ℕ) → (claimed : Bool) → ℕ
moves_ahead left true = lists_for left + 2
moves_ahead left false = lists_for left + 1

abbrev pub conversion : AdcTable → (unit group kept left : ℕ) → (claimed : Bool) → WriteBatch
conversion d u g e left c = record (making (Some (Event.Start (unit_named u))) (start_deeds d u g e left c) nothing_more) { ahead = moves_ahead left c; order = Some (StructureOp.Next (next_start (order_of u) (ranks_of d))) }

abbrev pub convert : AdcTable → (unit group : ℕ) → (claimed : Bool) → (kept : ℕ) → Decided
convert d u g c e = let k = length (inputs_of (group_of d g)) in makes (conversion d u g (limited e k) (k - limited e k) c)

-- ---- servings

abbrev pub take_by : AdcTable → ℕ → Option ℕ → Decided
take_by d u None = over
take_by d u (Some g) = if is_on u (group_of d g) then Goes (Chooses u g (put_start (trio_of (rounds_of d g)) PutPart.Choose)) else over

abbrev pub take : AdcTable → ℕ → (running : ℕ) → Decided
take d u r = take_by d u (group_in r)

abbrev pub chosen : (unit group : ℕ) → Bank → Decided
chosen u g b = Goes (looking (Window.Claim (record { unit = u; group = g; bank = b })))

abbrev pub copies_or : Option Copying → Copied → Outside → Outside
copies_or None a o = o
copies_or (Some c) a o = Copies c a

abbrev pub claim : AdcTable → Taken → (kept : ℕ) → Decided
claim d t e = makes (making None (Set (Word.Claim t.unit) 1 ∷ []) (Continuation.Goes (copies_or (copying (copied.Round (rounds_of d t.group) t.unit (limited e 32) t.bank)) (Serves t) (Closes (Window.Serve t)))))

-- the phase after a round
abbrev pub phase_on : (goes_on : Bool) → Phase
phase_on true = Phase.Streaming
phase_on false = Phase.Ended

abbrev pub is_streamed : Phase → Bool
is_streamed Phase.Streaming = true
is_streamed Phase.Ended = true
is_streamed _ = false

abbrev pub phase_after : AdcTable → ℕ → RoundSeen → (full : Bool) → Phase
phase_after d g x full =
    if following x.place (samples_of (group_of d g)) == 0 || is_streamed (phase_in x.phase)
    then phase_on ((is_continuous (group_of d g) || is_some (trigger_input (group_of d g))) && not full)
    else Phase.Completed

-- the round is copied to the user's buffer that was chosen at the serving
abbrev pub column_of : AdcTable → ℕ → RoundSeen → Column
column_of d g x = record { group = g; second = x.chosen == 2; samples = samples_of (group_of d g); place = limited x.place 64 }

abbrev pub stores : AdcTable → Taken → RoundSeen → Outside
stores d t x = copies_or (copying (copied.Bank (rounds_of d t.group) t.bank (column_of d t.group x))) (Tells t.unit t.group (x.notified == 1)) (Closes (Window.Begin t.unit))

-- what comes of the turn
abbrev pub turn_deed : ℕ → (again : Bool) → WindowWrite
turn_deed g true = Set (Word.Kept g) 0
turn_deed g false = Set (Word.Turn g) 0

abbrev pub turn_shape : (unit group : ℕ) → (again : Bool) → StructureOp
turn_shape u g true = StructureOp.Again (again_start (order_of u) (entry g))
turn_shape u g false = StructureOp.Drop (drop_start (order_of u) (entry g))

abbrev pub serving : AdcTable → Taken → RoundSeen → (count : ℕ) → (full : Bool) → WriteBatch
serving d t x c full =
    let again = is_continuous (group_of d t.group) && not full in
    record (making (Some (Event.Serve (24 + t.unit))) (Write (ConverterAck t.unit) 1 ∷ Set (Word.Running t.unit) 0 ∷ Set (Word.Count t.group) c ∷ Set (Word.Place t.group) (following x.place (samples_of (group_of d t.group))) ∷ Set (Word.Phase t.group) (phase_number (phase_after d t.group x full)) ∷ turn_deed t.group again ∷ (off_where (full && is_some (trigger_input (group_of d t.group))) (trigger_bit d t.group) ++ Set (Word.Claim t.unit) 0 ∷ [])) (Continuation.Goes (stores d t x))) { order = Some (turn_shape t.unit t.group again); banks = Some (StructureOp.Put (put_start (trio_of (rounds_of d t.group)) (PutPart.Commit (bank_number t.bank)))) }

abbrev pub serve : AdcTable → Taken → RoundSeen → Decided
serve d t x = if x.running == 0 then leaves d t.unit else (let c = one_more x.count (samples_of (group_of d t.group)) in makes (serving d t x c (is_full (group_of d t.group) c)))

-- ---- by what was seen

-- a word that a window has seen, 0 where it hasn't
abbrev pub word_seen : List ℕ → ℕ → ℕ
word_seen seen i = slice_index_or seen i 0

abbrev pub stop_seen : List ℕ → StopSeen
stop_seen seen = record { phase = word_seen seen 0; turn = word_seen seen 1; running = word_seen seen 2; claim = word_seen seen 3 }

abbrev pub round_seen : List ℕ → RoundSeen
round_seen seen = record { running = word_seen seen 0; phase = word_seen seen 1; count = word_seen seen 2; place = word_seen seen 3; chosen = word_seen seen 4; notified = word_seen seen 5 }

abbrev pub decided : AdcTable → Window → List ℕ → Decided
decided d (Window.Setup g b) seen = set_up d g b (word_seen seen 0)
decided d (Window.Status g) seen = status (word_seen seen 0)
decided d (Window.Point g) seen = point d g (word_seen seen 0) (word_seen seen 1) (word_seen seen 2)
decided d (Window.Read g) seen = read d g (word_seen seen 0)
decided d (Window.Start g) seen = looked d (Window.Start g) (word_seen seen 0) (word_seen seen 1)
decided d (Window.Enable g) seen = looked d (Window.Enable g) (word_seen seen 0) (word_seen seen 1)
decided d (Window.Stop u g) seen = stop d u g (stop_seen seen)
decided d (Window.Yield u) seen = yields d u (word_seen seen 0) (word_seen seen 1)
decided d (Window.Suspend u g) seen = aborts u g (word_seen seen 0)
decided d (Window.Keep r) seen = keep r (word_seen seen 0)
decided d (Window.Begin u) seen = begins d u (word_seen seen 0) (word_seen seen 1)
decided d (Window.Convert u g c) seen = convert d u g c (word_seen seen 0)
decided d (Window.Take u) seen = take d u (word_seen seen 0)
decided d (Window.Claim t) seen = claim d t (word_seen seen 0)
decided d (Window.Serve t) seen = serve d t (round_seen seen)
decided d (Window.Trigger i g) seen = pulse d i g (word_seen seen 0)
decided d Window.Close seen = over
decided d (Window.Leave u) seen = over

-- a register tells whether the line is ready
abbrev pub is_ready : Window → ℕ → Bool
is_ready (Window.Trigger i g) v = has_bit v i
is_ready w v = v == 2

abbrev pub flagged : Window → ℕ → Decided
flagged w v = if is_ready w v then Goes (entered w) else over
