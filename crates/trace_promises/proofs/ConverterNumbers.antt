-- The values of converter groups have 32 bits, whatever happens, where analog inputs took such levels.
use Rattle.std.proofs.Common.{ℕ, ◌+◌, ◌-◌, ◌/◌, Bool, true, false, cond, List, [], ◌∷◌, length, take, Option, Some, None, arith}
use Rattle.std.specs.Prelude.{◌==◌, nat_lt, ◌&&◌, not, is_some}
use Rattle.mcal_base.specs.declared.directive.Order.{Order}
use Rattle.mcal_base.specs.declared.directive.Order.TheVariants.{Trigger}
use Rattle.mcal_base.specs.declared.error_name.ErrorName.{ErrorName}
use Rattle.run_model.specs.Frame.{state_by}
use Rattle.run_model.specs.Machine.{Happening, Acts, Serves, Starts, Aborts, Moves, Restarts, outcome, tells_nothing}
use Rattle.run_model.specs.World.{World, Sample, sample_at, with_at}
use Rattle.adc_machine.specs.Bounds.{adc_setting}
use Rattle.adc_machine.specs.Checks.{error_by}
use Rattle.adc_machine.specs.Groups.{Status, Idle, Busy, Completed, StreamCompleted, GroupState, Request, Round, Results, untouched, trigger_input, suspends, is_continuous, is_full, inputs_left, levels_from, values_of, ended_values, is_finished, is_same, stored_from, held_in, with_round_of}
use Rattle.adc_machine.specs.Machine.{circumstances, begun_stream, stopped, read_from, reads, points, group_work, work, acts_by, is_unit_line, ready, with_values, after_round, served_values, served_round, served, starting, aborting, starts_on, aborts_on, moved, happens, place_value}
use Rattle.adc_machine.specs.Table.{group_of, by_group}
use Rattle.adc_machine.specs.Triggers.{with_mark, listener, without_mark, with_trigger_off, requested_unless_turn, served_trigger}
use Rattle.adc_machine.specs.Turns.{AdcState, group_at, round_at, with_group, with_round, with_waiting, requested, is_round_of, has_turn, unless_of, without_turn, number_of, starts, begun, is_outranked, aborts_by, aborts, kept_of}
use Rattle.adc_machine.specs.declared.call.Call.{Call}
use Rattle.adc_machine.specs.declared.call.Call.TheVariants as calls
use Rattle.adc_machine.specs.declared.call.GroupCall.{GroupCall}
use Rattle.adc_machine.specs.declared.call.GroupCall.TheVariants.{SetupResultBuffer, StartGroupConversion, StopGroupConversion, ReadGroup, EnableHardwareTrigger, DisableHardwareTrigger, Notification, GetGroupStatus, GetStreamLastPointer}
use Rattle.adc_machine.specs.declared.call.ResultBuffer.{ResultBuffer}
use Rattle.adc_machine.specs.declared.table.AdcTable.{AdcTable}
use Rattle.adc_machine.specs.declared.table.Group as configured
use Rattle.bench_report.specs.Numbers.{IsNumber, Each}
use Rattle.trace_promises.proofs.Within.{each_append}
use Rattle.trace_promises.specs.Keeping.{SampleFits, WorldFits, HappeningFits, Keeps}
use Rattle.trace_promises.specs.Numbers.{RequestFits, GroupFits, RoundFits, StoredFits, ConverterFits}
use Rattle.trace_promises.proofs.Lists.{chosen, at_place}

zero_fits : IsNumber 0
zero_fits = omega arith

-- ---- groups and units

groups_fit : (f : ℕ → GroupState) → ((g : ℕ) → GroupFits (f g)) → Each GroupFits (by_group f)
groups_fit f h = (h 0, (h 1, (h 2, (h 3, (h 4, (h 5, (h 6, (h 7, (h 8, (h 9, (h 10, (h 11, (h 12, (h 13, (h 14, (h 15, tt))))))))))))))))

group_fits : (s : AdcState) (g : ℕ) → ConverterFits s → GroupFits (group_at s g)
group_fits s g h = at_place GroupFits s.groups g untouched h.0 tt

put_group : (s : AdcState) (g : ℕ) (x : GroupState) → ConverterFits s → GroupFits x → ConverterFits (with_group s g x)
put_group s g x h k = (groups_fit (λ n. cond (n == g) x (group_at s n)) (λ n. chosen GroupFits (n == g) x (group_at s n) k (group_fits s n h)), h.1, h.2)

put_waiting : (s : AdcState) (g : ℕ) (q : Option Request) → ConverterFits s → RequestFits q → ConverterFits (with_waiting s g q)
put_waiting s g q h k = put_group s g (record (group_at s g) { waiting = q }) h k

round_fits : (s : AdcState) (u : ℕ) → ConverterFits s → RoundFits (round_at s u)
round_fits s u h = at_place RoundFits s.units u None h.1 tt

put_round : (s : AdcState) (u : ℕ) (r : Option Round) → ConverterFits s → RoundFits r → ConverterFits (with_round s u r)
put_round s u r h k = (h.0, (chosen RoundFits (0 == u) r (round_at s 0) k (round_fits s 0 h), (chosen RoundFits (1 == u) r (round_at s 1) k (round_fits s 1 h), tt)), h.2)

requested_fits : (s : AdcState) (g : ℕ) → ConverterFits s → ConverterFits (requested s g)
requested_fits s g h = put_waiting s g _ h tt

unless_fits : (s : AdcState) (g u : ℕ) → ConverterFits s → RoundFits (unless_of g (round_at s u))
unless_fits s g u h = chosen RoundFits (is_round_of g (round_at s u)) None (round_at s u) tt (round_fits s u h)

without_fits : (s : AdcState) (g : ℕ) → ConverterFits s → ConverterFits (without_turn s g)
without_fits s g h = let k = put_waiting s g None h tt in (k.0, (unless_fits s g 0 h, (unless_fits s g 1 h, tt)), h.2)

unmarked_fits : (s : AdcState) (input : Option ℕ) → ConverterFits s → ConverterFits (without_mark s input)
unmarked_fits s None h = h
unmarked_fits s (Some i) h = h

-- the group's trigger is switched off
off_fits : (d : AdcTable) (s : AdcState) (g : ℕ) → ConverterFits s → ConverterFits (with_trigger_off d s g)
off_fits d s g h = unmarked_fits (with_group s g (record (group_at s g) { trigger = false })) (trigger_input (group_of d g)) (put_group s g _ h (group_fits s g h))

-- ---- the values of a round

sample_fits : (xs : List Sample) (input time : ℕ) → Each SampleFits xs → IsNumber (sample_at xs input time)
sample_fits [] input time v = zero_fits
sample_fits (x ∷ xs) input time v = chosen IsNumber (x.input == input && nat_lt x.since time) x.value (sample_at xs input time) v.0 (sample_fits xs input time v.1)

levels_fit : (xs : List Sample) (time : ℕ) (inputs : List ℕ) → Each SampleFits xs → Each IsNumber (levels_from xs time inputs)
levels_fit xs time [] v = tt
levels_fit xs time (i ∷ is) v = (sample_fits xs i (time + 4) v, levels_fit xs (time + 4) is v)

values_fit : (w : World) (k : Option configured.Group) (r : Round) → WorldFits w → RoundFits (Some r) → Each IsNumber (values_of w k r)
values_fit w k r v h = each_append IsNumber r.request.kept _ h (levels_fit w.samples r.start (inputs_left k r) v)

ended_fit : (w : World) (k : Option configured.Group) (r : Round) → WorldFits w → RoundFits (Some r) → Each IsNumber (ended_values w k r)
ended_fit w k r v h = each_append IsNumber r.request.kept _ h (levels_fit w.samples r.start (take ((w.now - r.start) / 4) (inputs_left k r)) v)

kept_fits : (w : World) (k : Option configured.Group) (r : Round) → WorldFits w → RoundFits (Some r) → Each IsNumber (kept_of w k r)
kept_fits w k r v h = chosen (Each IsNumber) (suspends k) (ended_values w k r) [] (ended_fit w k r v h) tt

results_fit : (k : Option configured.Group) (r g : ℕ) (b : Option ResultBuffer) (values : List ℕ) (held : Results) → Each IsNumber values → Each StoredFits held → Each StoredFits (with_round_of k r g b values held)
results_fit k r g None values held h f = f
results_fit k r g (Some b) values held h f = (h, f)

module _ (d : AdcTable) where
  -- ---- calls

  read_fits : (s : AdcState) (g : ℕ) → ConverterFits s → ConverterFits (read_from d s g)
  read_fits s g h = put_group s g _ h (group_fits s g h)

  reading_fits : (s : AdcState) (g : ℕ) (status : Status) → ConverterFits s → ConverterFits (reads d s g status).state
  reading_fits s g Busy h = h
  reading_fits s g Idle h = read_fits s g h
  reading_fits s g Completed h = read_fits s g h
  reading_fits s g StreamCompleted h = read_fits s g h

  pointing_fits : (s : AdcState) (g : ℕ) (status : Status) → ConverterFits s → ConverterFits (points d s g status).state
  pointing_fits s g Busy h = h
  pointing_fits s g Idle h = read_fits s g h
  pointing_fits s g Completed h = read_fits s g h
  pointing_fits s g StreamCompleted h = read_fits s g h

  begun_fits : (s : AdcState) (g : ℕ) (trigger : Bool) → ConverterFits s → ConverterFits (begun_stream s g trigger)
  begun_fits s g trigger h = put_group s g _ h (group_fits s g h)

  stopped_fits : (s : AdcState) (g : ℕ) → ConverterFits s → ConverterFits (stopped d s g)
  stopped_fits s g h =
      let quiet : AdcState = with_group s g (record (group_at s g) { status = Idle; notification = false }) in
      off_fits d (without_turn quiet g) g (without_fits quiet g (put_group s g _ h (group_fits s g h)))

  group_call : (s : AdcState) (g : ℕ) (call : GroupCall) → ConverterFits s → ConverterFits (group_work d s g call).state
  group_call s g (SetupResultBuffer b) h = put_group s g _ h (group_fits s g h)
  group_call s g StartGroupConversion h = requested_fits (begun_stream s g false) g (begun_fits s g false h)
  group_call s g EnableHardwareTrigger h = begun_fits s g true h
  group_call s g StopGroupConversion h = stopped_fits s g h
  group_call s g DisableHardwareTrigger h = stopped_fits s g h
  group_call s g ReadGroup h = reading_fits s g (group_at s g).status h
  group_call s g (Notification on) h = put_group s g _ h (group_fits s g h)
  group_call s g GetGroupStatus h = h
  group_call s g GetStreamLastPointer h = pointing_fits s g (group_at s g).status h

  work_fits : (s : AdcState) (call : Call) → ConverterFits s → ConverterFits (work d s call).state
  work_fits s calls.Init h = (tt, tt, h.2)
  work_fits s calls.DeInit h = (groups_fit (λ g. record untouched { chosen = (group_at s g).chosen }) (λ g. tt), tt, h.2)
  work_fits s (calls.Group g call) h = group_call s g call h

  act_fits : (s : AdcState) (call : Call) (e : Option ErrorName) → ConverterFits s → ConverterFits (acts_by d s call e).state
  act_fits s call None h = work_fits s call h
  act_fits s call (Some e) h = h

  -- ---- servings

  after_fits : (s : AdcState) (g number : ℕ) (full continuous : Bool) → ConverterFits s → ConverterFits (after_round d s g number full continuous)
  after_fits s g number true continuous h = off_fits d s g h
  after_fits s g number false true h = put_waiting s g _ h tt
  after_fits s g number false false h = h

  stored_fits : (s : AdcState) (u : ℕ) (r : Round) (values : List ℕ) → ConverterFits s → Each IsNumber values → ConverterFits (served_values d s u r values)
  stored_fits s u r values h f =
      let k : Option configured.Group = group_of d r.group in
      let x : GroupState = group_at s r.group in
      let free = put_round s u None h tt in
      let more = put_group (with_round s u None) r.group (with_values k x values) free (group_fits s r.group h) in
      let held = results_fit k (length x.rounds) r.group x.chosen values s.results f h.2 in
      let stored : AdcState = record (with_group (with_round s u None) r.group (with_values k x values)) { results = with_round_of k (length x.rounds) r.group x.chosen values s.results } in
      after_fits stored r.group r.request.number (is_full k (length x.rounds + 1)) (is_continuous k) (more.0, more.1, held)

  round_served : (w : World) (s : AdcState) (u : ℕ) (r : Option Round) → WorldFits w → ConverterFits s → RoundFits r → ConverterFits (served_round d w s u r).state
  round_served w s u None v h f = h
  round_served w s u (Some r) v h f = stored_fits s u r (values_of w (group_of d r.group) r) h (values_fit w (group_of d r.group) r v f)

  listening_fits : (s : AdcState) (g : Option ℕ) → ConverterFits s → ConverterFits (requested_unless_turn s g)
  listening_fits s None h = h
  listening_fits s (Some g) h = chosen ConverterFits (has_turn s g) s (requested s g) h (requested_fits s g h)

  line_served : (b : Bool) (w : World) (s : AdcState) (l : ℕ) → WorldFits w → ConverterFits s →
      ConverterFits (cond b (served_round d w s (l - 24) (round_at s (l - 24))) (outcome (served_trigger d s (l - 28)) tells_nothing)).state
  line_served true w s l v h = round_served w s (l - 24) (round_at s (l - 24)) v h (round_fits s (l - 24) h)
  line_served false w s l v h = listening_fits (with_mark s (l - 28) false) (listener d s (l - 28)) h

  serving_fits : (b : Bool) (w : World) (s : AdcState) (l : ℕ) → WorldFits w → ConverterFits s → ConverterFits (state_by s (cond b (Some (served d w s l)) None))
  serving_fits true w s l v h = line_served (is_unit_line l) w s l v h
  serving_fits false w s l v h = h

  -- ---- starts and aborts

  begin_fits : (w : World) (g : ℕ) (q : Option Request) → RequestFits q → RoundFits (begun w g q)
  begin_fits w g None h = tt
  begin_fits w g (Some q) h = h

  started_fits : (w : World) (s : AdcState) (u : ℕ) (g : Option ℕ) → ConverterFits s → ConverterFits (state_by s (starting w s u g))
  started_fits w s u None h = h
  started_fits w s u (Some g) h = put_round (with_waiting s g None) u _ (put_waiting s g None h tt) (begin_fits w g (group_at s g).waiting (group_fits s g h))

  start_fits : (w : World) (s : AdcState) (u : Option ℕ) → ConverterFits s → ConverterFits (state_by s (starts_on d w s u))
  start_fits w s None h = h
  start_fits w s (Some u) h = started_fits w s u (starts d s u) h

  abortable_fits : (w : World) (s : AdcState) (u : ℕ) (r : Option Round) → RoundFits r → RoundFits (aborts_by d w s u r)
  abortable_fits w s u None f = tt
  abortable_fits w s u (Some r) f = chosen RoundFits (not (is_finished w (group_of d r.group) r) && is_outranked d s u r.group) (Some r) None f tt

  aborted_fits : (w : World) (s : AdcState) (u : ℕ) (r : Option Round) → WorldFits w → ConverterFits s → RoundFits r → ConverterFits (state_by s (aborting d w s u r))
  aborted_fits w s u None v h f = h
  aborted_fits w s u (Some r) v h f = put_round (with_waiting s r.group _) u None (put_waiting s r.group _ h (kept_fits w (group_of d r.group) r v f)) tt

  abort_fits : (w : World) (s : AdcState) (u : Option ℕ) → WorldFits w → ConverterFits s → ConverterFits (state_by s (aborts_on d w s u))
  abort_fits w s None v h = h
  abort_fits w s (Some u) v h = aborted_fits w s u (aborts d w s u) v h (abortable_fits w s u (round_at s u) (round_fits s u h))

  -- ---- the machine

  moved_fits : (s : AdcState) (order : Order) → ConverterFits s → ConverterFits (moved d s order)
  moved_fits s (Trigger i) h = chosen ConverterFits (is_some (listener d s i)) (with_mark s i true) s h h
  moved_fits s _ h = h

  stays : (w : World) (s : AdcState) (x : Happening Call) → WorldFits w → HappeningFits x → ConverterFits s → ConverterFits (state_by s (happens d w s x))
  stays w s (Acts call times) v f h = act_fits s call (error_by d call (circumstances d s call)) h
  stays w s (Serves l received) v f h = serving_fits (ready d w s l) w s l v h
  stays w s (Starts u made_by received) v f h = start_fits w s (number_of u) h
  stays w s (Aborts u) v f h = abort_fits w s (number_of u) v h
  stays w s (Moves order) v f h = moved_fits s order h
  stays w s (Restarts reason) v f h = (tt, tt, tt)

  pub converter_keeps : Keeps (adc_setting d) ConverterFits
  converter_keeps = record { first = (tt, tt, tt); stays = stays }

-- ---- what is shown

place_fits : (place step : ℕ) (values : List ℕ) (held : ℕ → ℕ) → Each IsNumber values → ((p : ℕ) → IsNumber (held p)) → (p : ℕ) → IsNumber (stored_from place step values held p)
place_fits place step [] held h k p = k p
place_fits place step (x ∷ xs) held h k p = place_fits (place + step) step xs (with_at held place x) h.1 (λ q. chosen IsNumber (q == place) x (held q) h.0 (k q)) p

held_fits : (xs : Results) (g : ℕ) (b : ResultBuffer) (p : ℕ) → Each StoredFits xs → IsNumber (held_in xs g b p)
held_fits [] g b p h = zero_fits
held_fits (x ∷ xs) g b p h =
    chosen (λ (f : ℕ → ℕ). IsNumber (f p)) (g == x.group && is_same b x.buffer) (stored_from x.place x.step x.values (held_in xs x.group x.buffer)) (held_in xs g b)
    (place_fits x.place x.step x.values (held_in xs x.group x.buffer) h.0 (λ q. held_fits xs x.group x.buffer q h.1) p) (held_fits xs g b p h.1)

pub value_fits : (s : AdcState) (g : ℕ) (b : ResultBuffer) (p : ℕ) → ConverterFits s → IsNumber (place_value s g b p)
value_fits s g b p h = held_fits s.results g b p h.2
