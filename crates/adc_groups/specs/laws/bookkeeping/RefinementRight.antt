-- The refinement's obligations without writes that wait, and what they rest on: numbers, turns of a unit, and who listens.
-- From hardware.HardwareMoves, words.Cases, hardware.AfterReset, words.WordsOfModule and 6 more.
-- Used by adc_laws: turns.services.AbortRight, services.EnableTriggerRight, services.StopRight and 14 more.
use Rattle.std.proofs.Common.{◌≡◌, ◌≢◌, ◌+◌, ◌-◌, ◌*◌, ◌/◌, ◌^◌, ◌<◌, ◌≤◌, ◌&&◌, ◌||◌, ◌==◌, [], ◌∷◌, ◌∙◌}
use Rattle.std.proofs.Common.{if◌then◌else◌}
use Rattle.adc_groups.specs.Terms
use Terms.{aborted, aborting, Aborts, aborts, aborts_by, aborts_on, Acts, acts, acts_by, Adc0, Adc1, adc_machine}
use Terms.{adc_setting, AdcRepresents, AdcState, AdcTable, after_round, Agrees, Ahead, all_groups, allowed, and_false}
use Terms.{and_first, and_second, ap, arith, bare, bit, Bool, Call, Called, came, cases, Chip, circumstances, cond}
use Terms.{DisableHardwareTrigger, edged, either, ended-open, eq_is, eq_other, eq_self, error_by, ErrorLeaves}
use Terms.{ErrorName, false, false_from_ne_true, fills_there, FillsThere, first_on_input, first_state, FitsAdc}
use Terms.{GetStreamLastPointer, group_at, group_of, group_of_input, group_work, GroupCall, happened, Happening}
use Terms.{happens, Hardware, has_bit, has_input, has_turn, Idle, if_same, Init, inputs_left, is_converter, is_done}
use Terms.{is_fill, is_for_lines, is_input, is_masked, is_on, is_other, is_pending, is_round_of, is_some}
use Terms.{is_trigger_line, is_unit_line, is_used, IsBasis, IsFree, IsSome, IsSound, kept_by, kept_in, kept_of_round}
use Terms.{length, line-converter, line-trigger, List, listed, listener, listener_among, listens, mark_at, MayCome, min}
use Terms.{move_there, moved, Moves, nat_le, nat_lt, nat_tests, next_group, next_is, None, not, not_filled, number_of}
use Terms.{Option, option_as, Order, Origin, Outcome, outcome, outside_at, points, PowerOn, rate-left, ReadGroup, reads}
use Terms.{ready, Reason, refl, Request, requested, requested_unless_turn, Reservations, reset_chip, Restarts, Round}
use Terms.{round_at, RoundAgrees, same_or_other, served, served_round, served_trigger, Serves, slice_get, slice_index}
use Terms.{slice_index_or, Some, some_same, started, starting, starts, starts_by, Status, Steady, StopGroupConversion}
use Terms.{subst, suc, sym, tells_nothing, trigger_input, true, unit_at, unit_level, unit_named, unit_number, unit_of}
use Terms.{waits_for, whether_as, with_mark, with_round, without_mark, word_of, words_happened, work, World}
use Terms.{world_after, zero, ℕ}
use Rattle.adc_groups.specs.laws.{hardware.AfterReset.{of_past, reset_agrees}, hardware.HardwareMoves.{apart_agrees}}
use Rattle.adc_groups.specs.laws.hardware.HardwareMoves.{by_line, later_agrees, may_parts, other_line, owned_plain}
use Rattle.adc_groups.specs.laws.{hardware.HardwareMoves.{plain}, hardware.StableUnderHardware.{now_here}}
use Rattle.adc_groups.specs.laws.words.WordsOfModule.{unit_is, unit_small}
use Rattle.run_model.specs.Machine.{Starts}
use Rattle.adc_machine.specs.{declared.call.Call.TheVariants.{Group}, Machine.{starts_on}}
use Rattle.chip_blocks.specs.converter.Rounds as rounds
use Rattle.mcal_base.specs.declared.moves.Unit as units
use Rattle.adc_machine.specs.declared.table.Group as configured

-- one more than this at most
abbrev Few : ℕ → AdcState → Type 0
Few n t = t.requests ≤ n + 1

unmarked_few : (n : ℕ) (s : AdcState) (o : Option ℕ) → Few n s → Few n (without_mark s o)
unmarked_few n s None h = h
unmarked_few n s (Some i) h = h

triggered_few : (s : AdcState) (o : Option ℕ) → Few s.requests (requested_unless_turn s o)
triggered_few s None = omega arith
triggered_few s (Some g) = either (Few s.requests) (has_turn s g) s (requested s g) (omega arith) (omega arith)

none_more : (s : AdcState) → Few s.requests s
none_more s = omega arith

turn_few : (d : AdcTable) (m : ℕ) (s : AdcState) (g n : ℕ) (full continuous : Bool) → Few m s → Few m (after_round d s g n full continuous)
turn_few d m s g n true continuous h = unmarked_few m _ (trigger_input (group_of d g)) h
turn_few d m s g n false true h = h
turn_few d m s g n false false h = h

reads_few : (d : AdcTable) (n : ℕ) (s : AdcState) (g : ℕ) (x : Status) → Few n s → Few n (reads d s g x).state
reads_few d n s g Idle h = h
reads_few d n s g _ h = h

points_few : (d : AdcTable) (n : ℕ) (s : AdcState) (g : ℕ) (x : Status) → Few n s → Few n (points d s g x).state
points_few d n s g Idle h = h
points_few d n s g _ h = h

group_few : (d : AdcTable) (s : AdcState) (g : ℕ) (call : GroupCall) → Few s.requests (group_work d s g call).state
group_few d s g StopGroupConversion = unmarked_few s.requests _ (trigger_input (group_of d g)) (omega arith)
group_few d s g DisableHardwareTrigger = unmarked_few s.requests _ (trigger_input (group_of d g)) (omega arith)
group_few d s g ReadGroup = reads_few d s.requests s g (group_at s g).status (omega arith)
group_few d s g GetStreamLastPointer = points_few d s.requests s g (group_at s g).status (omega arith)
group_few d s g _ = omega arith

act_few : (d : AdcTable) (s : AdcState) (call : Call) (o : Option ErrorName) → Few s.requests (acts_by d s call o).state
act_few d s (Group g call) None = group_few d s g call
act_few d s call (Some e) = omega arith
act_few d s _ _ = omega arith

round_few : (d : AdcTable) (w : World) (s : AdcState) (u : ℕ) (q : Option Round) → Few s.requests (served_round d w s u q).state
round_few d w s u None = omega arith
round_few d w s u (Some r) = turn_few d s.requests _ r.group r.request.number _ _ (none_more s)

served_few : (d : AdcTable) (w : World) (s : AdcState) (l : ℕ) → Few s.requests (served d w s l).state
served_few d w s l =
    either (λ (x : Outcome AdcState). Few s.requests x.state) (is_unit_line l) (served_round d w s (l - 24) (round_at s (l - 24))) (outcome (served_trigger d s (l - 28)) tells_nothing)
    (round_few d w s (l - 24) (round_at s (l - 24)))
    (triggered_few (with_mark s (l - 28) false) (listener d s (l - 28)))

start_few : (w : World) (s : AdcState) (u : ℕ) (o : Option ℕ) (out : Outcome AdcState) → starting w s u o ≡ Some out → Few s.requests out.state
start_few w s u None out e = absurd (cc e)
start_few w s u (Some g) out e = came (Few s.requests) (outcome (started w s u g) tells_nothing) out e (omega arith)

starts_few : (d : AdcTable) (w : World) (s : AdcState) (o : Option ℕ) (out : Outcome AdcState) → starts_on d w s o ≡ Some out → Few s.requests out.state
starts_few d w s None out e = absurd (cc e)
starts_few d w s (Some u) out e = start_few w s u (starts d s u) out e

abort_few : (d : AdcTable) (w : World) (s : AdcState) (u : ℕ) (o : Option Round) (out : Outcome AdcState) → aborting d w s u o ≡ Some out → Few s.requests out.state
abort_few d w s u None out e = absurd (cc e)
abort_few d w s u (Some r) out e = came (Few s.requests) (outcome (aborted d w s u r) tells_nothing) out e (omega arith)

aborts_few : (d : AdcTable) (w : World) (s : AdcState) (o : Option ℕ) (out : Outcome AdcState) → aborts_on d w s o ≡ Some out → Few s.requests out.state
aborts_few d w s None out e = absurd (cc e)
aborts_few d w s (Some u) out e = abort_few d w s u (aborts d w s u) out e

moved_few : (d : AdcTable) (s : AdcState) (order : Order) → Few s.requests (moved d s order)
moved_few d s (Order.Trigger i) = either (Few s.requests) _ (with_mark s i true) s (omega arith) (omega arith)
moved_few d s _ = omega arith

pub one_more : (d : AdcTable) (w : World) (s : AdcState) (x : Happening Call) (out : Outcome AdcState) → happens d w s x ≡ Some out → out.state.requests ≤ s.requests + 1
one_more d w s (Acts call times) out e = came (Few s.requests) (acts d s call) out e (act_few d s call (error_by d call (circumstances d s call)))
one_more d w s (Serves l received) out e = allowed (Few s.requests) (ready d w s l) (served d w s l) out e (served_few d w s l)
one_more d w s (Starts u made_by received) out e = starts_few d w s (number_of u) out e
one_more d w s (Aborts u) out e = aborts_few d w s (number_of u) out e
one_more d w s (Moves order) out e = came (Few s.requests) (outcome (moved d s order) tells_nothing) out e (moved_few d s order)
one_more d w s (Restarts reason) out e = came (Few s.requests) (outcome first_state tells_nothing) out e (omega arith)

-- ---- What all services of the driver stand on keeps what it owes, while no move is owed.

-- ---- lines

-- a round is finished on the chip exactly where it is in the machine
all_ended : (start now n : ℕ) → start ≤ now → (min n ((now - start) / 4) == n) ≡ nat_le (start + 4 * n) now
all_ended start now n le = counts_all (nat_le (start + 4 * n) now) refl
  where
    counts_all : (q : Bool) → nat_le (start + 4 * n) now ≡ q → (min n ((now - start) / 4) == n) ≡ nat_le (start + 4 * n) now
    counts_all true e =
        let past : start + 4 * n ≤ now = grind (arith, nat_tests) in
        let same : min n ((now - start) / 4) ≡ n = omega (arith, past) in
        ap (λ m. m == n) same ∙ (eq_self n ∙ sym e)
    counts_all false e =
        let early : now < start + 4 * n = grind (arith, nat_tests) in
        let less : min n ((now - start) / 4) < n = omega (arith, early, le) in
        other (min n ((now - start) / 4)) n less ∙ sym e
      where
        other : (m n : ℕ) → m < n → (m == n) ≡ false
        other m n lt = grind (arith, nat_tests)

module _ (d : AdcTable) (fits : FitsAdc d) (held : Reservations) (chip : Chip) (w : World) (s : AdcState) (h : Agrees d held chip w s) where
  finished_by : (u : ℕ) → u < 2 → (q : Option Round) → round_at s u ≡ q → RoundAgrees d chip.converters w (unit_at chip.converters u) q → rounds.is_finished (unit_at chip.converters u).round chip.converters.time ≡ is_done d w q
  finished_by u lt None e r = ap (λ q. not q && (rounds.ended (unit_at chip.converters u).round chip.converters.time == (unit_at chip.converters u).round.count)) (ap (λ q. is_some q) r.1)
  finished_by u lt (Some r) e a =
      let x = (unit_at chip.converters u).round in
      let t = now_here chip w h.outside in
      let past : r.start ≤ w.now = (h.sound.runs u r e).3 in
      let unclosed : rounds.is_idle x ≡ false = ap (λ q. is_some q) a.on in
      ap (λ q. not q && (rounds.ended x chip.converters.time == x.count)) unclosed
      ∙ (ap (λ m. m == x.count) (ended-open x chip.converters.time unclosed)
      ∙ (ap (λ n. min n ((chip.converters.time - x.start) / 4) == n) a.count
      ∙ (ap (λ m. min (length (inputs_left (group_of d r.group) r)) ((chip.converters.time - m) / 4) == length (inputs_left (group_of d r.group) r)) a.start
      ∙ (ap (λ m. min (length (inputs_left (group_of d r.group) r)) ((m - r.start) / 4) == length (inputs_left (group_of d r.group) r)) t
      ∙ all_ended r.start w.now (length (inputs_left (group_of d r.group) r)) past))))

  pub finished_here : (u : ℕ) → u < 2 → rounds.is_finished (unit_at chip.converters u).round chip.converters.time ≡ is_done d w (round_at s u)
  finished_here u lt = finished_by u lt (round_at s u) refl (h.rounds u lt)

  enabled_on : (l : ℕ) → is_unit_line l || is_trigger_line l ≡ true → s.initialised ≡ true → has_bit chip.control.enabled l ≡ true
  enabled_on l at on = (h.settled on).lines l at

  and_true : (a b : Bool) → b ≡ true → a && b ≡ a
  and_true true b e = e
  and_true false b e = refl

  -- of a unit, and of a trigger input: flag and enable bit by what the machine has
  ready_by : (on flag bit is : Bool) → s.initialised ≡ on → flag ≡ is → (on ≡ true → bit ≡ true) → (on ≡ false → is ≡ false) → flag && bit ≡ on && is
  ready_by true flag bit is e same up down = ap (λ q. q && bit) same ∙ and_true is bit (up refl)
  ready_by false flag bit is e same up down = ap (λ q. q && bit) (same ∙ down refl)

  none_done : (u : ℕ) → s.initialised ≡ false → is_done d w (round_at s u) ≡ false
  none_done u off = ap (λ q. is_done d w q) ((h.sound.rest off 0).1 u)

  unit_pends : (u : ℕ) → u < 2 → (l : ℕ) → is_unit_line l || is_trigger_line l ≡ true → rounds.is_finished (unit_at chip.converters u).round chip.converters.time && has_bit chip.control.enabled l ≡ s.initialised && is_done d w (round_at s u)
  unit_pends u lt l at = ready_by s.initialised _ (has_bit chip.control.enabled l) (is_done d w (round_at s u)) refl (finished_here u lt) (enabled_on l at) (none_done u)

  trigger_pends : (i : ℕ) → i < 4 → (l : ℕ) → is_unit_line l || is_trigger_line l ≡ true → has_bit chip.converters.pulses i && has_bit chip.control.enabled l ≡ s.initialised && mark_at s i
  trigger_pends i lt l at = ready_by s.initialised _ (has_bit chip.control.enabled l) (mark_at s i) refl (h.triggers.flags i lt) (enabled_on l at) (λ off. h.sound.off off i)

  pub pends : (l : ℕ) → is_unit_line l || is_trigger_line l ≡ true → is_pending chip l ≡ ready d w s l
  pends = by_line (λ l. is_pending chip l ≡ ready d w s l)
      (line-converter chip 24 (omega arith) (omega arith) ∙ unit_pends 0 (omega arith) 24 refl)
      (line-converter chip 25 (omega arith) (omega arith) ∙ unit_pends 1 (omega arith) 25 refl)
      (line-trigger chip 28 (omega arith) ∙ trigger_pends 0 (omega arith) 28 refl)
      (line-trigger chip 29 (omega arith) ∙ trigger_pends 1 (omega arith) 29 refl)
      (line-trigger chip 30 (omega arith) ∙ trigger_pends 2 (omega arith) 30 refl)
      (line-trigger chip 31 (omega arith) ∙ trigger_pends 3 (omega arith) 31 refl)

  -- ---- what is due has a user

  done_unit : (u : ℕ) (q : Option Round) → round_at s u ≡ q → is_done d w q ≡ true → is_some (unit_level d u) ≡ true
  done_unit u None e i = absurd (cc)
  done_unit u (Some r) e i = option_as (group_of d r.group) (λ k. is_on u k ≡ true → is_some (unit_level d u) ≡ true)
      (λ k f on. let same : k.unit ≡ u = grind (arith, nat_tests) in subst (λ v. is_some (unit_level d v) ≡ true) same (fits.groups r.group k f).unit)
      (λ f on. absurd (cc)) (h.sound.runs u r e).1

  -- the group that listens has the input
  heard_by : (i : ℕ) (gs : List ℕ) → is_some (listener_among d s i gs) ≡ true → (g : ℕ) × (has_input i (group_of d g) ≡ true)
  heard_by i [] e = absurd (cc)
  heard_by i (g ∷ gs) e = by (listens d s i g) refl (λ j. heard_by i gs j) e
    where
      by : (q : Bool) → listens d s i g ≡ q → (is_some (listener_among d s i gs) ≡ true → (g : ℕ) × (has_input i (group_of d g) ≡ true)) → is_some (cond q (Some g) (listener_among d s i gs)) ≡ true → (g : ℕ) × (has_input i (group_of d g) ≡ true)
      by true f rest j = (g, and_first (has_input i (group_of d g)) (group_at s g).trigger f)
      by false f rest j = rest j

  input_there : (i : ℕ) (k : Option configured.Group) → has_input i k ≡ true → is_some k ≡ true
  input_there i None e = absurd (cc)
  input_there i (Some k) e = refl

  found_on : (i : ℕ) (ks : List (Option configured.Group)) (n : ℕ) → has_input i (slice_index_or ks n None) ≡ true → is_some (first_on_input ks i) ≡ true
  found_on i [] n e = absurd (cc)
  found_on i (k ∷ ks) zero e = ap (λ q. is_some (cond q k (first_on_input ks i))) e ∙ input_there i k e
  found_on i (k ∷ ks) (suc n) e = whether_as (has_input i k) (λ q. is_some (cond q k (first_on_input ks i)) ≡ true)
      (λ f. input_there i k f) (λ f. (found_on i ks n e))

  input_found : (i g : ℕ) → has_input i (group_of d g) ≡ true → is_some (group_of_input d i) ≡ true
  input_found i g e =
      whether_as (nat_lt g 16) (λ q. has_input i (if q then slice_index_or d.groups g None else None) ≡ true → is_some (first_on_input d.groups i) ≡ true)
      (λ _ j. found_on i d.groups g j) (λ f j. absurd (cc)) e

  marked_used : (i : ℕ) → mark_at s i ≡ true → is_some (group_of_input d i) ≡ true
  marked_used i e = let g = heard_by i all_groups (h.sound.marks i e) in input_found i g.0 g.1

  pub due_used : (l : ℕ) → is_unit_line l || is_trigger_line l ≡ true → ready d w s l ≡ true → is_used d l ≡ true
  due_used = by_line (λ l. ready d w s l ≡ true → is_used d l ≡ true)
      (λ e. done_unit 0 (round_at s 0) refl (and_second s.initialised _ e))
      (λ e. done_unit 1 (round_at s 1) refl (and_second s.initialised _ e))
      (λ e. marked_used 0 (and_second s.initialised _ e))
      (λ e. marked_used 1 (and_second s.initialised _ e))
      (λ e. marked_used 2 (and_second s.initialised _ e)) (λ e. marked_used 3 (and_second s.initialised _ e))

  -- ---- no unit waits at rest

  none_next : s.initialised ≡ false → (u : ℕ) → next_group d s u ≡ None
  none_next off u = option_as (next_group d s u) (λ o. o ≡ None)
      (λ g e. absurd (waits g (next_is d s u g e).waits)) (λ _. refl)
    where
      waits : (g : ℕ) → waits_for d s u g ≡ true → ⊥
      waits g e =
          let turn : has_turn s g ≡ false = (h.sound.groups g).turn (h.sound.rest off g).0 in
          both (is_some (group_at s g).waiting) _ _ (and_second (is_on u (group_of d g)) (is_some (group_at s g).waiting) e) turn
        where
          both : (a b c : Bool) → a ≡ true → a || b || c ≡ false → ⊥
          both true b c e f = cc
          both false b c e f = cc

module _ (d : AdcTable) (fits : FitsAdc d) (chip : Chip) (w : World) (s : AdcState) (h : Agrees d [] chip w s) where
  none_starts : (u : ℕ) → is_some (starts d s u) || is_some (aborts d w s u) ≡ false
  none_starts u = whether_as s.initialised (λ on. is_some (starts d s u) || is_some (aborts d w s u) ≡ false)
      (λ e.
      let p = (h.settled e).promised u in
      ap (λ q. q || is_some (aborts d w s u)) (false_from_ne_true (is_some (starts d s u)) (λ i. let f = p.starts i in cc)) ∙ false_from_ne_true (is_some (aborts d w s u)) (λ i. let f = p.yields i in cc))
      (λ e.
      let free = (h.sound.rest e 0).1 u in
      ap (λ q. is_some (starts_by q (next_group d s u)) || is_some (aborts_by d w s u q)) free ∙ ap (λ o. is_some o || false) (none_next d fits [] chip w s h e u))

  waits : (u : units.Unit) → (adc_machine d).startable w s u ≡ false
  waits Adc0 = none_starts 0
  waits Adc1 = none_starts 1
  waits _ = refl

-- ---- errors

reads_tell : (d : AdcTable) (s : AdcState) (g : ℕ) (x : Status) → (reads d s g x).told.error ≡ None
reads_tell d s g Idle = refl
reads_tell d s g _ = refl

points_tell : (d : AdcTable) (s : AdcState) (g : ℕ) (x : Status) → (points d s g x).told.error ≡ None
points_tell d s g Idle = refl
points_tell d s g _ = refl

group_tells : (d : AdcTable) (s : AdcState) (g : ℕ) (call : GroupCall) → (group_work d s g call).told.error ≡ None
group_tells d s g ReadGroup = reads_tell d s g (group_at s g).status
group_tells d s g GetStreamLastPointer = points_tell d s g (group_at s g).status
group_tells d s g _ = refl

work_tells : (d : AdcTable) (s : AdcState) (call : Call) → (work d s call).told.error ≡ None
work_tells d s (Group g call) = group_tells d s g call
work_tells d s _ = refl

acts_leave : (d : AdcTable) (s : AdcState) (call : Call) (e : Option ErrorName) → ErrorLeaves s (acts_by d s call e)
acts_leave d s call None some = absurd (let k = subst (λ x. IsSome x) (work_tells d s call) some in cc)
acts_leave d s call (Some e) some = (refl, refl)

error_leaves : (d : AdcTable) (w : World) (s : AdcState) (call : Call) (times : ℕ → ℕ) (out : Outcome AdcState) → happens d w s (Acts call times) ≡ Some out → ErrorLeaves s out
error_leaves d w s call times out is = subst (λ o. ErrorLeaves s o) (some_same is) (acts_leave d s call (error_by d call (circumstances d s call)))

-- ---- all of it

-- a line that is used is one of the module's
used_line : (d : AdcTable) (l : ℕ) → is_used d l ≡ true → is_unit_line l || is_trigger_line l ≡ true
used_line d l e = by (is_unit_line l) (is_some (unit_level d (l - 24))) e
  where
    by : (u lev : Bool) → cond u lev (is_trigger_line l && is_some (group_of_input d (l - 28))) ≡ true → u || is_trigger_line l ≡ true
    by true lev e = refl
    by false lev e = and_first (is_trigger_line l) (is_some (group_of_input d (l - 28))) e

-- and only one of them is due
due_line : (d : AdcTable) (w : World) (s : AdcState) (l : ℕ) → ready d w s l ≡ true → is_unit_line l || is_trigger_line l ≡ true
due_line d w s l e = by (is_unit_line l) (and_second s.initialised _ e)
  where
    by : (u : Bool) → cond u (is_done d w (round_at s (l - 24))) (is_trigger_line l && mark_at s (l - 28)) ≡ true → u || is_trigger_line l ≡ true
    by true e = refl
    by false e = and_first (is_trigger_line l) (mark_at s (l - 28)) e

words_kept : (chip : Chip) (ws : List ℕ) (order : Order) → is_fill order ≡ false → happened (record chip { words = ws }) order ≡ record (happened chip order) { words = ws }
words_kept chip ws (Order.Level p v) e = if_same {A = Chip} (λ (c : Chip). record c { words = ws }) (is_other (outside_at chip p) v) (edged chip p v) chip
words_kept chip ws (Order.Fill k xs) e = absurd (cc)
words_kept chip ws _ e = refl

module _ (d : AdcTable) (fits : FitsAdc d) where
  unused_free : (held : Reservations) (chip : Chip) (w : World) (s : AdcState) (l : ℕ) → is_unit_line l || is_trigger_line l ≡ true → Agrees d held chip w s → is_used d l ≡ false → is_pending chip l ≡ false
  unused_free held chip w s l at h free = pends d fits held chip w s h l at ∙ whether_as (ready d w s l) (λ q. q ≡ false)
      (λ e. absurd (let u = due_used d fits held chip w s h l at e in cc)) (λ _. refl)

  resets_by : (held : Reservations) (gap : Ahead) (chip : Chip) (w : World) (reason : Reason) (s : AdcState) → AdcRepresents d held gap chip w s → Agrees d [] (reset_chip chip reason) w first_state
  resets_by held None chip w reason s h = reset_agrees d chip w reason h.outside (of_past chip w h.outside)
  resets_by held (Some u) chip w reason s h = reset_agrees d (record chip { words = h.0 }) w reason h.1.outside (of_past (record chip { words = h.0 }) w h.1.outside)

  some_none : (u : ℕ) → Some u ≡ None → ⊥
  some_none u e = cc

  word_kept : (chip : Chip) (order : Order) (k : ℕ) (masked : Bool) → is_masked chip ≡ masked → (is_masked chip ≡ false → ⊥) → (w : World) (s : AdcState) (origins : List (Origin Call)) → IsFree (adc_setting d) masked w s origins order → word_of (happened chip order) k ≡ word_of chip k
  word_kept chip order k false e shut w s origins free = absurd (shut e)
  word_kept chip order k true e shut w s origins free = ap (λ ws. slice_index ws k) (words_happened chip order (not_filled (adc_setting d) w s origins order free))

  words_long : (chip : Chip) (order : Order) (masked : Bool) → is_masked chip ≡ masked → (is_masked chip ≡ false → ⊥) → (w : World) (s : AdcState) (origins : List (Origin Call)) → IsFree (adc_setting d) masked w s origins order → length (happened chip order).words ≡ length chip.words
  words_long chip order false e shut w s origins free = absurd (shut e)
  words_long chip order true e shut w s origins free = ap length (words_happened chip order (not_filled (adc_setting d) w s origins order free))

  -- while words are ahead the mask is closed, so that no array is filled
  ahead_later : (held : Reservations) (ws : List ℕ) (chip : Chip) (w : World) (s : AdcState) (order : Order) (masked : Bool) → is_masked chip ≡ masked → (is_masked chip ≡ false → ⊥) → (origins : List (Origin Call)) → IsFree (adc_setting d) masked w s origins order → FillsThere (Hardware order)
      → Agrees d held (record chip { words = ws }) w s → Agrees d held (record (happened chip order) { words = ws }) (world_after w chip.clock.rate order) (moved d s order)
  ahead_later held ws chip w s order false e shut origins free fills h = absurd (shut e)
  ahead_later held ws chip w s order true e shut origins free fills h = subst (λ c. Agrees d held c (world_after w chip.clock.rate order) (moved d s order)) (words_kept chip ws order (not_filled (adc_setting d) w s origins order free)) (later_agrees d fits held (record chip { words = ws }) w s h order fills)

  later_by : (held : Reservations) (gap : Ahead) (chip : Chip) (w : World) (s : AdcState) (order : Order) → MayCome (adc_setting d) held chip w s order → (is_masked chip ≡ false → gap ≡ None) → AdcRepresents d held gap chip w s → AdcRepresents d held gap (happened chip order) (world_after w chip.clock.rate order) (moved d s order)
  later_by held None chip w s order come shut h = later_agrees d fits held chip w s h order (fills_there (adc_setting d) (is_masked chip) w s come.frames order come.free)
  later_by held (Some u) chip w s order come shut h =
      let none = λ (e : is_masked chip ≡ false). (let f = shut e in some_none u f) in
      let fills = fills_there (adc_setting d) (is_masked chip) w s come.frames order come.free in
      (h.0, ahead_later held h.0 chip w s order (is_masked chip) refl none come.frames come.free fills h.1, λ k e. h.2 k e ∙ sym (word_kept chip order k (is_masked chip) refl none w s come.frames come.free), words_long chip order (is_masked chip) refl none w s come.frames come.free ∙ h.3)

  pub bare_right : IsBasis (bare d)
  bare_right = record {
    starts = λ chip w wired stands. reset_agrees d chip w PowerOn stands (of_past chip w stands);
    moves = λ held chip w s order come. refl;
    resets = λ held gap chip w s reason h. (outcome first_state tells_nothing, refl, resets_by held gap chip w reason s h);
    agrees_later = later_by;
    agrees_apart = λ held chip w s made received e h. apart_agrees d fits held chip w s made received (e (Called Init)) h;
    may_owns = λ o made e. (may_parts d made e).0;
    owns_plain = λ o made e. owned_plain d made e;
    may_there = λ o made e. move_there made (may_parts d made e).1;
    enables = λ o bits line e other. other_line bits line (and_first (is_for_lines bits) true e) other;
    loads = λ origin value h. h;
    watched = λ held gap chip w s has osc h. cc;
    unwatched = λ w s none. refl;
    owns_called = λ line made e. (Init, e);
    used_lines = λ line e. used_line d line e;
    due_used = λ held chip w s line h e. due_used d fits held chip w s h line (due_line d w s line e) e;
    pends = λ held chip w s line there h due. pends d fits held chip w s h line there ∙ due;
    rests = λ chip w s line there h. pends d fits [] chip w s h line there;
    unused = λ held chip w s line there h free. unused_free held chip w s line there h free;
    unmasked = λ held chip w s origins among h. tt;
    rest = λ chip w s h g b p lt. h.places g b p lt refl;
    waits = λ chip w s u h. waits d fits chip w s h u;
    error_leaves = λ w s call times out is. error_leaves d w s call times out is;
    count_first = refl;
    count_happens = λ w s x out e. one_more d w s x out e;
    count_moves = λ w s order out e. moved_few d s order out e;
    count_resets = λ w s reason out e. (let at : 0 ≡ out.state.requests = ap (λ (o : Outcome AdcState). o.state.requests) (some_same e) in omega (arith, at));
    rated = Steady (λ chip o made received e. rate-left chip made received (plain d made e).2) (λ w s x out e. refl);
    rate_starts = refl;
    rate_moves = λ w s order out e. refl;
    rate_resets = λ chip w s reason out e. refl;
  }
    where
      moved_same : (order : Order) (s : AdcState) → (moved d s order).requests ≡ s.requests
      moved_same (Order.Trigger i) s =
          elim (is_some (listener d s i)) as (λ q. (cond q (with_mark s i true) s).requests ≡ s.requests)
          [ true ↦ refl | false ↦ refl ]
      moved_same _ s = refl

      moved_few : (d1 : AdcTable) (s : AdcState) (order : Order) (out : Outcome AdcState) → Some (outcome (moved d s order) tells_nothing) ≡ Some out → out.state.requests ≤ s.requests
      moved_few d1 s order out e = let at : (moved d s order).requests ≡ out.state.requests = ap (λ (o : Outcome AdcState). o.state.requests) (some_same e) in let same = moved_same order s in omega (arith, at, same)

-- ---- Turns of groups on a unit: whose round the unit has, by the groups that wait.

-- ---- the names of units

pub named_converter : (u : ℕ) → u < 2 → is_converter (unit_named u) ≡ true
named_converter (suc (suc u)) lt = absurd (omega (arith, lt))
named_converter _ lt = refl

pub named_number : (u : ℕ) → u < 2 → u ≡ unit_number (unit_named u)
named_number (suc (suc u)) lt = absurd (omega (arith, lt))
named_number _ lt = refl

pub named_of : (u : ℕ) → u < 2 → number_of (unit_named u) ≡ Some u
named_of (suc (suc u)) lt = absurd (omega (arith, lt))
named_of _ lt = refl

-- ---- rounds and turns

-- a unit's round gives its group a turn
pub round_turn : (s : AdcState) (g u : ℕ) → u < 2 → is_round_of g (round_at s u) ≡ true → has_turn s g ≡ true
round_turn s g zero lt e = by (is_some (group_at s g).waiting) (is_round_of g (round_at s 0)) (is_round_of g (round_at s 1)) e
  where
    by : (a b c : Bool) → b ≡ true → a || b || c ≡ true
    by false false c f = absurd (cc)
    by _ _ c f = refl
round_turn s g (suc zero) lt e = by (is_some (group_at s g).waiting) (is_round_of g (round_at s 0)) (is_round_of g (round_at s 1)) e
  where
    by : (a b c : Bool) → c ≡ true → a || b || c ≡ true
    by false false c f = f
    by _ _ c f = refl
round_turn s g (suc (suc u)) lt e = absurd (omega (arith, lt))

-- and so does a request
pub waits_turn : (s : AdcState) (g : ℕ) → is_some (group_at s g).waiting ≡ true → has_turn s g ≡ true
waits_turn s g e = ap (λ q. q || is_round_of g (round_at s 0) || is_round_of g (round_at s 1)) e

-- no unit past the second has a round
pub none_past : (d : AdcTable) (w : World) (s : AdcState) → IsSound d w s → (v : ℕ) → round_at s (suc (suc v)) ≡ None
none_past d w s sound v = option_as (round_at s (suc (suc v))) (λ q. q ≡ None)
    (λ x e. let less = (sound.runs (suc (suc v)) x e).0 in absurd (omega (arith, less))) (λ _. refl)

-- the other unit's round stays
pub round_other : (s : AdcState) (u : ℕ) (q : Option Round) → ((v : ℕ) → round_at s (suc (suc v)) ≡ None) → (v : ℕ) → v ≢ u → round_at (with_round s u q) v ≡ round_at s v
round_other s u q past zero ne = ap (λ b. cond b q (round_at s 0)) (eq_other 0 u ne)
round_other s u q past (suc zero) ne = ap (λ b. cond b q (round_at s 1)) (eq_other 1 u ne)
round_other s u q past (suc (suc v)) ne = sym (past v)

module _ (d : AdcTable) (fits : FitsAdc d) (w : World) (s : AdcState) (sound : IsSound d w s) where
  -- a round of a group is on the group's unit
  pub unit_of_round : (k v : ℕ) → is_round_of k (round_at s v) ≡ true → v ≡ unit_of (group_of d k)
  unit_of_round k v e = option_as (round_at s v) (λ q. is_round_of k q ≡ true → v ≡ unit_of (group_of d k))
      (λ x i j. let on = (sound.runs v x i).1 in sym (unit_is d fits v (group_of d k) (subst (λ n. is_on v (group_of d n) ≡ true) (eq_is x.group k j) on)))
      (λ i j. absurd (cc)) e

  -- a group of a unit that has a turn and doesn't wait has the unit's round
  pub turn_round : (u k : ℕ) → has_turn s k ≡ true → (group_at s k).waiting ≡ None → is_on u (group_of d k) ≡ true → is_round_of k (round_at s u) ≡ true
  turn_round u k on none unit = by (is_round_of k (round_at s 0)) refl (is_round_of k (round_at s 1)) refl (sym (ap (λ q. is_some q || is_round_of k (round_at s 0) || is_round_of k (round_at s 1)) none) ∙ on)
    where
      here : (v : ℕ) → is_round_of k (round_at s v) ≡ true → is_round_of k (round_at s u) ≡ true
      here v e = subst (λ n. is_round_of k (round_at s n) ≡ true) (unit_of_round k v e ∙ unit_is d fits u (group_of d k) unit) e

      by : (a : Bool) → is_round_of k (round_at s 0) ≡ a → (b : Bool) → is_round_of k (round_at s 1) ≡ b → (false || a || b) ≡ true → is_round_of k (round_at s u) ≡ true
      by true e b i j = here 0 e
      by false e true i j = here 1 i
      by false e false i j = absurd (cc)

  -- what the round of a group keeps, and what its request does
  pub kept_round : (u : ℕ) (x : Round) → round_at s u ≡ Some x → kept_in d s x.group ≡ x.request.kept
  kept_round u x e =
      let run = sound.runs u x e in
      ap (λ q. kept_by q (kept_of_round x.group (round_at s (unit_of (group_of d x.group))))) run.2
      ∙ (ap (λ v. kept_of_round x.group (round_at s v)) (unit_is d fits u (group_of d x.group) run.1)
      ∙ (ap (λ o. kept_of_round x.group o) e ∙ ap (λ q. if q then x.request.kept else []) (eq_self x.group)))

  pub kept_request : (g : ℕ) (q : Request) → (group_at s g).waiting ≡ Some q → kept_in d s g ≡ q.kept
  kept_request g q e = ap (λ o. kept_by o (kept_of_round g (round_at s (unit_of (group_of d g))))) e

-- a unit is one group's alone
pub off_unit : (d : AdcTable) → FitsAdc d → (g u v : ℕ) → is_on u (group_of d g) ≡ true → v ≢ u → is_on v (group_of d g) ≡ false
off_unit d fits g u v at ne = whether_as (is_on v (group_of d g)) (λ z. z ≡ false)
    (λ e. absurd (ne (sym (unit_is d fits v (group_of d g) e) ∙ unit_is d fits u (group_of d g) at))) (λ e. refl)

-- ---- A group without a turn keeps nothing.

-- none of three is
none_of : (a b c : Bool) → a || b || c ≡ false → (a ≡ false) × (b ≡ false) × (c ≡ false)
none_of false false c e = (refl, refl, e)
none_of _ _ c e = absurd (cc)

of_waiting : (q : Option Request) (r : Option Round) (g : ℕ) → is_some q ≡ false → kept_by q (kept_of_round g r) ≡ kept_of_round g r
of_waiting None r g e = refl
of_waiting (Some q) r g e = absurd (cc)

of_round : (g : ℕ) (r : Option Round) → is_round_of g r ≡ false → kept_of_round g r ≡ []
of_round g None e = refl
of_round g (Some x) e = ap (λ q. if q then x.request.kept else []) e

-- no unit has a round of a group without a turn, and it doesn't wait
pub none_waits : (s : AdcState) (g : ℕ) → has_turn s g ≡ false → is_some (group_at s g).waiting ≡ false
none_waits s g e = (none_of (is_some (group_at s g).waiting) (is_round_of g (round_at s 0)) (is_round_of g (round_at s 1)) e).0

pub none_runs : (s : AdcState) (g : ℕ) → has_turn s g ≡ false → (v : ℕ) → v < 2 → is_round_of g (round_at s v) ≡ false
none_runs s g e zero lt = (none_of (is_some (group_at s g).waiting) (is_round_of g (round_at s 0)) (is_round_of g (round_at s 1)) e).1
none_runs s g e (suc zero) lt = (none_of (is_some (group_at s g).waiting) (is_round_of g (round_at s 0)) (is_round_of g (round_at s 1)) e).2
none_runs s g e (suc (suc v)) lt = absurd (omega (arith, lt))

pub kept_none : (d : AdcTable) (fits : FitsAdc d) (s : AdcState) (g : ℕ) → is_some (group_of d g) ≡ true → has_turn s g ≡ false → kept_in d s g ≡ []
kept_none d fits s g there none =
    of_waiting (group_at s g).waiting (round_at s (unit_of (group_of d g))) g (none_waits s g none)
    ∙ of_round g (round_at s (unit_of (group_of d g))) (none_runs s g none (unit_of (group_of d g)) (unit_small d fits g there))

-- ---- Which group a trigger input is for, once the trigger of one group was switched on or off.

-- the input of a group is one of the four
pub input_small : (d : AdcTable) → FitsAdc d → (g i : ℕ) → trigger_input (group_of d g) ≡ Some i → i < 4
input_small d fits g i e = option_as (group_of d g) (λ k. trigger_input k ≡ Some i → i < 4)
    (λ k f h. (fits.groups g k f).trigger i h) (λ f h. absurd (cc)) e

pub bit_is : (i : ℕ) → i < 4 → bit i ≡ 2 ^ i
bit_is i lt = let few : nat_lt i 32 ≡ true = grind (arith, nat_tests) in ap (λ q. if q then 2 ^ i else 0) few

module _ (d : AdcTable) (fits : FitsAdc d) (s t : AdcState) (g i : ℕ) (input : trigger_input (group_of d g) ≡ Some i) (same : (k : ℕ) → k ≢ g → (group_at t k).trigger ≡ (group_at s k).trigger) where
  has_own : has_input i (group_of d g) ≡ true
  has_own = ap (λ o. is_input i o) input ∙ eq_self i

  has_no_other : (j : ℕ) → j ≢ i → has_input j (group_of d g) ≡ false
  has_no_other j ne = ap (λ o. is_input j o) input ∙ eq_other i j (λ e. ne (sym e))

  alone : (k : ℕ) → k ≢ g → has_input i (group_of d k) ≡ false
  alone k ne = option_as (trigger_input (group_of d k)) (λ o. is_input i o ≡ false)
      (λ j e. whether_as (j == i) (λ q. q ≡ false)
      (λ f. let at : j ≡ i = eq_is j i f in absurd (ne (fits.alone k g i (e ∙ ap (λ n. Some n) at) input)))
      (λ f. refl))
      (λ _. refl)

  among_same : (j : ℕ) → ((k : ℕ) → listens d t j k ≡ listens d s j k) → (ks : List ℕ) → listener_among d t j ks ≡ listener_among d s j ks
  among_same j one [] = refl
  among_same j one (k ∷ ks) = ap (λ q. cond q (Some k) (listener_among d t j ks)) (one k) ∙ ap (λ o. cond (listens d s j k) (Some k) o) (among_same j one ks)

  pub listener_other : (j : ℕ) → j ≢ i → listener d t j ≡ listener d s j
  listener_other j ne = among_same j one all_groups
    where
      one : (k : ℕ) → listens d t j k ≡ listens d s j k
      one k = cases (same_or_other k g)
          (λ e. let off : has_input j (group_of d k) ≡ false = ap (λ n. has_input j (group_of d n)) e ∙ has_no_other j ne in ap (λ q. q && (group_at t k).trigger) off ∙ sym (ap (λ q. q && (group_at s k).trigger) off))
          (λ nk. ap (λ q. has_input j (group_of d k) && q) (same k nk))

  found : (ks : List ℕ) (n : ℕ) → slice_get ks n ≡ Some g → listens d t i g ≡ true → is_some (listener_among d t i ks) ≡ true
  found [] n e on = absurd (cc)
  found (k ∷ ks) zero e on = let at : k ≡ g = cc in ap (λ q. is_some (cond q (Some k) (listener_among d t i ks))) (ap (λ n. listens d t i n) at ∙ on)
  found (k ∷ ks) (suc n) e on = whether_as (listens d t i k) (λ q. is_some (cond q (Some k) (listener_among d t i ks)) ≡ true)
      (λ _. refl) (λ _. (found ks n e on))

  pub listener_on : g < 16 → (group_at t g).trigger ≡ true → is_some (listener d t i) ≡ true
  listener_on lt on = found all_groups g (listed g lt) (ap (λ q. q && (group_at t g).trigger) has_own ∙ on)

  none_among : (ks : List ℕ) → ((k : ℕ) → listens d t i k ≡ false) → listener_among d t i ks ≡ None
  none_among [] off = refl
  none_among (k ∷ ks) off = ap (λ q. cond q (Some k) (listener_among d t i ks)) (off k) ∙ none_among ks off

  pub listener_off : (group_at t g).trigger ≡ false → listener d t i ≡ None
  listener_off off = none_among all_groups one
    where
      one : (k : ℕ) → listens d t i k ≡ false
      one k = cases (same_or_other k g)
          (λ e. ap (λ n. listens d t i n) e ∙ (ap (λ q. has_input i (group_of d g) && q) off ∙ and_false (has_input i (group_of d g))))
          (λ ne. ap (λ q. q && (group_at t k).trigger) (alone k ne))
