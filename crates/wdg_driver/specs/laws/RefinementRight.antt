-- The ground keeps what it owes: at the start, in time, under moves elsewhere and over a reset.
-- From service_outline: Words, service_outline: There.
-- Used by Body, Lawful.
use Rattle.std.proofs.Common.{◌≡◌, ℕ, ◌+◌, ◌-◌, ◌*◌, ◌≤◌, Bool, true, false, ◌==◌, not, Option, Some, None, refl, sym, ◌∙◌, ap, subst, arith}
use Rattle.std.specs.Prelude.{is_some, IsSome, max, option_map}
use Rattle.std.proofs.lemmas.Bool.{and_parts}
use Rattle.std.proofs.lemmas.Bool.Decides.{nat_tests}
use Rattle.chip_model.specs.Chip.{Chip, chip_after, happened, expiry_of, reset_chip, is_masked, word_of}
use Rattle.chip_model.specs.Histories.{sets_rate}
use Rattle.chip_model.proofs.HistoryLaws.{level_leaves, rate-left}
use Rattle.chip_model.proofs.WordLaws.{slice_index-blank}
use Rattle.chip_blocks.specs.units.Watchdogs.{loaded, left_of}
use Rattle.chip_blocks.specs.declared.units.watchdog.Watch.{Watch}
use Rattle.mcal_base.specs.declared.config.wdg.WdgMode.{WdgMode}
use Rattle.mcal_base.specs.declared.config.wdg.WdgMode.TheVariants.{Off, Slow, Fast}
use Rattle.mcal_base.specs.declared.directive.Order.{Order}
use Rattle.mcal_base.specs.declared.directive.Order.TheVariants.{Tick, Level}
use Rattle.mcal_base.specs.declared.directive.Reason.{Reason}
use Rattle.mcal_base.specs.declared.directive.Reason.TheVariants.{PowerOn}
use Rattle.mcal_base.specs.declared.error_name.ErrorName.{ErrorName}
use Rattle.mcal_base.specs.declared.moves.Move.{Move}
use Rattle.mcal_base.specs.declared.moves.Move.TheVariants.{Read, Write, Load, Store}
use Rattle.mcal_base.specs.declared.register.Reg.TheVariants.{SerialData, ClockPll, ClockRate, ResetRequest, WatchdogLoad, TimerLow, CaptureCountLow, CaptureTimeLow, ConverterAbort, PinFlip}
use Rattle.run_model.specs.World.{World, world_after}
use Rattle.run_model.specs.Machine.{Acts, Outcome, ErrorLeaves, tells_nothing, outcome}
use Rattle.run_model.specs.Frame.{Called, is_shared, resets_chip, begins_word, is_reset_service}
use Rattle.run_model.specs.Outside.{StandsIn}
use Rattle.run_model.proofs.OutsideLaws.{stands-move, stands-event, stands-reset}
use Rattle.service_outline.specs.Outline.{IsGround, Comes}
use Rattle.mcal_base.specs.laws.There.{move_there}
use Rattle.service_outline.specs.laws.Words.{stores_in, word_apart, word_later, fills_there}
use Rattle.module_machines.specs.wdg.Bounds.{owns, is_own_word, wdg_setting}
use Rattle.module_machines.specs.wdg.Checks.{service_of, error_by}
use Rattle.wdg_driver.specs.Refinement.{Lag, settled, WatchRepresents, WdgRepresents, wdg_ground}
use Rattle.module_machines.specs.wdg.Machine.{WdgState, first_state, unit_of, deadline_by, set_mode, set_timeout, work, acts_by, happens, expires}
use Rattle.module_machines.specs.wdg.Table.{allows}
use Rattle.wdg_driver.specs.Words.{load_by}
use Rattle.module_machines.specs.declared.wdg.call.Call.{Call}
use Rattle.module_machines.specs.declared.wdg.call.Call.TheVariants.{Init, SetMode, SetTriggerCondition}
use Rattle.module_machines.specs.declared.wdg.table.WdgTable.{WdgTable}
use Rattle.wdg_driver.specs.declared.words.TheConstants.{STATE, TIMEOUT}

-- ---- the watchdog's time

-- what is loaded ends at the deadline
some_ticks : (n : ℕ) → (max 1 n == 0) ≡ false
some_ticks n = grind (arith, nat_tests)

loaded_for : (osc n : ℕ) → WatchRepresents osc (loaded osc (max 1 n)) (Some (osc + max 1 n))
loaded_for osc n = rw (some_ticks n) (omega arith, refl)

once : (n : ℕ) → n * 1 ≡ n
once n = omega arith

pub loaded_agrees : (osc timeout : ℕ) (m : WdgMode) → WatchRepresents osc (loaded osc (load_by m timeout)) (deadline_by osc timeout (unit_of m))
loaded_agrees osc timeout Off = tt
loaded_agrees osc timeout Slow = loaded_for osc (timeout * 16)
loaded_agrees osc timeout Fast = subst (λ n. WatchRepresents osc (loaded osc (max 1 timeout)) (Some (osc + max 1 n))) (sym (once timeout)) (loaded_for osc timeout)

-- it goes on while time passes
watch_later : (osc osc1 : ℕ) (x : Option Watch) (n : Option ℕ) → osc ≤ osc1 → WatchRepresents osc x n → WatchRepresents osc1 x n
watch_later osc osc1 None None le h = tt
watch_later osc osc1 None (Some n) le h = absurd h
watch_later osc osc1 (Some x) None le h = absurd h
watch_later osc osc1 (Some x) (Some n) le h = (omega (arith, le, h.0), h.1)

-- and what is left of it is left until the deadline
left_is : (osc : ℕ) (x : Watch) (n : ℕ) → x.started ≤ osc → x.started + x.ticks ≡ n → n - osc ≡ left_of osc x
left_is osc x n le e = omega (arith, le, e)

watch_left : (osc : ℕ) (x : Option Watch) (n : Option ℕ) → WatchRepresents osc x n → option_map (λ deadline. deadline - osc) n ≡ option_map (left_of osc) x
watch_left osc None None h = refl
watch_left osc None (Some n) h = absurd h
watch_left osc (Some x) None h = absurd h
watch_left osc (Some x) (Some n) h = ap (λ k. Some k) (left_is osc x n h.0 h.1)

expiry_is : (gap : Lag) (chip : Chip) (w : World) (s : WdgState) → WdgRepresents gap chip w s → expires w s ≡ expiry_of chip
expiry_is gap chip w s h = watch_left w.osc chip.watchdog.watch s.deadline h.watch ∙ ap (λ osc. option_map (left_of osc) chip.watchdog.watch) (sym h.outside.osc)

-- ---- after a reset, and in time

reset_agrees : (chip : Chip) (w : World) (reason : Reason) → StandsIn chip w → WdgRepresents settled (reset_chip chip reason) w first_state
reset_agrees chip w reason h = record {
  outside = stands-reset chip w reason h;
  watch = tt;
  mode = λ e. slice_index-blank STATE;
  timeout = λ e. slice_index-blank TIMEOUT;
  few = omega arith;
}

-- a chip with the watchdog and the words of another one agrees with what that one does
pub same_agrees : (gap : Lag) (chip chip1 : Chip) (w w1 : World) (s : WdgState) → StandsIn chip1 w1 → w.osc ≤ w1.osc → chip1.watchdog.watch ≡ chip.watchdog.watch → word_of chip1 STATE ≡ word_of chip STATE → word_of chip1 TIMEOUT ≡ word_of chip TIMEOUT → WdgRepresents gap chip w s → WdgRepresents gap chip1 w1 s
same_agrees gap chip chip1 w w1 s outside le watch state timeout h = record {
  outside = outside;
  watch = subst (λ x. WatchRepresents w1.osc x s.deadline) (sym watch) (watch_later w.osc w1.osc chip.watchdog.watch s.deadline le h.watch);
  mode = λ e. state ∙ h.mode e;
  timeout = λ e. timeout ∙ h.timeout e;
  few = h.few;
}

osc_later : (w : World) (rate : ℕ) (order : Order) → w.osc ≤ (world_after w rate order).osc
osc_later w rate (Tick n) = omega arith
osc_later w rate _ = omega arith

watch_event : (chip : Chip) (order : Order) → (happened chip order).watchdog.watch ≡ chip.watchdog.watch
watch_event chip (Level p v) = level_leaves (λ c. c.watchdog.watch) chip p v refl
watch_event chip _ = refl

later_agrees : (d : WdgTable) (gap : Lag) (chip : Chip) (w : World) (s : WdgState) (order : Order) → Comes (wdg_setting d) chip w s order → WdgRepresents gap chip w s → WdgRepresents gap (happened chip order) (world_after w chip.clock.rate order) s
later_agrees d gap chip w s order free h = same_agrees gap chip (happened chip order) w (world_after w chip.clock.rate order) s
    (stands-event chip w order (fills_there (wdg_setting d) (is_masked chip) w s free.frames order free.free) h.outside)
    (osc_later w chip.clock.rate order) (watch_event chip order)
    (word_later chip order STATE h.outside.all.words (omega arith)) (word_later chip order TIMEOUT h.outside.all.words (omega arith)) h

-- ---- moves elsewhere

watch_apart : (chip : Chip) (made : Move) (received : ℕ) → owns made ≡ false → (chip_after chip made received).watchdog.watch ≡ chip.watchdog.watch
watch_apart chip (Read (TimerLow c)) received e = refl
watch_apart chip (Read (CaptureCountLow c)) received e = refl
watch_apart chip (Read (CaptureTimeLow c)) received e = refl
watch_apart chip (Read (ConverterAbort u)) received e = refl
watch_apart chip (Read (PinFlip p)) received e = refl
watch_apart chip (Write (SerialData u) v) received e = refl
watch_apart chip (Write WatchdogLoad v) received e = absurd (cc)
watch_apart chip _ received e = refl

stores_none : (made : Move) → owns made ≡ false → stores_in is_own_word made ≡ false
stores_none (Store k v) e = e
stores_none _ e = refl

apart_agrees : (gap : Lag) (chip : Chip) (w : World) (s : WdgState) (made : Move) (received : ℕ) → owns made ≡ false → WdgRepresents gap chip w s → WdgRepresents gap (chip_after chip made received) w s
apart_agrees gap chip w s made received e h = same_agrees gap chip (chip_after chip made received) w w s (stands-move chip w made received h.outside) (omega arith) (watch_apart chip made received e)
    (word_apart is_own_word chip made received STATE (stores_none made e) refl) (word_apart is_own_word chip made received TIMEOUT (stores_none made e) refl) h

-- ---- what a frame may do

owned_plain : (made : Move) → owns made ≡ true → is_shared made ≡ false
owned_plain (Load k) e = cc
owned_plain _ e = cc

-- it resets nothing, begins no serial word and sets no rate
plain : (made : Move) → owns made ≡ true → (resets_chip made ≡ false) × (begins_word made ≡ false) × (sets_rate made ≡ false)
plain (Write ResetRequest v) e = absurd (cc)
plain (Write (SerialData u) v) e = absurd (cc)
plain (Write ClockPll v) e = absurd (cc)
plain (Write ClockRate v) e = absurd (cc)
plain _ e = (refl, refl, refl)

asks_none : (c : Call) → is_reset_service (service_of c) ≡ false
asks_none Init = refl
asks_none (SetMode m) = refl
asks_none (SetTriggerCondition n) = refl

-- ---- errors

-- what a call without an error does tells none
work_tells : (d : WdgTable) (w : World) (s : WdgState) (call : Call) → (work d w s call).told.error ≡ None
work_tells d w s Init = refl
work_tells d w s (SetMode None) = refl
work_tells d w s (SetMode (Some m)) = by (allows d m)
  where
    by : (q : Bool) → (set_mode w s m q).told.error ≡ None
    by true = refl
    by false = refl
work_tells d w s (SetTriggerCondition n) = by s.mode
  where
    by : (m : Option WdgMode) → (set_timeout w s n m).told.error ≡ None
    by None = refl
    by (Some m) = refl

acts_leave : (d : WdgTable) (w : World) (s : WdgState) (call : Call) (e : Option ErrorName) → ErrorLeaves s (acts_by d w s call e)
acts_leave d w s call None some = absurd (let k = subst (λ x. IsSome x) (work_tells d w s call) some in cc)
acts_leave d w s call (Some e) some = (refl, refl)

error_leaves : (d : WdgTable) (w : World) (s : WdgState) (call : Call) (times : ℕ → ℕ) (out : Outcome WdgState) → happens d w s (Acts call times) ≡ Some out → ErrorLeaves s out
error_leaves d w s call times out is = subst (λ o. ErrorLeaves s o) (given is) (acts_leave d w s call (error_by d call (not (is_some s.mode))))
  where
    given : {A : Type 0} {x y : A} → Some x ≡ Some y → x ≡ y
    given e = cc

pub ground_right : (d : WdgTable) → IsGround (wdg_ground d)
ground_right d = record {
  starts = λ chip w wired h. reset_agrees chip w PowerOn h;
  moves = λ w s order. refl;
  resets = λ gap chip w s reason h. (outcome first_state tells_nothing, refl, reset_agrees chip w reason h.outside);
  agrees_later = λ gap chip w s order free h. later_agrees d gap chip w s order free h;
  agrees_apart = λ gap chip w s made received e h. apart_agrees gap chip w s made received (e (Called Init)) h;
  may_owns = λ o made e. (and_parts (owns made) _ e).0;
  owns_plain = λ o made e. owned_plain made e;
  may_there = λ o made e. move_there made (and_parts (owns made) _ e).1;
  enables = λ o bits line e other. absurd (cc);
  asks_none = λ c. asks_none c;
  polls_none = λ w s c. refl;
  resets_none = λ o made e. (plain made (and_parts (owns made) _ e).0).0;
  words_none = λ o made e. (plain made (and_parts (owns made) _ e).0).1;
  loads = λ o value h. refl;
  watched = λ gap chip w s has osc h. expiry_is gap chip w s h;
  unwatched = λ w s none. absurd (cc);
  owns_called = λ line made e. (Init, e);
  used_lines = λ line used. absurd (cc);
  due_used = λ chip w s line h e. absurd (cc);
  pends = λ chip w s line lt h. absurd (cc);
  rest = λ chip w s h. tt;
  unmasked = λ chip w s origins h. tt;
  shows = λ chip w s o n h. tt;
  waits = λ chip w s u h. refl;
  error_leaves = λ w s call times out is. error_leaves d w s call times out is;
  count_first = refl;
  count_happens = λ w s h out e. omega arith;
  count_moves = λ w s order out e. omega arith;
  count_resets = λ w s reason out e. omega arith;
  rate_starts = refl;
  may_steady = λ chip o made received e. rate-left chip made received (plain made (and_parts (owns made) _ e).0).2;
  rate_happens = λ w s h out e. refl;
  rate_resets = λ chip w s reason out e. refl;
}
