-- The ground keeps what it owes: at the start, in time, under moves elsewhere and over a reset.
-- From Parts, service_outline: Words, module_machines: gpt.Channels, service_outline: There, ChannelTimes.
-- Used by Serve, Mode, DeInit, Switch, Count and 2 more.
use Rattle.std.proofs.Common.{◌≡◌, ℕ, ◌/◌, ◌%◌, ◌<◌, ◌≤◌, ◌^◌, Bool, true, false, ◌&&◌, ◌||◌, ◌==◌, not, nat_lt, Option, Some, None, refl, sym, ◌∙◌, ap, subst, arith}
use Rattle.std.specs.Prelude.{is_some, IsSome}
use Rattle.gpt_driver.specs.laws.Base.{lt-ltb, nat_tests, Chip, chip_after, happened, word_of, Made, level_leaves, rate-left, word-left, Timers, timer_at, is_flagged, flags_of, has_bit-flags_of, has_bit, has_bit-or, has_bit-zero, has_bit-above, has_bit-without, Order, Tick, Level, ErrorName, Move, EnableSet, EnableClear, TimerTarget, TimerLow, World, world_after, tells_nothing, outcome, Called, StandsIn, stands-move, stands-event, stands-reset, error_by, service_of, Lag, settled, TimerAgrees, Word, number_of, IsWord, GptRepresents, gpt_ground, gpt_may, gpt_owns, is_own_word, has_lines, is_for_lines, may_name, may_write, owns_written, GptState, channel_at, first_state, Mode, Off, Normal, Sleep, untouched, is_off, is_asleep, is_busy, is_marked, acts_by, ready, switches, channel_of, bit, Call, Init, SetMode, OfChannel, Changes, Channel, GptTable, Notification, Wakeup, ToSleep, Load, Read, Store, Write, Reg}
use Rattle.chip_model.specs.Chip.{reset_chip, is_masked, is_pending}
use Rattle.chip_model.specs.Histories.{LeavesWord, sets_rate}
use Rattle.chip_model.proofs.PinLaws.{line-timer}
use Rattle.chip_model.proofs.WordLaws.{slice_index-blank}
use Rattle.chip_blocks.specs.timers.Timers.{timers_fresh, idle}
use Rattle.mcal_base.specs.declared.directive.Reason.{Reason}
use Rattle.mcal_base.specs.declared.directive.Reason.TheVariants.{PowerOn}
use Rattle.mcal_base.specs.declared.register.Reg.TheVariants.{SerialData, ClockPll, ClockRate, ResetRequest}
use Rattle.run_model.specs.Frame.{is_shared, resets_chip, begins_word, is_reset_service}
use Rattle.service_outline.specs.Outline.{IsGround, Comes}
use Rattle.mcal_base.specs.laws.There.{move_there}
use Rattle.service_outline.specs.laws.Words.{word_later, fills_there}
use Rattle.module_machines.specs.gpt.Bounds.{gpt_setting}
use Rattle.module_machines.specs.gpt.Machine.{work, happens}
use Rattle.run_model.specs.Machine.{Acts, Outcome, ErrorLeaves}
use Rattle.gpt_driver.specs.laws.ChannelTimes.{marked_used}
use Rattle.module_machines.specs.gpt.laws.Channels.{by_eight, within}
use Rattle.gpt_driver.specs.laws.Parts.{first_value, word_at, marked_here}
use Rattle.std.proofs.lemmas.Bool.{and_parts, ltb-true, ltb-false}

-- ---- after a reset, and in time

fresh_at : (time c : ℕ) → c < 8 → timer_at (timers_fresh time) c ≡ idle
fresh_at time c lt = by_eight (λ i. timer_at (timers_fresh time) i ≡ idle) refl refl refl refl refl refl refl refl c lt

idle_agrees : (k : Option Channel) (bit : Bool) → TimerAgrees k bit idle untouched
idle_agrees k bit = record { count = refl; kept = refl; flag = λ n. refl; set = tt }

-- at power on and after each other reset
reset_agrees : (d : GptTable) (chip : Chip) (w : World) (reason : Reason) → StandsIn chip w → GptRepresents d settled (reset_chip chip reason) w first_state
reset_agrees d chip w reason h = record {
  outside = stands-reset chip w reason h;
  block = λ c lt closed. subst (λ t. TimerAgrees (channel_of d c) (has_bit 0 c) t untouched) (sym (fresh_at chip.timers.time c lt)) (idle_agrees (channel_of d c) (has_bit 0 c));
  words = λ x there closed. slice_index-blank (number_of x) ∙ first_value x;
  lines = λ c lt. has_bit-zero c;
  clean = λ off c. refl;
}

-- a chip with the timers, the module's words and the enable bits of another one agrees with what that one does
same_agrees : (d : GptTable) (gap : Lag) (chip chip1 : Chip) (w w1 : World) (s : GptState) → StandsIn chip1 w1 → chip1.timers ≡ chip.timers → ((x : Word) → IsWord x → word_of chip1 (number_of x) ≡ word_of chip (number_of x)) → ((c : ℕ) → c < 8 → has_bit chip1.control.enabled c ≡ has_bit chip.control.enabled c) → GptRepresents d gap chip w s → GptRepresents d gap chip1 w1 s
same_agrees d gap chip chip1 w w1 s outside timers words enabled h = record {
  outside = outside;
  block = λ c lt closed. subst (λ (x : Timers). TimerAgrees (channel_of d c) (has_bit x.one_shot c) (timer_at x c) (channel_at s c)) (sym timers) (h.block c lt closed);
  words = λ x there closed. words x there ∙ h.words x there closed;
  lines = λ c lt. enabled c lt ∙ h.lines c lt;
  clean = h.clean;
}

later_agrees : (d : GptTable) (gap : Lag) (chip : Chip) (w : World) (s : GptState) (order : Order) → Comes (gpt_setting d) chip w s order → GptRepresents d gap chip w s → GptRepresents d gap (happened chip order) (world_after w chip.clock.rate order) s
later_agrees d gap chip w s order free h = by_order order (stands-event chip w order (fills_there (gpt_setting d) (is_masked chip) w s free.frames order free.free) h.outside) (λ x there. let at = (word_at x there).1 in word_later chip order (number_of x) h.outside.all.words (omega (arith, at)))
  where
    by_order : (order : Order) → StandsIn (happened chip order) (world_after w chip.clock.rate order) → ((x : Word) → IsWord x → word_of (happened chip order) (number_of x) ≡ word_of chip (number_of x)) → GptRepresents d gap (happened chip order) (world_after w chip.clock.rate order) s
    by_order (Tick n) outside words = record { outside = outside; block = h.block; words = h.words; lines = h.lines; clean = h.clean }
    by_order (Level p v) outside words = same_agrees d gap chip (happened chip (Level p v)) w (world_after w chip.clock.rate (Level p v)) s outside (level_leaves (λ c. c.timers) chip p v refl) words (λ c lt. level_leaves (λ k. has_bit k.control.enabled c) chip p v refl) h
    by_order order outside words = same_agrees d gap chip (happened chip order) w (world_after w chip.clock.rate order) s outside refl words (λ c lt. refl) h

-- ---- moves elsewhere

timers_apart : (chip : Chip) (made : Move) (received : ℕ) → gpt_owns made ≡ false → (chip_after chip made received).timers ≡ chip.timers
timers_apart chip (Read (TimerLow c)) received e = cc
timers_apart chip (Write (TimerTarget c) v) received e = cc
timers_apart chip _ received e = cc

-- a word of the module may be named
pub may_word : (j : ℕ) → 16384 ≤ j → j < 16448 → is_own_word j && nat_lt j 147456 ≡ true
may_word j a b = grind (arith, nat_tests)

pub may_words : (x : Word) → IsWord x → is_own_word (number_of x) && nat_lt (number_of x) 147456 ≡ true
may_words x there = let at = word_at x there in may_word (number_of x) at.0 (omega (arith, at))

leaves_word : (made : Move) (received : ℕ) (x : Word) → IsWord x → gpt_owns made ≡ false → LeavesWord (number_of x) (Made made received)
leaves_word (Store j v) received x there e = λ i. let f : is_own_word j ≡ true = subst (λ k. is_own_word k ≡ true) (sym i) (and_parts (is_own_word (number_of x)) _ (may_words x there)).0 in cc
leaves_word _ received x there e = tt

-- a value without a bit of a timer line
no_line : (v c : ℕ) → v % 256 ≡ 0 → c < 8 → has_bit v c ≡ false
no_line v c e lt = by_eight (λ i. has_bit v i ≡ false) (zero_bit (v / 1) (omega arith)) (zero_bit (v / 2) (omega arith)) (zero_bit (v / 4) (omega arith)) (zero_bit (v / 8) (omega arith)) (zero_bit (v / 16) (omega arith)) (zero_bit (v / 32) (omega arith)) (zero_bit (v / 64) (omega arith)) (zero_bit (v / 128) (omega arith)) c lt
  where
    zero_bit : (n : ℕ) → n % 2 ≡ 0 → (n % 2 == 1) ≡ false
    zero_bit n z = ap (λ x. x == 1) z

lines_none : (v : ℕ) → has_lines v ≡ false → (v % 256 ≡ 0) × (v < 2 ^ 32)
lines_none v e = (grind (arith, nat_tests), grind (arith, nat_tests))

without_line : (a b : Bool) → b ≡ false → ((a || b) ≡ a) × ((a && not b) ≡ a)
without_line a b e = (grind arith, grind arith)

enabled_apart : (chip : Chip) (made : Move) (received c : ℕ) → gpt_owns made ≡ false → c < 8 → has_bit (chip_after chip made received).control.enabled c ≡ has_bit chip.control.enabled c
enabled_apart chip (Read (TimerLow k)) received c e lt = refl
enabled_apart chip (Write EnableSet v) received c e lt = has_bit-or chip.control.enabled v c ∙ (without_line (has_bit chip.control.enabled c) (has_bit v c) (no_line v c (lines_none v e).0 lt)).0
enabled_apart chip (Write EnableClear v) received c e lt = has_bit-without chip.control.enabled v c (lines_none v e).1 (omega (arith, lt)) ∙ (without_line (has_bit chip.control.enabled c) (has_bit v c) (no_line v c (lines_none v e).0 lt)).1
enabled_apart chip _ received c e lt = refl

apart_agrees : (d : GptTable) (gap : Lag) (chip : Chip) (w : World) (s : GptState) (made : Move) (received : ℕ) → gpt_owns made ≡ false → GptRepresents d gap chip w s → GptRepresents d gap (chip_after chip made received) w s
apart_agrees d gap chip w s made received e h = same_agrees d gap chip (chip_after chip made received) w w s (stands-move chip w made received h.outside) (timers_apart chip made received e) (λ x there. word-left (number_of x) chip (Made made received) (leaves_word made received x there e)) (λ c lt. enabled_apart chip made received c e lt) h

-- ---- what a frame may do

owned_plain : (made : Move) → gpt_owns made ≡ true → is_shared made ≡ false
owned_plain (Load k) e = cc
owned_plain _ e = cc

lines_named : (v : ℕ) → is_for_lines v ≡ true → has_lines v ≡ true
lines_named v e = grind (arith, nat_tests)

written_owned : (r : Reg) (v : ℕ) → may_write r v ≡ true → owns_written r v ≡ true
written_owned EnableSet v e = lines_named v e
written_owned EnableClear v e = lines_named v e
written_owned _ v e = e

may_owned : (made : Move) → may_name made ≡ true → gpt_owns made ≡ true
may_owned (Write r v) e = written_owned r v e
may_owned _ e = e

-- it resets nothing, begins no serial word and sets no rate
plain : (made : Move) → gpt_may made ≡ true → (resets_chip made ≡ false) × (begins_word made ≡ false) × (sets_rate made ≡ false)
plain (Write ResetRequest v) e = absurd (cc)
plain (Write (SerialData u) v) e = absurd (cc)
plain (Write ClockPll v) e = absurd (cc)
plain (Write ClockRate v) e = absurd (cc)
plain _ e = (refl, refl, refl)

-- and enables no other line
lines_few : (v : ℕ) → is_for_lines v ≡ true → v < 2 ^ 8
lines_few v e = grind (arith, nat_tests)

asks_none : (c : Call) → is_reset_service (service_of c) ≡ false
asks_none (OfChannel c (Changes (Notification true))) = refl
asks_none (OfChannel c (Changes (Wakeup true))) = refl
asks_none _ = refl

-- ---- what is due

pub flag_bit : (d : GptTable) (chip : Chip) (w : World) (s : GptState) (c : ℕ) → c < 8 → GptRepresents d settled chip w s → has_bit (flags_of chip.timers) c ≡ is_marked (channel_of d c) w.now (channel_at s c)
flag_bit d chip w s c lt h = has_bit-flags_of chip.timers c lt ∙ marked_here d chip w s settled h c lt refl

both_on : (f e m : Bool) → f ≡ m → (e ≡ false → m ≡ false) → (f && e) ≡ m
both_on f true m a b = grind arith
both_on f false m a b = grind (arith, b refl)

pends : (d : GptTable) (chip : Chip) (w : World) (s : GptState) (c : ℕ) → nat_lt c 8 ≡ true → GptRepresents d settled chip w s → is_pending chip c ≡ ready d w s c
pends d chip w s c lt h =
    let here = ltb-true c 8 lt in
    line-timer chip c here
    ∙ (both_on (is_flagged (timer_at chip.timers c) chip.timers.time) (has_bit chip.control.enabled c) _ (marked_here d chip w s settled h c here refl) (λ e. unmarked_off (h.clean (off_by s.mode (sym (h.lines c here) ∙ e)) c))
    ∙ sym (ap (λ q. q && is_marked (channel_of d c) w.now (channel_at s c)) lt))
  where
    off_by : (m : Mode) → not (is_off m) ≡ false → is_off m ≡ true
    off_by Off e = refl
    off_by Normal e = absurd (cc)
    off_by Sleep e = absurd (cc)

    unmarked_off : channel_at s c ≡ untouched → is_marked (channel_of d c) w.now (channel_at s c) ≡ false
    unmarked_off e = ap (λ t. is_marked (channel_of d c) w.now t) e

due_used : (d : GptTable) (chip : Chip) (w : World) (s : GptState) (c : ℕ) → GptRepresents d settled chip w s → ready d w s c ≡ true → is_some (channel_of d c) ≡ true
due_used d chip w s c h e = by_test (nat_lt c 8) refl e
  where
    by_test : (q : Bool) → nat_lt c 8 ≡ q → q && is_marked (channel_of d c) w.now (channel_at s c) ≡ true → is_some (channel_of d c) ≡ true
    by_test true i e = marked_used (channel_of d c) _ (channel_at s c).course (channel_at s c).dropped w.now (h.block c (ltb-true c 8 i) refl).set e
    by_test false i e = absurd (cc)

-- ---- errors

-- what a call without an error does tells none
work_tells : (d : GptTable) (w : World) (s : GptState) (call : Call) → (work d w s call).told.error ≡ None
work_tells d w s (SetMode (Some ToSleep)) = refl
work_tells d w s (OfChannel c (Changes by)) = switched (channel_of d c)
  where
    switched : (k : Option Channel) → (switches k s c by).told.error ≡ None
    switched None = refl
    switched (Some k) = refl
work_tells d w s _ = refl

acts_leave : (d : GptTable) (w : World) (s : GptState) (call : Call) (e : Option ErrorName) → ErrorLeaves s (acts_by d w s call e)
acts_leave d w s call None some = absurd (let k = subst (λ x. IsSome x) (work_tells d w s call) some in cc)
acts_leave d w s call (Some e) some = (refl, refl)

error_leaves : (d : GptTable) (w : World) (s : GptState) (call : Call) (times : ℕ → ℕ) (out : Outcome GptState) → happens d w s (Acts call times) ≡ Some out → ErrorLeaves s out
error_leaves d w s call times out is = subst (λ o. ErrorLeaves s o) (given is) (acts_leave d w s call (error_by d call (is_off s.mode) (is_asleep s.mode) (is_busy d w s call)))
  where
    given : {A : Type 0} {x y : A} → Some x ≡ Some y → x ≡ y
    given e = cc

pub ground_right : (d : GptTable) → IsGround (gpt_ground d)
ground_right d = record {
  starts = λ chip w wired h. reset_agrees d chip w PowerOn h;
  moves = λ w s order. refl;
  resets = λ gap chip w s reason h. (outcome first_state tells_nothing, refl, reset_agrees d chip w reason h.outside);
  agrees_later = λ gap chip w s order free h. later_agrees d gap chip w s order free h;
  agrees_apart = λ gap chip w s made received e h. apart_agrees d gap chip w s made received (e (Called Init)) h;
  may_owns = λ o made e. may_owned made (and_parts (may_name made) _ e).0;
  owns_plain = λ o made e. owned_plain made e;
  may_there = λ o made e. move_there made (and_parts (may_name made) _ e).1;
  enables = λ o bits line e other. has_bit-above bits 8 line (lines_few bits (and_parts (is_for_lines bits) true e).0) (ltb-false line 8 other);
  asks_none = λ c. asks_none c;
  polls_none = λ w s c. refl;
  resets_none = λ o made e. (plain made e).0;
  words_none = λ o made e. (plain made e).1;
  loads = λ origin value h. h;
  watched = λ gap chip w s has osc h. cc;
  unwatched = λ w s none. refl;
  owns_called = λ line made e. (Init, e);
  used_lines = λ line used. lt-ltb line 8 (within d line used);
  due_used = λ chip w s line h e. due_used d chip w s line h e;
  pends = λ chip w s line lt h. pends d chip w s line lt h;
  rest = λ chip w s h. tt;
  unmasked = λ chip w s origins h. tt;
  shows = λ chip w s o n h. tt;
  waits = λ chip w s u h. refl;
  error_leaves = λ w s call times out is. error_leaves d w s call times out is;
  count_first = refl;
  count_happens = λ w s h out e. omega arith;
  count_moves = λ w s order out e. omega arith;
  count_resets = λ w s reason out e. omega arith;
  rate_starts = refl;
  may_steady = λ chip o made received e. rate-left chip made received (plain made e).2;
  rate_happens = λ w s h out e. refl;
  rate_resets = λ chip w s reason out e. refl;
}
