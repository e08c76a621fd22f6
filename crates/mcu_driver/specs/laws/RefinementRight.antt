-- The basis keeps what it owes: at the start, in time, under moves elsewhere and over a reset.
-- From service_outline: Words, service_outline: There.
-- Used by Reset, Base, Fill, Clock, Lawful and 1 more.
use Rattle.std.proofs.Common.{◌≡◌, ◌<◌, [], ◌∙◌}
use Rattle.mcu_driver.specs.Terms
use Terms.{Acts, acts_by, after_read, after_reset, Agreed, all-step, and_parts, ap, arith, Call, Called}
use Terms.{CaptureCountLow, CaptureTimeLow, Chip, chip_after, Clock, clock-left, clock_of, ClockBlock, ClockPll}
use Terms.{ClockRate, ConverterAbort, DistributePllClock, EnableSet, error_by, ErrorLeaves, ErrorName, false}
use Terms.{fills_there, GetPllStatus, GetResetReason, happened, happens, Hardware, HasAll, Init, InitClock}
use Terms.{InitRamSection, is_locked, is_masked, is_own_word, is_register, is_shared, IsBasis, IsSome, Level, level_leaves, Load, Made, may, MayCome, mcu_basis, mcu_setting, McuTable, McuRepresents, McuState, MODE, Move, move_there, names_there, nat_tests, None, not, Option, Order, Outcome, outcome, owns, PerformReset, PinFlip, PowerOn, Ram, ram-reset, Read, refl, Reg, Reservations, reset_chip, SetMode, sets_rate, slice_index, slice_index-blank, Some, some_same, SOURCES, STATE, Store, stores_in, subst, sym, tells_nothing, Tick, ticked, TimerLow, true, WasReset, word_apart, word_later, word_of, work, World, world_after, Write, ℕ}
use Rattle.mcal_base.specs.declared.directive.Reason.{Reason}

-- ---- after a reset

reset_agrees : (d : McuTable) (chip : Chip) (w : World) (reason : Reason) → HasAll chip → chip.clock.osc ≡ w.osc → McuRepresents d [] (reset_chip chip reason) w (after_reset reason)
reset_agrees d chip w reason all osc = record {
  right = tt;
  all = all-step chip (WasReset reason) tt all;
  clock = ap (λ x. record { osc = x; pll = None; rate = 1; reason = reason }) osc;
  rate = omega arith;
  pll = tt;
  state = slice_index-blank STATE;
  mode = slice_index-blank MODE;
  ram = λ k lt. ram-reset chip reason k [] tt;
}

-- a chip with the RAM and the words of another one, and with this clock
pub same_agrees : (d : McuTable) (held : Reservations) (a b : Chip) (w x : World) (s : McuState) → HasAll b → b.clock ≡ clock_of x s → b.ram ≡ a.ram → ((k : ℕ) → is_own_word k ≡ true → word_of b k ≡ word_of a k) → McuRepresents d held a w s → McuRepresents d held b x s
same_agrees d held a b w x s all clock ram words h = record {
  right = h.right;
  all = all;
  clock = clock;
  rate = h.rate;
  pll = h.pll;
  state = words STATE refl ∙ h.state;
  mode = words MODE refl ∙ h.mode;
  ram = λ k lt. ap (λ ws. slice_index ws k) ram ∙ h.ram k lt;
}

-- ---- in time

ram_later : (chip : Chip) (order : Order) → (happened chip order).ram ≡ chip.ram
ram_later chip (Level p v) = level_leaves (λ c. c.ram) chip p v refl
ram_later chip _ = refl

clock_later : (chip : Chip) (w : World) (s : McuState) (order : Order) → chip.clock ≡ clock_of w s → (happened chip order).clock ≡ clock_of (world_after w chip.clock.rate order) s
clock_later chip w s (Tick n) e = ap (λ (c : ClockBlock). ticked c n) e
clock_later chip w s (Level p v) e = level_leaves (λ c. c.clock) chip p v refl ∙ e
clock_later chip w s _ e = e

below_sources : (k : ℕ) → is_own_word k ≡ true → k < SOURCES
below_sources k e = let lt : k < 64 = grind (arith, nat_tests) in omega (arith, lt)

later_agrees : (d : McuTable) (held : Reservations) (chip : Chip) (w : World) (s : McuState) (order : Order) → MayCome (mcu_setting d) held chip w s order → McuRepresents d held chip w s → McuRepresents d held (happened chip order) (world_after w chip.clock.rate order) s
later_agrees d held chip w s order come h =
    let fills = fills_there (mcu_setting d) (is_masked chip) w s come.frames order come.free in
    same_agrees d held chip (happened chip order) w (world_after w chip.clock.rate order) s (all-step chip (Hardware order) fills h.all) (clock_later chip w s order h.clock) (ram_later chip order) (λ k own. word_later chip order k h.all.words (below_sources k own)) h

-- ---- moves

-- a move leaves all parts
pub all_moved : (chip : Chip) (made : Move) (received : ℕ) → HasAll chip → HasAll (chip_after chip made received)
all_moved chip made received all = all-step chip (Made made received) tt all

ram_read : (chip : Chip) (r : Reg) → (after_read chip r).ram ≡ chip.ram
ram_read chip (TimerLow c) = refl
ram_read chip (CaptureCountLow c) = refl
ram_read chip (CaptureTimeLow c) = refl
ram_read chip (ConverterAbort u) = refl
ram_read chip (PinFlip p) = refl
ram_read chip _ = refl

ram_written : (chip : Chip) (r : Reg) (v received : ℕ) → is_register r ≡ false → (chip_after chip (Write r v) received).ram ≡ chip.ram
ram_written chip (Ram k) v received e = absurd (cc)
ram_written chip _ v received e = refl

ram_apart : (chip : Chip) (made : Move) (received : ℕ) → owns made ≡ false → (chip_after chip made received).ram ≡ chip.ram
ram_apart chip (Read r) received e = ram_read chip r
ram_apart chip (Write r v) received e = ram_written chip r v received e
ram_apart chip _ received e = refl

rate_set : (r : Reg) (v : ℕ) → is_register r ≡ false → sets_rate (Write r v) ≡ false
rate_set ClockPll v e = absurd (cc)
rate_set ClockRate v e = absurd (cc)
rate_set _ v e = refl

unset : (made : Move) → owns made ≡ false → sets_rate made ≡ false
unset (Write r v) e = rate_set r v e
unset _ e = refl

unstored : (made : Move) → owns made ≡ false → stores_in is_own_word made ≡ false
unstored (Store k v) e = e
unstored _ e = refl

pub apart_agrees : (d : McuTable) (held : Reservations) (chip : Chip) (w : World) (s : McuState) (made : Move) (received : ℕ) → owns made ≡ false → McuRepresents d held chip w s → McuRepresents d held (chip_after chip made received) w s
apart_agrees d held chip w s made received e h = same_agrees d held chip (chip_after chip made received) w w s (all_moved chip made received h.all) (clock-left chip made received (unset made e) ∙ h.clock) (ram_apart chip made received e) (λ k own. word_apart is_own_word chip made received k (unstored made e) own) h

-- ---- what a frame may do

pub owned_plain : (made : Move) → owns made ≡ true → is_shared made ≡ false
owned_plain (Read r) e = refl
owned_plain (Write r v) e = refl
owned_plain (Load k) e = refl
owned_plain (Store k v) e = refl
owned_plain _ e = absurd (cc)

pub may_parts : (made : Move) → may made ≡ true → (owns made ≡ true) × (names_there made ≡ true)
may_parts made e = and_parts (owns made) (names_there made) e

enables_none : (bits : ℕ) {A : Type 0} → may (Write EnableSet bits) ≡ true → A
enables_none bits e = absurd (cc)

-- ---- errors and rates

-- what a call without an error does tells none
work_tells : (d : McuTable) (w : World) (s : McuState) (call : Call) → (work d w s call).told.error ≡ None
work_tells d w s Init = refl
work_tells d w s (InitRamSection n) = refl
work_tells d w s (Clock (InitClock n)) = refl
work_tells d w s (Clock DistributePllClock) = refl
work_tells d w s GetPllStatus = refl
work_tells d w s GetResetReason = refl
work_tells d w s PerformReset = refl
work_tells d w s (SetMode m) = refl

acts_leave : (d : McuTable) (w : World) (s : McuState) (call : Call) (e : Option ErrorName) → ErrorLeaves s (acts_by d w s call e)
acts_leave d w s call None some = absurd (let k = subst (λ x. IsSome x) (work_tells d w s call) some in cc)
acts_leave d w s call (Some e) some = (refl, refl)

error_leaves : (d : McuTable) (w : World) (s : McuState) (call : Call) (times : ℕ → ℕ) (out : Outcome McuState) → happens d w s (Acts call times) ≡ Some out → ErrorLeaves s out
error_leaves d w s call times out is = subst (λ o. ErrorLeaves s o) (some_same is) (acts_leave d w s call (error_by d call (not s.initialised) (not (is_locked w s.pll))))

pub basis_right : (d : McuTable) → IsBasis (mcu_basis d)
basis_right d = record {
  starts = λ chip w wired stands. reset_agrees d chip w PowerOn stands.all stands.osc;
  moves = λ held chip w s order come. refl;
  resets = λ held gap chip w s reason h. (outcome (after_reset reason) tells_nothing, refl, reset_agrees d chip w reason h.all (ap (λ c. c.osc) h.clock));
  agrees_later = λ held gap chip w s order come shut h. later_agrees d held chip w s order come h;
  agrees_apart = λ held chip w s made received e h. apart_agrees d held chip w s made received (e (Called Init)) h;
  may_owns = λ o made e. (may_parts made e).0;
  owns_plain = λ o made e. owned_plain made e;
  may_there = λ o made e. move_there made (may_parts made e).1;
  enables = λ o bits line e other. enables_none bits e;
  loads = λ origin value h. h;
  watched = λ held gap chip w s has osc h. cc;
  unwatched = λ w s none. refl;
  owns_called = λ line made e. (Init, e);
  used_lines = λ line e. absurd (cc);
  due_used = λ held chip w s line h e. absurd (cc);
  pends = λ held chip w s line there h e. absurd (cc);
  unused = λ held chip w s line there h free. absurd (cc);
  rests = λ chip w s line there h. absurd (cc);
  unmasked = λ held chip w s origins among h. tt;
  rest = λ chip w s h. h.ram;
  waits = λ chip w s u h. refl;
  error_leaves = λ w s call times out e. error_leaves d w s call times out e;
  count_first = refl;
  count_happens = λ w s h out e. omega arith;
  count_moves = λ w s order out e. omega arith;
  count_resets = λ w s reason out e. omega arith;
  rated = Agreed (λ held gap chip w s h. ap (λ c. c.rate) h.clock);
  rate_starts = refl;
  rate_moves = λ w s order out e. sym (ap (λ o. o.state.rate) (some_same e));
  rate_resets = λ chip w s reason out e. ap (λ o. o.state.rate) (some_same e);
}
