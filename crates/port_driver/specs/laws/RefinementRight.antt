-- The basis keeps what it owes: at the start, in time, under moves elsewhere and over a reset; and what writes leave of the agreement.
-- From service_outline: Words, Halves, service_outline: There.
-- Used by Init, Pins, Refresh, Guests, Lawful.
use Rattle.std.proofs.Common.{◌≡◌, ◌/◌, ◌%◌, ◌<◌, ◌≢◌, ◌&&◌, ◌||◌, [], ◌∷◌, ◌∙◌, if◌then◌else◌}
use Rattle.port_driver.specs.Terms
use Terms.{Acts, acts_by, Adc, after_read, all-step, and_parts, ap, arith, begins_word, bit_of, Bool, Call, Called}
use Terms.{CaptureCountLow, CaptureTimeLow, Chip, chip_after, ConverterAbort, Dio, Directions, DirectionsAgree}
use Terms.{error_by, ErrorLeaves, ErrorName, false, fills_there, first_state, Fixed, FrameHistory, get_or-replicate}
use Terms.{happened, happens, Hardware, has_bit, has_bit-zero, HasAll, HeldRight, Icu, Init, is_alone, is_guests, is_masked}
use Terms.{is_of_init, is_out, is_own_word, is_register, is_shared, IsBasis, IsWhole, LatchesAgree, length, length-replicate}
use Terms.{Level, level_leaves, Levels, list_any, Load, lt_zero, Made, may, mode_number, ModesAgree, Move, move_there}
use Terms.{names_there, nat_lt, nat_tests, None, not, Option, Order, Origin, Outcome, outcome, owners, owns, past_wrote}
use Terms.{Pin, pin_at, pin_of, PinDirectionClear, PinDirectionSet, PinFlip, PinMode, PinOutClear, PinOutSet, PinsAgree, port_basis, port_may, port_setting, PortTable, PortPinMode, PortPut, PortRepresents, PortState, PowerOn, put_mode, Pwm, rank_of, rate-left, Read, Reason, refl, Reg, register, Reservations, reset_chip, resets_chip, SendsRight, sets_rate, Side, slice_index, slice_index-blank, slice_set, Some, SOURCES, Spi, STATE, Steady, Store, stores_in, subst, suc, sym, tells_nothing, TimerLow, true, wants, WasReset, word_apart, word_later, word_of, words-write, World, world_after, Write, writes_latches, written_in, zero, ℕ}
use Rattle.port_driver.specs.laws.Halves.{halves_after, put_none}
use Rattle.chip_blocks.specs.units.Pins as pins

pub put_mode_none : (k : Option Pin) (rank : ℕ) (old : PortPinMode) → put_mode k rank 0 old ≡ old
put_mode_none None rank old = refl
put_mode_none (Some k) rank old = ap (λ q. if q then k.initial_mode else old) (lt_zero rank)

-- ---- after a reset

blank_half : (k : ℕ) → slice_index (0 ∷ 0 ∷ []) k ≡ 0
blank_half zero = refl
blank_half (suc zero) = refl
blank_half (suc (suc k)) = refl

fresh_whole : IsWhole pins.fresh
unfolding pins.fresh
fresh_whole = record { out = refl; latches = refl; modes = length-replicate 64 Adc }

fresh_out : (p : ℕ) → pins.is_out pins.fresh p ≡ false
unfolding pins.fresh
fresh_out p = ap (λ v. has_bit v (p % 32)) (blank_half (p / 32)) ∙ has_bit-zero (p % 32)

fresh_latch : (p : ℕ) → pins.latch pins.fresh p ≡ false
unfolding pins.fresh
fresh_latch p = ap (λ v. has_bit v (p % 32)) (blank_half (p / 32)) ∙ has_bit-zero (p % 32)

fresh_mode : (p : ℕ) → p < 64 → pins.mode pins.fresh p ≡ Adc
unfolding pins.fresh
fresh_mode p lt = get_or-replicate 64 p Adc Adc lt

reset_agrees : (d : PortTable) (chip : Chip) (w : World) (reason : Reason) → HasAll chip → PortRepresents d [] 0 (reset_chip chip reason) w first_state
reset_agrees d chip w reason all = record {
  right = tt;
  all = all-step chip (WasReset reason) tt all;
  whole = fresh_whole;
  word = slice_index-blank STATE;
  latches = λ p lt. fresh_latch p ∙ sym (put_none (wants d Levels p) p false);
  modes = λ p lt. fresh_mode p lt ∙ sym (put_mode_none (pin_of d p) (rank_of d p) Adc);
  directions = λ p lt. fresh_out p ∙ sym (put_none (wants d Fixed p) p _ ∙ put_none (wants d Directions p) p false);
}

-- ---- in time, and under moves elsewhere

-- a chip with the pins and the word of another one agrees with what that one does
same_agrees : (d : PortTable) (held : Reservations) (n : ℕ) (a b : Chip) (w x : World) (s : PortState) → HasAll b → b.pins ≡ a.pins → word_of b STATE ≡ word_of a STATE → PortRepresents d held n a w s → PortRepresents d held n b x s
same_agrees d held n a b w x s all same word h = record {
  right = h.right;
  all = all;
  whole = subst (λ (y : pins.Pins). IsWhole y) (sym same) h.whole;
  word = word ∙ h.word;
  latches = subst (λ (y : pins.Pins). LatchesAgree d (written_in held).levels y s) (sym same) h.latches;
  modes = subst (λ (y : pins.Pins). ModesAgree d (written_in held).modes y s) (sym same) h.modes;
  directions = subst (λ (y : pins.Pins). DirectionsAgree d (written_in held).directions n y s) (sym same) h.directions;
}

pins_event : (chip : Chip) (order : Order) → (happened chip order).pins ≡ chip.pins
pins_event chip (Level p v) = level_leaves (λ c. c.pins) chip p v refl
pins_event chip _ = refl

low_word : STATE < SOURCES
low_word = omega arith

later_agrees : (d : PortTable) (held : Reservations) (n : ℕ) (chip : Chip) (w : World) (s : PortState) (order : Order) → HasAll (happened chip order) → PortRepresents d held n chip w s → PortRepresents d held n (happened chip order) (world_after w chip.clock.rate order) s
later_agrees d held n chip w s order all h = same_agrees d held n chip (happened chip order) w (world_after w chip.clock.rate order) s all (pins_event chip order) (word_later chip order STATE h.all.words low_word) h

pins_read : (chip : Chip) (r : Reg) → is_register r ≡ false → (after_read chip r).pins ≡ chip.pins
pins_read chip (TimerLow c) e = refl
pins_read chip (CaptureCountLow c) e = refl
pins_read chip (CaptureTimeLow c) e = refl
pins_read chip (ConverterAbort u) e = refl
pins_read chip (PinFlip p) e = absurd (cc)
pins_read chip _ e = refl

pins_write : (chip : Chip) (r : Reg) (v received : ℕ) → is_register r ≡ false → (chip_after chip (Write r v) received).pins ≡ chip.pins
pins_write chip (PinDirectionSet half) v received e = absurd (cc)
pins_write chip (PinDirectionClear half) v received e = absurd (cc)
pins_write chip (PinOutSet half) v received e = absurd (cc)
pins_write chip (PinOutClear half) v received e = absurd (cc)
pins_write chip (PinMode p) v received e = absurd (cc)
pins_write chip (PortPut q) v received e = absurd (cc)
pins_write chip _ v received e = refl

pins_apart : (chip : Chip) (made : Move) (received : ℕ) → owns made ≡ false → (chip_after chip made received).pins ≡ chip.pins
pins_apart chip (Read r) received e = pins_read chip r e
pins_apart chip (Write r v) received e = pins_write chip r v received e
pins_apart chip _ received e = refl

unstored : (made : Move) → owns made ≡ false → stores_in is_own_word made ≡ false
unstored (Store k v) e = e
unstored _ e = refl

apart_agrees : (d : PortTable) (held : Reservations) (n : ℕ) (chip : Chip) (w : World) (s : PortState) (made : Move) (received : ℕ) → owns made ≡ false → PortRepresents d held n chip w s → PortRepresents d held n (chip_after chip made received) w s
apart_agrees d held n chip w s made received e h = same_agrees d held n chip (chip_after chip made received) w w s (all-step chip (Made made received) tt h.all) (pins_apart chip made received e) (word_apart is_own_word chip made received STATE (unstored made e) refl) h

-- ---- what a frame may do

plain : (made : Move) → owns made ≡ true → is_shared made ≡ false
plain (Read r) e = refl
plain (Write r v) e = refl
plain (Load k) e = refl
plain (Store k v) e = refl
plain _ e = absurd (cc)

-- it sets no rate
written_steady : (r : Reg) (v : ℕ) → is_register r ≡ true → sets_rate (Write r v) ≡ false
written_steady (PinDirectionSet half) v e = refl
written_steady (PinDirectionClear half) v e = refl
written_steady (PinOutSet half) v e = refl
written_steady (PinOutClear half) v e = refl
written_steady (PinMode p) v e = refl
written_steady (PortPut q) v e = refl
written_steady (PinFlip p) v e = refl
written_steady _ v e = absurd (cc)

steady : (made : Move) → owns made ≡ true → sets_rate made ≡ false
steady (Write r v) e = written_steady r v e
steady _ e = refl

-- ---- errors

acts_leave : (d : PortTable) (s : PortState) (call : Call) (e : Option ErrorName) → ErrorLeaves s (acts_by d s call e)
acts_leave d s call None some = absurd (cc)
acts_leave d s call (Some e) some = (refl, refl)

error_leaves : (d : PortTable) (w : World) (s : PortState) (call : Call) (times : ℕ → ℕ) (out : Outcome PortState) → happens d w s (Acts call times) ≡ Some out → ErrorLeaves s out
error_leaves d w s call times out is = subst (λ o. ErrorLeaves s o) (given is) (acts_leave d s call (error_by d call (not s.initialised)))
  where
    given : {A : Type 0} {x y : A} → Some x ≡ Some y → x ≡ y
    given e = cc

-- ---- the pins, while nothing is held

pub pins_agree : (d : PortTable) (chip : Chip) (w : World) (s : PortState) → PortRepresents d [] 0 chip w s → PinsAgree chip.pins s
pins_agree d chip w s h p lt = record {
  direction = h.directions p lt ∙ (put_none (wants d Fixed p) p _ ∙ put_none (wants d Directions p) p (is_out (pin_at s p).direction));
  mode = h.modes p lt ∙ put_mode_none (pin_of d p) (rank_of d p) (pin_at s p).mode;
  latch = h.latches p lt ∙ put_none (wants d Levels p) p (pin_at s p).latch;
}

-- what holds something is alone
pins_stand : (d : PortTable) (held : Reservations) (chip : Chip) (w : World) (s : PortState) → PortRepresents d held 0 chip w s → list_any is_alone (owners held) ≡ false → PinsAgree chip.pins s × (length chip.pins.latches ≡ 2)
pins_stand d [] chip w s h none = (pins_agree d chip w s h, h.whole.latches)
pins_stand d (x ∷ xs) chip w s h none = absurd (let f : is_alone x.by || list_any is_alone (owners xs) ≡ true = ap (λ (o : Origin Call). is_alone o || list_any is_alone (owners xs)) h.right.0 in cc)

-- a move that the frame may make is one of the module's
may_of : (o : Origin Call) (made : Move) → port_may o made ≡ true → may made ≡ true
may_of o made e = (and_parts (may made) (is_of_init o || not (writes_latches made)) e).0

pub basis_right : (d : PortTable) → IsBasis (port_basis d)
basis_right d = record {
  starts = λ chip w wired stands. reset_agrees d chip w PowerOn stands.all;
  moves = λ held chip w s order come. refl;
  resets = λ held n chip w s reason h. (outcome first_state tells_nothing, refl, reset_agrees d chip w reason h.all);
  agrees_later = λ held n chip w s order come shut h. later_agrees d held n chip w s order (all-step chip (Hardware order) (fills_there (port_setting d) (is_masked chip) w s come.frames order come.free) h.all) h;
  agrees_apart = λ held chip w s made received e h. apart_agrees d held 0 chip w s made received (e (Called Init)) h;
  may_owns = λ o made e. (and_parts (owns made) (not (is_guests made) && names_there made) (may_of o made e)).0;
  owns_plain = λ o made e. plain made e;
  may_there = λ o made e. move_there made (and_parts (not (is_guests made)) (names_there made) (and_parts (owns made) (not (is_guests made) && names_there made) (may_of o made e)).1).1;
  enables = λ o bits line e other. absurd (cc);
  loads = λ origin value h. h;
  watched = λ held gap chip w s has osc h. cc;
  unwatched = λ w s none. refl;
  owns_called = λ line made e. (Init, e);
  used_lines = λ line e. absurd (cc);
  due_used = λ held chip w s line h e. absurd (cc);
  pends = λ held chip w s line there h e. absurd (cc);
  rests = λ chip w s line there h. absurd (cc);
  unused = λ held chip w s line there h free. absurd (cc);
  unmasked = λ held chip w s origins among h none. pins_stand d held chip w s h (among is_alone none);
  rest = λ chip w s h. pins_agree d chip w s h;
  waits = λ chip w s u h. refl;
  error_leaves = λ w s call times out is. error_leaves d w s call times out is;
  count_first = refl;
  count_happens = λ w s h out e. omega arith;
  count_moves = λ w s order out e. omega arith;
  count_resets = λ w s reason out e. omega arith;
  rated = Steady (λ chip o made received e. rate-left chip made received (steady made (and_parts (owns made) (not (is_guests made) && names_there made) (may_of o made e)).0)) (λ w s h out e. refl);
  rate_starts = refl;
  rate_moves = λ w s order out e. refl;
  rate_resets = λ chip w s reason out e. refl;
}

-- ---- writes

pub word_written : (chip : Chip) (r : Reg) (v received : ℕ) → word_of (chip_after chip (Write r v) received) STATE ≡ word_of chip STATE
word_written chip r v received = ap (λ ws. slice_index ws STATE) (words-write chip r v received)

-- the agreement after a write, by its parts
pub written_agrees : (d : PortTable) (held held1 : Reservations) (n n1 : ℕ) (chip : Chip) (w : World) (s s1 : PortState) (r : Reg) (v received : ℕ) (b : pins.Pins) → (chip_after chip (Write r v) received).pins ≡ b → HeldRight held1 → s1.initialised ≡ s.initialised → IsWhole b → LatchesAgree d (written_in held1).levels b s1 → ModesAgree d (written_in held1).modes b s1 → DirectionsAgree d (written_in held1).directions n1 b s1 → PortRepresents d held n chip w s → PortRepresents d held1 n1 (chip_after chip (Write r v) received) w s1
written_agrees d held held1 n n1 chip w s s1 r v received b is right same whole latches modes directions h = record {
  right = right;
  all = all-step chip (Made (Write r v) received) tt h.all;
  whole = subst (λ (y : pins.Pins). IsWhole y) (sym is) whole;
  word = word_written chip r v received ∙ (h.word ∙ ap bit_of (sym same));
  latches = subst (λ (y : pins.Pins). LatchesAgree d (written_in held1).levels y s1) (sym is) latches;
  modes = subst (λ (y : pins.Pins). ModesAgree d (written_in held1).modes y s1) (sym is) modes;
  directions = subst (λ (y : pins.Pins). DirectionsAgree d (written_in held1).directions n1 y s1) (sym is) directions;
}

-- the pins after a write by halves
pub with_latches : (chip : Chip) (set : Bool) (half bits received : ℕ) → (chip_after chip (Write (register Levels set half) bits) received).pins ≡ record chip.pins { latches = halves_after set chip.pins.latches half bits }
with_latches chip true half bits received = refl
with_latches chip false half bits received = refl

pub with_directions : (chip : Chip) (set : Bool) (half bits received : ℕ) → (chip_after chip (Write (register Directions set half) bits) received).pins ≡ record chip.pins { out = halves_after set chip.pins.out half bits }
with_directions chip true half bits received = refl
with_directions chip false half bits received = refl

pub with_fixed : (chip : Chip) (set : Bool) (half bits received : ℕ) → (chip_after chip (Write (register Fixed set half) bits) received).pins ≡ record chip.pins { out = halves_after set chip.pins.out half bits }
with_fixed chip true half bits received = refl
with_fixed chip false half bits received = refl

-- a mode's number names it
pub mode_named : (m : PortPinMode) → pins.mode_named (mode_number m) ≡ Some m
mode_named Adc = refl
mode_named Dio = refl
mode_named Icu = refl
mode_named Pwm = refl
mode_named Spi = refl

pub with_mode : (chip : Chip) (p : ℕ) (m : PortPinMode) (received : ℕ) → (chip_after chip (Write (PinMode p) (mode_number m)) received).pins ≡ record chip.pins { modes = slice_set chip.pins.modes p m }
with_mode chip p m received = ap (λ k. record chip.pins { modes = pins.with_mode chip.pins.modes p k }) (mode_named m)

-- what a frame may write
half_there : (half : ℕ) → half < 2 → nat_lt half 2 ≡ true
half_there half lt = grind (arith, nat_tests)

pub may_halves : (side : Side) (set : Bool) (half bits : ℕ) → half < 2 → may (Write (register side set half) bits) ≡ true
may_halves Levels true half bits lt = half_there half lt
may_halves Levels false half bits lt = half_there half lt
may_halves Directions true half bits lt = half_there half lt
may_halves Directions false half bits lt = half_there half lt
may_halves Fixed true half bits lt = half_there half lt
may_halves Fixed false half bits lt = half_there half lt

pub may_mode : (p v : ℕ) → p < 64 → may (Write (PinMode p) v) ≡ true
may_mode p v lt = grind (arith, nat_tests)

-- it is plain, resets nothing and begins no serial word
pub record IsSilentMove (made : Move) : Type 0 where
  pub still : resets_chip made ≡ false
  pub silent : begins_word made ≡ false

pub calm_halves : (side : Side) (set : Bool) (half bits : ℕ) → IsSilentMove (Write (register side set half) bits)
calm_halves Levels true half bits = record { still = refl; silent = refl }
calm_halves Levels false half bits = record { still = refl; silent = refl }
calm_halves Directions true half bits = record { still = refl; silent = refl }
calm_halves Directions false half bits = record { still = refl; silent = refl }
calm_halves Fixed true half bits = record { still = refl; silent = refl }
calm_halves Fixed false half bits = record { still = refl; silent = refl }

-- it writes no latch, but for a write of levels
pub dry_halves : (side : Side) (set : Bool) (half bits : ℕ) → side ≢ Levels → writes_latches (Write (register side set half) bits) ≡ false
dry_halves Levels set half bits ne = absurd (ne refl)
dry_halves Directions true half bits ne = refl
dry_halves Directions false half bits ne = refl
dry_halves Fixed true half bits ne = refl
dry_halves Fixed false half bits ne = refl

-- a frame may make such a move, and `Port_Init` any
pub may_dry : (o : Origin Call) (made : Move) → may made ≡ true → writes_latches made ≡ false → port_may o made ≡ true
may_dry o made e dry = by (may made) (is_of_init o) (writes_latches made) e dry
  where
    by : (a b c : Bool) → a ≡ true → c ≡ false → a && (b || not c) ≡ true
    by true true c e dry = refl
    by true false false e dry = refl
    by true false true e dry = absurd (cc)
    by false b c e dry = absurd (cc)

pub may_at_init : (made : Move) → may made ≡ true → port_may (Called Init) made ≡ true
may_at_init made e = by (may made) e
  where
    by : (a : Bool) → a ≡ true → a && true ≡ true
    by true e = refl
    by false e = absurd (cc)

-- and commits nothing
pub past_halves : (w : World) (side : Side) (set : Bool) (half bits : ℕ) (t : FrameHistory) → past_wrote w (Write (register side set half) bits) t ≡ t
past_halves w Levels true half bits t = refl
past_halves w Levels false half bits t = refl
past_halves w Directions true half bits t = refl
past_halves w Directions false half bits t = refl
past_halves w Fixed true half bits t = refl
past_halves w Fixed false half bits t = refl

-- and no serial word begins there
pub sends_halves : (chip : Chip) (side : Side) (set : Bool) (half bits : ℕ) → SendsRight chip None (Write (register side set half) bits)
sends_halves chip Levels true half bits = tt
sends_halves chip Levels false half bits = tt
sends_halves chip Directions true half bits = tt
sends_halves chip Directions false half bits = tt
sends_halves chip Fixed true half bits = tt
sends_halves chip Fixed false half bits = tt
