-- What a history leaves of a driver word, a RAM word, the mask, an outside level, the clock and the wiring.
use Rattle.std.proofs.Common.{◌≡◌, ℕ, ◌<◌, ◌≢◌, Bool, true, false, List, [], ◌∷◌, ◌++◌, length, refl, sym, ◌∙◌, ap, arith, get_or-set_same, get_or-set_other}
use Rattle.std.specs.Prelude.{if◌then◌else◌, not, nat_lt, ◌==◌, ◌&&◌, ◌^◌, bit_or, Some, slice_index, slice_index_or, slice_set}
use Rattle.std.specs.List.{AllByRecursion}
use Rattle.mcal_base.specs.Bits.{has_bit}
use Rattle.mcal_base.specs.declared.TheConstants.{WORDS}
use Rattle.mcal_base.specs.declared.config.whole.Config.{Config}
use Rattle.mcal_base.specs.declared.directive.Order.{Order}
use Rattle.mcal_base.specs.declared.directive.Order.TheVariants.{Tick, Level, Analog, Trigger, Miso, SpiFault, Detach, Fill}
use Rattle.mcal_base.specs.declared.directive.Reason.{Reason}
use Rattle.mcal_base.specs.declared.moves.Move.{Move}
use Rattle.mcal_base.specs.declared.moves.Move.TheVariants.{Read, Write, Load, Store, Mask, Unmask, Note, Report}
use Rattle.mcal_base.specs.declared.register.Reg.{Reg}
use Rattle.mcal_base.specs.declared.register.Reg.TheVariants.{EnableSet, EnableClear, TimerLow, CaptureCountLow, CaptureTimeLow, ConverterList, ConverterGo, ConverterAbort, ConverterAck, TriggerSet, TriggerClear, TriggerFlags, SerialData, PinFlip, ClockPll, ClockRate, Ram}
use Rattle.chip_blocks.proofs.of_timers.TimerLaws as timer_laws
use Rattle.chip_blocks.specs.captures.Captures as captures
use Rattle.chip_blocks.specs.converter.Converters as converters
use Rattle.chip_blocks.specs.declared.converter.converter.Levels.{Levels}
use Rattle.chip_blocks.specs.units.Clock as clock
use Rattle.chip_blocks.specs.units.Ram as ram
use Rattle.chip_model.specs.Chip.{Chip, power_on, hung, after_read, after_write, chip_after, happened, reset_chip, levelled, is_other, outside_at, word_of, is_masked, now_of}
use Rattle.chip_model.specs.Histories.{Happening, chip_step, chip_after_all, chip_of, HasAll, sets_rate, LeavesWord, LeavesRam, LeavesMask, LeavesLevel}
use Rattle.chip_model.specs.Histories as histories
use Rattle.chip_model.proofs.WordLaws.{slice_index-blank, index-replicate}

-- ---- one happening more

pub after_all-append : (c : Chip) (xs ys : List Happening) → chip_after_all c (xs ++ ys) ≡ chip_after_all (chip_after_all c xs) ys
after_all-append c [] ys = refl
after_all-append c (x ∷ xs) ys = after_all-append (chip_step c x) xs ys

pub chip_of-append : (config : Config) (room devices : ℕ) (history : List Happening) (x : Happening) → chip_of config room devices (history ++ x ∷ []) ≡ chip_step (chip_of config room devices history) x
chip_of-append config room devices history x = after_all-append (hung devices (power_on config room)) history (x ∷ [])

-- ---- a part of the chip that each happening of a history leaves

pub left_all : {A : Type 0} (see : Chip → A) (Leaves : Happening → Type 0)
    → ((c : Chip) (x : Happening) → Leaves x → see (chip_step c x) ≡ see c)
    → (c : Chip) (xs : List Happening) → AllByRecursion Leaves xs → see (chip_after_all c xs) ≡ see c
left_all see Leaves left c [] all = refl
left_all see Leaves left c (x ∷ xs) all = left_all see Leaves left (chip_step c x) xs all.1 ∙ left c x all.0

-- the chip where the outside level of a pin changes
abbrev pub edged : Chip → ℕ → Bool → Chip
edged c p v = record c { outside = slice_set c.outside p v; captures = captures.after_edge c.captures p v }

either : {A : Type 0} (see : Chip → A) (q : Bool) (x y : Chip) (a : A) → see x ≡ a → see y ≡ a → see (if q then x else y) ≡ a
either see true x y a hx hy = hx
either see false x y a hx hy = hy

-- a level leaves what an edge leaves
pub level_leaves : {A : Type 0} (see : Chip → A) (c : Chip) (p : ℕ) (v : Bool) → see (edged c p v) ≡ see c → see (levelled c p v) ≡ see c
level_leaves see c p v e = either see (is_other (outside_at c p) v) (edged c p v) c (see c) e refl

-- ---- driver words

-- a move of a register leaves the driver words
pub words-read : (c : Chip) (r : Reg) → (after_read c r).words ≡ c.words
words-read c (TimerLow k) = refl
words-read c (CaptureCountLow k) = refl
words-read c (CaptureTimeLow k) = refl
words-read c (ConverterAbort u) = refl
words-read c (PinFlip p) = refl
words-read c _ = refl

pub words-write : (c : Chip) (r : Reg) (value received : ℕ) → (after_write c r value received).words ≡ c.words
words-write c EnableSet value received = refl
words-write c EnableClear value received = refl
words-write c (SerialData u) value received = refl
words-write c r value received = refl

word_move : (k : ℕ) (c : Chip) (made : Move) (received : ℕ) → LeavesWord k (histories.Made made received) → word_of (chip_after c made received) k ≡ word_of c k
word_move k c (Read r) received left = ap (λ ws. slice_index ws k) (words-read c r)
word_move k c (Write r value) received left = ap (λ ws. slice_index ws k) (words-write c r value received)
word_move k c (Load j) received left = refl
word_move k c (Store j value) received left = let ne : k ≢ j = λ e. left (sym e) in get_or-set_other c.words j k value 0 ne
word_move k c Mask received left = refl
word_move k c Unmask received left = refl
word_move k c (Note notice) received left = refl
word_move k c (Report fault) received left = refl

word_event : (k : ℕ) (c : Chip) (order : Order) → LeavesWord k (histories.Hardware order) → word_of (happened c order) k ≡ word_of c k
word_event k c (Tick n) left = refl
word_event k c (Level p v) left = level_leaves (λ d. word_of d k) c p v refl
word_event k c (Analog i v) left = refl
word_event k c (Trigger i) left = refl
word_event k c (Miso u ws) left = refl
word_event k c (SpiFault u) left = refl
word_event k c Detach left = refl
word_event k c (Fill channel ws) left = absurd left
word_event k c _ left = refl

-- a word is left by what names it not
pub word-left : (k : ℕ) (c : Chip) (x : Happening) → LeavesWord k x → word_of (chip_step c x) k ≡ word_of c k
word-left k c (histories.Made made received) left = word_move k c made received left
word-left k c (histories.Hardware order) left = word_event k c order left
word-left k c (histories.WasReset reason) left = absurd left

pub word-left_all : (k : ℕ) (c : Chip) (xs : List Happening) → AllByRecursion (LeavesWord k) xs → word_of (chip_after_all c xs) k ≡ word_of c k
word-left_all k c xs left = left_all (λ d. word_of d k) (LeavesWord k) (word-left k) c xs left

pub word-stored : (c : Chip) (k value received : ℕ) (xs : List Happening) → HasAll c → k < WORDS → AllByRecursion (LeavesWord k) xs
    → word_of (chip_after_all (chip_after c (Store k value) received) xs) k ≡ value
word-stored c k value received xs h lt left =
    let within : k < length c.words = omega (arith, h.words, lt) in
    word-left_all k (chip_after c (Store k value) received) xs left ∙ get_or-set_same c.words k value 0 within

pub word-reset : (c : Chip) (reason : Reason) (k : ℕ) (xs : List Happening) → AllByRecursion (LeavesWord k) xs → word_of (chip_after_all (reset_chip c reason) xs) k ≡ 0
word-reset c reason k xs left = word-left_all k (reset_chip c reason) xs left ∙ slice_index-blank k

-- ---- RAM words

ram_read : (c : Chip) (r : Reg) → (after_read c r).ram ≡ c.ram
ram_read c (TimerLow k) = refl
ram_read c (CaptureCountLow k) = refl
ram_read c (CaptureTimeLow k) = refl
ram_read c (ConverterAbort u) = refl
ram_read c (PinFlip p) = refl
ram_read c _ = refl

ram_write : (k : ℕ) (c : Chip) (r : Reg) (value received : ℕ) → LeavesRam k (histories.Made (Write r value) received) → slice_index (after_write c r value received).ram k ≡ slice_index c.ram k
ram_write k c (Ram j) value received left = let ne : k ≢ j = λ e. left (sym e) in get_or-set_other c.ram j k value 0 ne
ram_write k c EnableSet value received left = refl
ram_write k c EnableClear value received left = refl
ram_write k c (SerialData u) value received left = refl
ram_write k c _ value received left = refl

ram_move : (k : ℕ) (c : Chip) (made : Move) (received : ℕ) → LeavesRam k (histories.Made made received) → slice_index (chip_after c made received).ram k ≡ slice_index c.ram k
ram_move k c (Read r) received left = ap (λ ws. slice_index ws k) (ram_read c r)
ram_move k c (Write r value) received left = ram_write k c r value received left
ram_move k c (Load j) received left = refl
ram_move k c (Store j value) received left = refl
ram_move k c Mask received left = refl
ram_move k c Unmask received left = refl
ram_move k c (Note notice) received left = refl
ram_move k c (Report fault) received left = refl

ram_event : (c : Chip) (order : Order) → (happened c order).ram ≡ c.ram
ram_event c (Tick n) = refl
ram_event c (Level p v) = level_leaves (λ d. d.ram) c p v refl
ram_event c (Analog i v) = refl
ram_event c (Trigger i) = refl
ram_event c (Miso u ws) = refl
ram_event c (SpiFault u) = refl
ram_event c Detach = refl
ram_event c (Fill channel ws) = refl
ram_event c _ = refl

ram_step : (k : ℕ) (c : Chip) (x : Happening) → LeavesRam k x → slice_index (chip_step c x).ram k ≡ slice_index c.ram k
ram_step k c (histories.Made made received) left = ram_move k c made received left
ram_step k c (histories.Hardware order) left = ap (λ ws. slice_index ws k) (ram_event c order)
ram_step k c (histories.WasReset reason) left = absurd left

ram_left_all : (k : ℕ) (c : Chip) (xs : List Happening) → AllByRecursion (LeavesRam k) xs → slice_index (chip_after_all c xs).ram k ≡ slice_index c.ram k
ram_left_all k c xs left = left_all (λ d. slice_index d.ram k) (LeavesRam k) (ram_step k) c xs left

pub ram-written : (c : Chip) (k value received : ℕ) (xs : List Happening) → HasAll c → k < 512 → AllByRecursion (LeavesRam k) xs
    → slice_index (chip_after_all (chip_after c (Write (Ram k) value) received) xs).ram k ≡ value
ram-written c k value received xs h lt left =
    let within : k < length c.ram = omega (arith, h.ram, lt) in
    ram_left_all k (chip_after c (Write (Ram k) value) received) xs left ∙ get_or-set_same c.ram k value 0 within

slice_index-ram_blank : (k : ℕ) → slice_index ram.blank k ≡ 0
unfolding ram.blank
slice_index-ram_blank k = index-replicate 512 k

pub ram-reset : (c : Chip) (reason : Reason) (k : ℕ) (xs : List Happening) → AllByRecursion (LeavesRam k) xs → slice_index (chip_after_all (reset_chip c reason) xs).ram k ≡ 0
ram-reset c reason k xs left = ram_left_all k (reset_chip c reason) xs left ∙ slice_index-ram_blank k

-- ---- the mask

mask_read : (c : Chip) (r : Reg) → is_masked (after_read c r) ≡ is_masked c
mask_read c (TimerLow k) = refl
mask_read c (CaptureCountLow k) = refl
mask_read c (CaptureTimeLow k) = refl
mask_read c (ConverterAbort u) = refl
mask_read c (PinFlip p) = refl
mask_read c _ = refl

mask_write : (c : Chip) (r : Reg) (value received : ℕ) → is_masked (after_write c r value received) ≡ is_masked c
mask_write c EnableSet value received = refl
mask_write c EnableClear value received = refl
mask_write c (SerialData u) value received = refl
mask_write c r value received = refl

mask_move : (c : Chip) (made : Move) (received : ℕ) → LeavesMask (histories.Made made received) → is_masked (chip_after c made received) ≡ is_masked c
mask_move c (Read r) received left = mask_read c r
mask_move c (Write r value) received left = mask_write c r value received
mask_move c (Load k) received left = refl
mask_move c (Store k value) received left = refl
mask_move c Mask received left = absurd left
mask_move c Unmask received left = absurd left
mask_move c (Note notice) received left = refl
mask_move c (Report fault) received left = refl

mask_event : (c : Chip) (order : Order) → is_masked (happened c order) ≡ is_masked c
mask_event c (Tick n) = refl
mask_event c (Level p v) = level_leaves (λ d. is_masked d) c p v refl
mask_event c (Analog i v) = refl
mask_event c (Trigger i) = refl
mask_event c (Miso u ws) = refl
mask_event c (SpiFault u) = refl
mask_event c Detach = refl
mask_event c (Fill channel ws) = refl
mask_event c _ = refl

-- and the mask
pub mask-left : (c : Chip) (x : Happening) → LeavesMask x → is_masked (chip_step c x) ≡ is_masked c
mask-left c (histories.Made made received) left = mask_move c made received left
mask-left c (histories.Hardware order) left = mask_event c order
mask-left c (histories.WasReset reason) left = absurd left

pub mask-left_all : (c : Chip) (xs : List Happening) → AllByRecursion LeavesMask xs → is_masked (chip_after_all c xs) ≡ is_masked c
mask-left_all c xs left = left_all (λ d. is_masked d) LeavesMask mask-left c xs left

-- ---- what stands outside

outside_read : (c : Chip) (r : Reg) → (after_read c r).outside ≡ c.outside
outside_read c (TimerLow k) = refl
outside_read c (CaptureCountLow k) = refl
outside_read c (CaptureTimeLow k) = refl
outside_read c (ConverterAbort u) = refl
outside_read c (PinFlip p) = refl
outside_read c _ = refl

outside_write : (c : Chip) (r : Reg) (value received : ℕ) → (after_write c r value received).outside ≡ c.outside
outside_write c EnableSet value received = refl
outside_write c EnableClear value received = refl
outside_write c (SerialData u) value received = refl
outside_write c r value received = refl

pub outside-move : (c : Chip) (made : Move) (received : ℕ) → (chip_after c made received).outside ≡ c.outside
outside-move c (Read r) received = outside_read c r
outside-move c (Write r value) received = outside_write c r value received
outside-move c (Load k) received = refl
outside-move c (Store k value) received = refl
outside-move c Mask received = refl
outside-move c Unmask received = refl
outside-move c (Note notice) received = refl
outside-move c (Report fault) received = refl

outside_event : (p : ℕ) (c : Chip) (order : Order) → LeavesLevel p (histories.Hardware order) → outside_at (happened c order) p ≡ outside_at c p
outside_event p c (Tick n) left = refl
outside_event p c (Level q v) left =
    let ne : p ≢ q = λ e. left (sym e) in
    level_leaves (λ d. outside_at d p) c q v (get_or-set_other c.outside q p v false ne)
outside_event p c (Analog i v) left = refl
outside_event p c (Trigger i) left = refl
outside_event p c (Miso u ws) left = refl
outside_event p c (SpiFault u) left = refl
outside_event p c Detach left = refl
outside_event p c (Fill channel ws) left = refl
outside_event p c _ left = refl

pub outside-step : (p : ℕ) (c : Chip) (x : Happening) → LeavesLevel p x → outside_at (chip_step c x) p ≡ outside_at c p
outside-step p c (histories.Made made received) left = ap (λ (o : List Bool). slice_index_or o p false) (outside-move c made received)
outside-step p c (histories.Hardware order) left = outside_event p c order left
outside-step p c (histories.WasReset reason) left = refl

-- two levels are the same, or other ones
same_level : (a v : Bool) → is_other a v ≡ false → a ≡ v
same_level true true e = refl
same_level false false e = refl
same_level true false e = absurd (cc e)
same_level false true e = absurd (cc e)

set_level : (c : Chip) (p : ℕ) (v q : Bool) → is_other (outside_at c p) v ≡ q → p < length c.outside
    → outside_at (if q then record c { outside = slice_set c.outside p v; captures = captures.after_edge c.captures p v } else c) p ≡ v
set_level c p v true e lt = get_or-set_same c.outside p v false lt
set_level c p v false e lt = same_level (outside_at c p) v e

pub level-since_event : (c : Chip) (p : ℕ) (v : Bool) (xs : List Happening) → HasAll c → p < 64 → AllByRecursion (LeavesLevel p) xs
    → outside_at (chip_after_all (levelled c p v) xs) p ≡ v
level-since_event c p v xs h lt left =
    let within : p < length c.outside = omega (arith, h.outside, lt) in
    left_all (λ d. outside_at d p) (LeavesLevel p) (outside-step p) (levelled c p v) xs left
    ∙ set_level c p v (is_other (outside_at c p) v) refl within

is_other-not : (v : Bool) → is_other (not v) v ≡ true
is_other-not true = refl
is_other-not false = refl

is_other-same : (v : Bool) → is_other v v ≡ false
is_other-same true = refl
is_other-same false = refl

pub edge-changes : (c : Chip) (p : ℕ) (v : Bool) → outside_at c p ≡ not v → (levelled c p v).captures ≡ captures.after_edge c.captures p v
edge-changes c p v e = rw (e, is_other-not v) refl

pub edge-stands : (c : Chip) (p : ℕ) (v : Bool) → outside_at c p ≡ v → levelled c p v ≡ c
edge-stands c p v e = rw (e, is_other-same v) refl

-- ---- the levels of the analog inputs

pub levels-write : (b : converters.Converters) (r : Reg) (value : ℕ) → (converters.after_write b r value).levels ≡ b.levels
levels-write b (ConverterList u place) value = refl
levels-write b (ConverterGo u) value = refl
levels-write b (ConverterAck u) value = refl
levels-write b TriggerSet value = refl
levels-write b TriggerClear value = refl
levels-write b TriggerFlags value = refl
levels-write b _ value = refl

pulse_levels : (q : Bool) (x y : converters.Converters) (l : Levels) → x.levels ≡ l → y.levels ≡ l → (if q then x else y).levels ≡ l
pulse_levels true x y l hx hy = hx
pulse_levels false x y l hx hy = hy

pub levels-pulse : (b : converters.Converters) (i : ℕ) → (converters.after_pulse b i).levels ≡ b.levels
levels-pulse b i = pulse_levels (nat_lt i 4 && has_bit b.gates i) (record b { pulses = bit_or b.pulses (2 ^ i) }) b b.levels refl refl

levels_read : (c : Chip) (r : Reg) → (after_read c r).converters.levels ≡ c.converters.levels
levels_read c (TimerLow k) = refl
levels_read c (CaptureCountLow k) = refl
levels_read c (CaptureTimeLow k) = refl
levels_read c (ConverterAbort u) = refl
levels_read c (PinFlip p) = refl
levels_read c _ = refl

levels_write : (c : Chip) (r : Reg) (value received : ℕ) → (after_write c r value received).converters.levels ≡ c.converters.levels
levels_write c EnableSet value received = refl
levels_write c EnableClear value received = refl
levels_write c (SerialData u) value received = refl
levels_write c r value received = levels-write c.converters r value

-- a move leaves them
pub levels-move : (c : Chip) (made : Move) (received : ℕ) → (chip_after c made received).converters.levels ≡ c.converters.levels
levels-move c (Read r) received = levels_read c r
levels-move c (Write r value) received = levels_write c r value received
levels-move c (Load k) received = refl
levels-move c (Store k value) received = refl
levels-move c Mask received = refl
levels-move c Unmask received = refl
levels-move c (Note notice) received = refl
levels-move c (Report fault) received = refl

-- ---- the clock

clock_read : (c : Chip) (r : Reg) → (after_read c r).clock ≡ c.clock
clock_read c (TimerLow k) = refl
clock_read c (CaptureCountLow k) = refl
clock_read c (CaptureTimeLow k) = refl
clock_read c (ConverterAbort u) = refl
clock_read c (PinFlip p) = refl
clock_read c _ = refl

clock_write : (c : Chip) (r : Reg) (value received : ℕ) → sets_rate (Write r value) ≡ false → (after_write c r value received).clock ≡ c.clock
clock_write c ClockPll value received e = absurd (cc e)
clock_write c ClockRate value received e = absurd (cc e)
clock_write c EnableSet value received e = refl
clock_write c EnableClear value received e = refl
clock_write c (SerialData u) value received e = refl
clock_write c r value received e = refl

-- a move that sets no rate leaves the clock
pub clock-left : (c : Chip) (made : Move) (received : ℕ) → sets_rate made ≡ false → (chip_after c made received).clock ≡ c.clock
clock-left c (Read r) received e = clock_read c r
clock-left c (Write r value) received e = clock_write c r value received e
clock-left c (Load k) received e = refl
clock-left c (Store k value) received e = refl
clock-left c Mask received e = refl
clock-left c Unmask received e = refl
clock-left c (Note notice) received e = refl
clock-left c (Report fault) received e = refl

-- and so its rate
pub rate-left : (c : Chip) (made : Move) (received : ℕ) → sets_rate made ≡ false → (chip_after c made received).clock.rate ≡ c.clock.rate
rate-left c made received e = ap (λ k. k.rate) (clock-left c made received e)

-- no event changes the rate
pub rate-event : (c : Chip) (order : Order) → (happened c order).clock.rate ≡ c.clock.rate
rate-event c (Tick n) = refl
rate-event c (Level p v) = level_leaves (λ d. d.clock.rate) c p v refl
rate-event c (Analog i v) = refl
rate-event c (Trigger i) = refl
rate-event c (Miso u ws) = refl
rate-event c (SpiFault u) = refl
rate-event c Detach = refl
rate-event c (Fill channel ws) = refl
rate-event c _ = refl

-- ---- the times

started_osc : (q : Bool) (x y : clock.Clock) (n : ℕ) → x.osc ≡ n → y.osc ≡ n → (if q then x else y).osc ≡ n
started_osc true x y n hx hy = hx
started_osc false x y n hx hy = hy

osc_after_write : (k : clock.Clock) (r : Reg) (value : ℕ) → (clock.after_write k r value).osc ≡ k.osc
osc_after_write k ClockPll value = started_osc (value == 0) k (record k { pll = Some (record { multiplier = value; started = k.osc }); rate = 1 }) k.osc refl refl
osc_after_write k ClockRate value = refl
osc_after_write k _ value = refl

osc_write : (c : Chip) (r : Reg) (value received : ℕ) → (after_write c r value received).clock.osc ≡ c.clock.osc
osc_write c EnableSet value received = refl
osc_write c EnableClear value received = refl
osc_write c (SerialData u) value received = refl
osc_write c r value received = osc_after_write c.clock r value

-- a move leaves the time of the oscillator
pub osc-move : (c : Chip) (made : Move) (received : ℕ) → (chip_after c made received).clock.osc ≡ c.clock.osc
osc-move c (Read r) received = ap (λ k. k.osc) (clock_read c r)
osc-move c (Write r value) received = osc_write c r value received
osc-move c (Load k) received = refl
osc-move c (Store k value) received = refl
osc-move c Mask received = refl
osc-move c Unmask received = refl
osc-move c (Note notice) received = refl
osc-move c (Report fault) received = refl

now_read : (c : Chip) (r : Reg) → now_of (after_read c r) ≡ now_of c
now_read c (TimerLow k) = refl
now_read c (CaptureCountLow k) = refl
now_read c (CaptureTimeLow k) = refl
now_read c (ConverterAbort u) = refl
now_read c (PinFlip p) = refl
now_read c _ = refl

now_write : (c : Chip) (r : Reg) (value received : ℕ) → now_of (after_write c r value received) ≡ now_of c
now_write c EnableSet value received = refl
now_write c EnableClear value received = refl
now_write c (SerialData u) value received = refl
now_write c r value received = timer_laws.time-after_write c.timers r value

-- and the peripheral time
pub now-move : (c : Chip) (made : Move) (received : ℕ) → now_of (chip_after c made received) ≡ now_of c
now-move c (Read r) received = now_read c r
now-move c (Write r value) received = now_write c r value received
now-move c (Load k) received = refl
now-move c (Store k value) received = refl
now-move c Mask received = refl
now-move c Unmask received = refl
now-move c (Note notice) received = refl
now-move c (Report fault) received = refl

-- ---- the wiring

wiring_read : (c : Chip) (r : Reg) → (after_read c r).wiring ≡ c.wiring
wiring_read c (TimerLow k) = refl
wiring_read c (CaptureCountLow k) = refl
wiring_read c (CaptureTimeLow k) = refl
wiring_read c (ConverterAbort u) = refl
wiring_read c (PinFlip p) = refl
wiring_read c _ = refl

wiring_write : (c : Chip) (r : Reg) (value received : ℕ) → (after_write c r value received).wiring ≡ c.wiring
wiring_write c EnableSet value received = refl
wiring_write c EnableClear value received = refl
wiring_write c (SerialData u) value received = refl
wiring_write c r value received = refl

wiring_move : (c : Chip) (made : Move) (received : ℕ) → (chip_after c made received).wiring ≡ c.wiring
wiring_move c (Read r) received = wiring_read c r
wiring_move c (Write r value) received = wiring_write c r value received
wiring_move c (Load k) received = refl
wiring_move c (Store k value) received = refl
wiring_move c Mask received = refl
wiring_move c Unmask received = refl
wiring_move c (Note notice) received = refl
wiring_move c (Report fault) received = refl

wiring_event : (c : Chip) (order : Order) → (happened c order).wiring ≡ c.wiring
wiring_event c (Tick n) = refl
wiring_event c (Level p v) = level_leaves (λ d. d.wiring) c p v refl
wiring_event c (Analog i v) = refl
wiring_event c (Trigger i) = refl
wiring_event c (Miso u ws) = refl
wiring_event c (SpiFault u) = refl
wiring_event c Detach = refl
wiring_event c (Fill channel ws) = refl
wiring_event c _ = refl

-- everything leaves the wiring
pub wiring-left : (c : Chip) (x : Happening) → (chip_step c x).wiring ≡ c.wiring
wiring-left c (histories.Made made received) = wiring_move c made received
wiring-left c (histories.Hardware order) = wiring_event c order
wiring-left c (histories.WasReset reason) = refl

pub wiring-left_all : (c : Chip) (xs : List Happening) → (chip_after_all c xs).wiring ≡ c.wiring
wiring-left_all c [] = refl
wiring-left_all c (x ∷ xs) = wiring-left_all (chip_step c x) xs ∙ wiring-left c x
