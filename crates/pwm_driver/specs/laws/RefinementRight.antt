-- The basis keeps what it owes: at the start, in time, under moves elsewhere and over a reset.
-- From service_outline: Words, module_machines: pwm.Channels, service_outline: There, module_machines: pwm.Relation, FlagRelation.
-- Used by Serve, Keeps, Base, Lawful, InitRight and 1 more.
use Rattle.std.proofs.Common.{◌≡◌, ◌+◌, ◌-◌, ◌/◌, ◌%◌, ◌<◌, ◌≤◌, ◌^◌, ◌&&◌, ◌||◌, ◌==◌, [], ◌∷◌, ◌∙◌, if◌then◌else◌}
use Rattle.pwm_driver.specs.Terms
use Terms.{Acts, acts_by, after_read, AllSetUp, and_parts, ap, arith, begins_word, Bool, Both, by_eight, Call, Called}
use Terms.{CaptureCountLow, CaptureTimeLow, channel_number, channel_of, channel_of_line, Chip, chip_after, chosen}
use Terms.{clear_apart, ClockPll, ClockRate, ConverterAbort, DeInit, EnableClear, EnableSet, error_by, ErrorLeaves}
use Terms.{ErrorName, Falling, falls, false, fills_there, first_state, GetOutputState, happened, happens, has_bit}
use Terms.{has_bit-above, has_bit-or, has_bit-without, has_bit-zero, has_lines, Init, is_for_lines, is_marked_by}
use Terms.{is_masked, is_own_word, is_pending, is_shared, is_some, IsBasis, IsQuiet, IsSetUp, IsSome, KindAgrees, KINDS}
use Terms.{Lag, length, Level, level_at, level_leaves, line-pulse, LinesAgree, Load, may_name, may_write, MayCome, Move}
use Terms.{move_there, names_there, nat_lt, nat_tests, None, not, Option, Order, Outcome, outcome, owns_written}
use Terms.{period_word, PinFlip, polarity_of, PowerOn, Pulse, pulse_at, PulseCommit, PulseDuty, PulseEdges, PulseFlags}
use Terms.{PulseIdle, PulseOut, PulsePeriod, PulsePolarity, pulses_fresh, pwm_basis, pwm_may, pwm_owns, pwm_setting, PwmTable, PwmEdge, PwmRepresents, PwmState, rate-left, Read, ready, ready_by, Reason, refl, Reg, Reservations, reset_chip, ResetRequest, resets_chip, rises, Rising, SerialData, set_apart, sets_rate, settled, silent, slice_index-blank, slice_index_or, Some, some_same, SOURCES, stands-event, stands-move, stands-reset, StandsIn, STATE, Steady, Store, stores_in, subst, sym, tells_nothing, Tick, TimerLow, true, UnitAgrees, within, word_apart, word_later, word_of, work, World, world_after, Write, ℕ}
use Rattle.module_machines.specs.declared.pwm.call.Call.TheVariants.{Channel}
use Rattle.module_machines.specs.pwm.laws.Relation.{level_same}
use Rattle.pwm_driver.specs.laws.FlagRelation.{flagged_same}
use Rattle.chip_blocks.specs.pulses.Pulses as pulses
use Rattle.chip_blocks.specs.declared.pulses.pulse.Pulse as unit
use Rattle.module_machines.specs.declared.pwm.table.Channel as configured

-- ---- after a reset

fresh_at : (time c : ℕ) → c < 8 → pulses.pulse_at (pulses_fresh time) c ≡ pulses.silent
fresh_at time c lt = by_eight (λ i. pulses.pulse_at (pulses_fresh time) i ≡ pulses.silent) refl refl refl refl refl refl refl refl c lt

silent_agrees : (high : Bool) (now : ℕ) → UnitAgrees high now pulses.silent silent
silent_agrees high now = record { output = refl; begun = tt; past = omega arith; marks = tt }

no_bit : (k : ℕ) → has_bit 0 k ≡ false
no_bit k = has_bit-zero k

reset_agrees : (d : PwmTable) (chip : Chip) (w : World) (reason : Reason) → StandsIn chip w → PwmRepresents d [] settled (reset_chip chip reason) w first_state
reset_agrees d chip w reason h = record {
  right = tt;
  setup = tt;
  outside = stands-reset chip w reason h;
  size = refl;
  units = λ c lt closed. subst (λ p. UnitAgrees (polarity_of (channel_of d c)) w.now p silent) (sym (fresh_at chip.pulses.time c lt)) (silent_agrees (polarity_of (channel_of d c)) w.now);
  kinds = λ c lt closed. record { rising = no_bit c; falling = no_bit (c + 8) };
  words = record { state = λ g. slice_index-blank STATE; kinds = λ g. slice_index-blank KINDS; periods = λ on. absurd (cc) };
  lines = tt;
  clean = λ off c lt. record { level = false; idle = refl; off = refl };
  unused = λ c lt e. record { level = false; idle = refl; off = refl };
}

-- ---- a chip with the pulse units, the module's words and the enable bits of another one, at a later time

period_low : (c : ℕ) → c < 8 → is_own_word (period_word c) ≡ true
period_low c lt = by_eight (λ i. is_own_word (period_word i) ≡ true) refl refl refl refl refl refl refl refl c lt

same_setup : (d : PwmTable) (held : Reservations) (chip chip1 : Chip) → chip1.pulses.pulses ≡ chip.pulses.pulses → ((k : ℕ) → is_own_word k ≡ true → word_of chip1 k ≡ word_of chip k) → AllSetUp d held chip → AllSetUp d held chip1
same_setup d [] chip chip1 e words h = tt
same_setup d (x ∷ xs) chip chip1 e words h = (λ c lt. subst (λ v. IsSetUp (channel_of d c) x.what.upto c v (pulses.pulse_at chip1.pulses c).wave) (sym (words (period_word c) (period_low c lt))) (subst (λ ps. IsSetUp (channel_of d c) x.what.upto c (word_of chip (period_word c)) (slice_index_or ps c pulses.silent).wave) (sym e) (h.0 c lt)), same_setup d xs chip chip1 e words h.1)

unit_later : (high : Bool) (now later : ℕ) (p : unit.Pulse) (x : Pulse) → now ≤ later → UnitAgrees high now p x → UnitAgrees high later p x
unit_later high now later p x le h = let past = h.past in record { output = h.output; begun = h.begun; past = omega (arith, past, le); marks = h.marks }

pub same_agrees : (d : PwmTable) (held : Reservations) (gap : Lag) (chip chip1 : Chip) (w w1 : World) (s : PwmState) → StandsIn chip1 w1 → w.now ≤ w1.now → chip1.pulses.pulses ≡ chip.pulses.pulses → chip1.pulses.edges ≡ chip.pulses.edges → ((k : ℕ) → is_own_word k ≡ true → word_of chip1 k ≡ word_of chip k) → ((c : ℕ) → c < 8 → has_bit chip1.control.enabled (c + 8) ≡ has_bit chip.control.enabled (c + 8)) → PwmRepresents d held gap chip w s → PwmRepresents d held gap chip1 w1 s
same_agrees d held gap chip chip1 w w1 s outside le units edges words enabled h = record {
  right = h.right;
  setup = same_setup d held chip chip1 units words h.setup;
  outside = outside;
  size = ap length units ∙ h.size;
  units = λ c lt closed. subst (λ ps. UnitAgrees (polarity_of (channel_of d c)) w1.now (slice_index_or ps c pulses.silent) (pulse_at s c)) (sym units) (unit_later (polarity_of (channel_of d c)) w.now w1.now (pulses.pulse_at chip.pulses c) (pulse_at s c) le (h.units c lt closed));
  kinds = λ c lt closed. subst (λ e. KindAgrees e c (pulse_at s c).notified) (sym edges) (h.kinds c lt closed);
  words = record { state = λ g. words STATE refl ∙ h.words.state g; kinds = λ g. words KINDS refl ∙ (h.words.kinds g ∙ sym edges); periods = λ on c lt there g. words (period_word c) (period_low c lt) ∙ h.words.periods on c lt there g };
  lines = by_lines gap.lines s.initialised h.lines;
  clean = h.clean;
  unused = h.unused;
}
  where
    by_lines : (lines : Option Bool) (on : Bool) → LinesAgree lines on chip.control.enabled → LinesAgree lines on chip1.control.enabled
    by_lines (Some b) on a = λ c lt. enabled c lt ∙ a c lt
    by_lines None true a = λ c lt. enabled c lt ∙ a c lt
    by_lines None false a = tt

-- ---- in time

word_low : (k : ℕ) → is_own_word k ≡ true → k < SOURCES
word_low k e = let lt : k < 24640 = grind (arith, nat_tests) in omega (arith, lt)

later_agrees : (d : PwmTable) (held : Reservations) (gap : Lag) (chip : Chip) (w : World) (s : PwmState) (order : Order) → MayCome (pwm_setting d) held chip w s order → PwmRepresents d held gap chip w s → PwmRepresents d held gap (happened chip order) (world_after w chip.clock.rate order) s
later_agrees d held gap chip w s order come h = by_order order (stands-event chip w order (fills_there (pwm_setting d) (is_masked chip) w s come.frames order come.free) h.outside) (λ k own. word_later chip order k h.outside.all.words (word_low k own))
  where
    by_order : (order : Order) → StandsIn (happened chip order) (world_after w chip.clock.rate order) → ((k : ℕ) → is_own_word k ≡ true → word_of (happened chip order) k ≡ word_of chip k) → PwmRepresents d held gap (happened chip order) (world_after w chip.clock.rate order) s
    by_order (Tick n) outside words = same_agrees d held gap chip (happened chip (Tick n)) w (world_after w chip.clock.rate (Tick n)) s outside (omega arith) refl refl words (λ c lt. refl) h
    by_order (Level p v) outside words = same_agrees d held gap chip (happened chip (Level p v)) w (world_after w chip.clock.rate (Level p v)) s outside (omega arith) (level_leaves (λ c. c.pulses.pulses) chip p v refl) (level_leaves (λ c. c.pulses.edges) chip p v refl) words (λ c lt. level_leaves (λ k. has_bit k.control.enabled (c + 8)) chip p v refl) h
    by_order order outside words = same_agrees d held gap chip (happened chip order) w (world_after w chip.clock.rate order) s outside (omega arith) refl refl words (λ c lt. refl) h

-- ---- moves elsewhere

read_apart : (chip : Chip) (r : Reg) → (after_read chip r).pulses ≡ chip.pulses
read_apart chip (TimerLow c) = refl
read_apart chip (CaptureCountLow c) = refl
read_apart chip (CaptureTimeLow c) = refl
read_apart chip (ConverterAbort u) = refl
read_apart chip (PinFlip p) = refl
read_apart chip _ = refl

written_apart : (chip : Chip) (r : Reg) (v received : ℕ) → owns_written r v ≡ false → (chip_after chip (Write r v) received).pulses ≡ chip.pulses
written_apart chip (PulsePeriod c) v received e = absurd (cc)
written_apart chip (PulseDuty c) v received e = absurd (cc)
written_apart chip (PulsePolarity c) v received e = absurd (cc)
written_apart chip (PulseCommit c) v received e = absurd (cc)
written_apart chip (PulseIdle c) v received e = absurd (cc)
written_apart chip (PulseOut c) v received e = absurd (cc)
written_apart chip PulseEdges v received e = absurd (cc)
written_apart chip PulseFlags v received e = absurd (cc)
written_apart chip _ v received e = refl

pulses_apart : (chip : Chip) (made : Move) (received : ℕ) → pwm_owns made ≡ false → (chip_after chip made received).pulses ≡ chip.pulses
pulses_apart chip (Read r) received e = read_apart chip r
pulses_apart chip (Write r v) received e = written_apart chip r v received e
pulses_apart chip _ received e = refl

-- a value without a bit of a pulse line
no_line : (v c : ℕ) → v % 65536 ≡ v % 256 → c < 8 → has_bit v (c + 8) ≡ false
no_line v c e lt = by_eight (λ i. has_bit v (i + 8) ≡ false) (zero_bit (v / 256) (omega (arith, e))) (zero_bit (v / 512) (omega (arith, e))) (zero_bit (v / 1024) (omega (arith, e))) (zero_bit (v / 2048) (omega (arith, e))) (zero_bit (v / 4096) (omega (arith, e))) (zero_bit (v / 8192) (omega (arith, e))) (zero_bit (v / 16384) (omega (arith, e))) (zero_bit (v / 32768) (omega (arith, e))) c lt
  where
    zero_bit : (n : ℕ) → n % 2 ≡ 0 → (n % 2 == 1) ≡ false
    zero_bit n z = ap (λ x. x == 1) z

lines_none : (v : ℕ) → has_lines v ≡ false → v % 65536 ≡ v % 256
lines_none v e = grind (arith, nat_tests)

lines_fit : (v : ℕ) → has_lines v ≡ false → v < 2 ^ 32
lines_fit v e = grind (arith, nat_tests)

written_enabled : (chip : Chip) (r : Reg) (v received c : ℕ) → owns_written r v ≡ false → c < 8 → has_bit (chip_after chip (Write r v) received).control.enabled (c + 8) ≡ has_bit chip.control.enabled (c + 8)
written_enabled chip EnableSet v received c e lt = has_bit-or chip.control.enabled v (c + 8) ∙ set_apart (has_bit chip.control.enabled (c + 8)) (has_bit v (c + 8)) (no_line v c (lines_none v e) lt)
written_enabled chip EnableClear v received c e lt = let few : c + 8 < 32 = omega (arith, lt) in has_bit-without chip.control.enabled v (c + 8) (lines_fit v e) few ∙ clear_apart (has_bit chip.control.enabled (c + 8)) (has_bit v (c + 8)) (no_line v c (lines_none v e) lt)
written_enabled chip _ v received c e lt = refl

read_enabled : (chip : Chip) (r : Reg) → (after_read chip r).control ≡ chip.control
read_enabled chip (TimerLow c) = refl
read_enabled chip (CaptureCountLow c) = refl
read_enabled chip (CaptureTimeLow c) = refl
read_enabled chip (ConverterAbort u) = refl
read_enabled chip (PinFlip p) = refl
read_enabled chip _ = refl

enabled_apart : (chip : Chip) (made : Move) (received c : ℕ) → pwm_owns made ≡ false → c < 8 → has_bit (chip_after chip made received).control.enabled (c + 8) ≡ has_bit chip.control.enabled (c + 8)
enabled_apart chip (Read r) received c e lt = ap (λ k. has_bit k.enabled (c + 8)) (read_enabled chip r)
enabled_apart chip (Write r v) received c e lt = written_enabled chip r v received c e lt
enabled_apart chip _ received c e lt = refl

unstored : (made : Move) → pwm_owns made ≡ false → stores_in is_own_word made ≡ false
unstored (Store k v) e = e
unstored _ e = refl

apart_agrees : (d : PwmTable) (held : Reservations) (gap : Lag) (chip : Chip) (w : World) (s : PwmState) (made : Move) (received : ℕ) → pwm_owns made ≡ false → PwmRepresents d held gap chip w s → PwmRepresents d held gap (chip_after chip made received) w s
apart_agrees d held gap chip w s made received e h = same_agrees d held gap chip (chip_after chip made received) w w s (stands-move chip w made received h.outside) (omega arith) (ap (λ b. b.pulses) (pulses_apart chip made received e)) (ap (λ b. b.edges) (pulses_apart chip made received e)) (λ k own. word_apart is_own_word chip made received k (unstored made e) own) (λ c lt. enabled_apart chip made received c e lt) h

-- ---- what a frame may do

pub owned_plain : (made : Move) → pwm_owns made ≡ true → is_shared made ≡ false
owned_plain (Read r) e = refl
owned_plain (Write r v) e = refl
owned_plain (Load k) e = refl
owned_plain (Store k v) e = refl
owned_plain _ e = absurd (cc)

lines_named : (v : ℕ) → is_for_lines v ≡ true → has_lines v ≡ true
lines_named v e = grind (arith, nat_tests)

written_owned : (r : Reg) (v : ℕ) → may_write r v ≡ true → owns_written r v ≡ true
written_owned EnableSet v e = lines_named v e
written_owned EnableClear v e = lines_named v e
written_owned _ v e = e

may_owned : (made : Move) → may_name made ≡ true → pwm_owns made ≡ true
may_owned (Write r v) e = written_owned r v e
may_owned _ e = e

pub may_parts : (made : Move) → pwm_may made ≡ true → (pwm_owns made ≡ true) × (names_there made ≡ true)
may_parts made e = let p = and_parts (may_name made) (names_there made) e in (may_owned made p.0, p.1)

-- it resets nothing, begins no serial word and sets no rate
abbrev pub IsPlain : Move → Type 0
IsPlain made = (resets_chip made ≡ false) × (begins_word made ≡ false) × (sets_rate made ≡ false)

written_plain : (r : Reg) (v : ℕ) → may_name (Write r v) ≡ true → IsPlain (Write r v)
written_plain ResetRequest v e = absurd (cc)
written_plain (SerialData u) v e = absurd (cc)
written_plain ClockPll v e = absurd (cc)
written_plain ClockRate v e = absurd (cc)
written_plain _ v e = (refl, refl, refl)

named_plain : (made : Move) → may_name made ≡ true → IsPlain made
named_plain (Write r v) e = written_plain r v e
named_plain _ e = (refl, refl, refl)

pub plain_move : (made : Move) → pwm_may made ≡ true → IsPlain made
plain_move made e = named_plain made (and_parts (may_name made) (names_there made) e).0

-- and enables no other line
low_line : (v c : ℕ) → v % 256 ≡ 0 → c < 8 → has_bit v c ≡ false
low_line v c e lt = by_eight (λ i. has_bit v i ≡ false) (zero_bit (v / 1) (omega (arith, e))) (zero_bit (v / 2) (omega (arith, e))) (zero_bit (v / 4) (omega (arith, e))) (zero_bit (v / 8) (omega (arith, e))) (zero_bit (v / 16) (omega (arith, e))) (zero_bit (v / 32) (omega (arith, e))) (zero_bit (v / 64) (omega (arith, e))) (zero_bit (v / 128) (omega (arith, e))) c lt
  where
    zero_bit : (n : ℕ) → n % 2 ≡ 0 → (n % 2 == 1) ≡ false
    zero_bit n z = ap (λ x. x == 1) z

pub lines_parts : (v : ℕ) → is_for_lines v ≡ true → (v % 256 ≡ 0) × (v < 2 ^ 16)
lines_parts v e = (low v e, few v e)
  where
    low : (v : ℕ) → is_for_lines v ≡ true → v % 256 ≡ 0
    low v e = grind (arith, nat_tests)

    few : (v : ℕ) → is_for_lines v ≡ true → v < 2 ^ 16
    few v e = grind (arith, nat_tests)

pub other_line : (bits line : ℕ) → is_for_lines bits ≡ true → not (nat_lt line 8) && nat_lt line 16 ≡ false → has_bit bits line ≡ false
other_line bits line e f = by (nat_lt line 8) refl f
  where
    by : (q : Bool) → nat_lt line 8 ≡ q → not q && nat_lt line 16 ≡ false → has_bit bits line ≡ false
    by true i g = let lt : line < 8 = grind (arith, nat_tests) in low_line bits line (lines_parts bits e).0 lt
    by false i g = let above : 16 ≤ line = grind (arith, nat_tests) in has_bit-above bits 16 line (lines_parts bits e).1 above

-- ---- what is due

line_in : (line : ℕ) → not (nat_lt line 8) && nat_lt line 16 ≡ true → (8 ≤ line) × (line < 16)
line_in line e = (low line e, high line e)
  where
    low : (line : ℕ) → not (nat_lt line 8) && nat_lt line 16 ≡ true → 8 ≤ line
    low line e = grind (arith, nat_tests)

    high : (line : ℕ) → not (nat_lt line 8) && nat_lt line 16 ≡ true → line < 16
    high line e = grind (arith, nat_tests)

-- a chosen flag stands exactly where the mark does
due_by : (edges c : ℕ) (n : Option PwmEdge) (a b : Bool) → KindAgrees edges c n → (has_bit edges c && a) || (has_bit edges (c + 8) && b) ≡ ((rises n && a) || (falls n && b))
due_by edges c n a b k = ap (λ q. (q && a) || (has_bit edges (c + 8) && b)) k.rising ∙ ap (λ q. (rises n && a) || (q && b)) k.falling

chosen_is : (e : PwmEdge) (a b : Bool) → (rises (Some e) && a) || (falls (Some e) && b) ≡ chosen e a b
chosen_is Rising true b = refl
chosen_is Rising false b = refl
chosen_is Falling a b = refl
chosen_is Both a b = refl

pub due_here : (d : PwmTable) (held : Reservations) (chip : Chip) (w : World) (s : PwmState) (c : ℕ) → c < 8 → PwmRepresents d held settled chip w s → pulses.is_due chip.pulses c ≡ is_marked_by (pulse_at s c).notified (polarity_of (channel_of d c)) w.now (pulse_at s c)
due_here d held chip w s c lt h = due_by chip.pulses.edges c (pulse_at s c).notified (pulses.is_flagged true p chip.pulses.time) (pulses.is_flagged false p chip.pulses.time) (h.kinds c lt refl) ∙ by (pulse_at s c).notified refl
  where
    p : unit.Pulse
    p = pulses.pulse_at chip.pulses c

    by : (n : Option PwmEdge) → (pulse_at s c).notified ≡ n → (rises n && pulses.is_flagged true p chip.pulses.time) || (falls n && pulses.is_flagged false p chip.pulses.time) ≡ is_marked_by n (polarity_of (channel_of d c)) w.now (pulse_at s c)
    by None e = refl
    by (Some k) e = chosen_is k _ _ ∙ (flagged_same k (polarity_of (channel_of d c)) w.now p (pulse_at s c) e (h.units c lt refl) chip.pulses.time ∙ ap (λ t. is_marked_by (Some k) (polarity_of (channel_of d c)) t (pulse_at s c)) (h.outside.together.pulses ∙ h.outside.now))

number_small : (line : ℕ) → 8 ≤ line → line < 16 → line - 8 < 8
number_small line le lt = omega (arith, le, lt)

number_back : (line : ℕ) → 8 ≤ line → line - 8 + 8 ≡ line
number_back line le = omega (arith, le)

of_line : (d : PwmTable) (line : ℕ) → 8 ≤ line → channel_of_line d line ≡ channel_of d (line - 8)
of_line d line le = ap (λ q. if q then None else channel_of d (line - 8)) (not_low line le)
  where
    not_low : (line : ℕ) → 8 ≤ line → nat_lt line 8 ≡ false
    not_low line le = grind (arith, nat_tests)

pub quiet_none : (d : PwmTable) (w : World) (s : PwmState) (c : ℕ) → IsQuiet (pulse_at s c) → is_marked_by (pulse_at s c).notified (polarity_of (channel_of d c)) w.now (pulse_at s c) ≡ false
quiet_none d w s c q = ap (λ n. is_marked_by n (polarity_of (channel_of d c)) w.now (pulse_at s c)) q.off

pub due_line : (d : PwmTable) (held : Reservations) (chip : Chip) (w : World) (s : PwmState) (line : ℕ) → 8 ≤ line → line < 16 → PwmRepresents d held settled chip w s → is_pending chip line ≡ ready d w s line
due_line d held chip w s line le lt h =
    line-pulse chip line le lt
    ∙ (ap (λ q. q && has_bit chip.control.enabled line) (due_here d held chip w s (line - 8) (number_small line le lt) h)
    ∙ (by (channel_of d (line - 8)) s.initialised refl refl h.lines
    ∙ sym (ap (λ k. ready_by k w s (line - 8)) (of_line d line le))))
  where
    c : ℕ
    c = line - 8

    x : Pulse
    x = pulse_at s c

    on_there : (m e : Bool) → e ≡ true → m && e ≡ m
    on_there true e i = i
    on_there false e i = refl

    none_there : (m e : Bool) → m ≡ false → m && e ≡ false
    none_there m e i = ap (λ q. q && e) i

    enabled : (on : Bool) → on ≡ true → LinesAgree None on chip.control.enabled → has_bit chip.control.enabled line ≡ true
    enabled true i a = ap (λ l. has_bit chip.control.enabled l) (sym (number_back line le)) ∙ a c (number_small line le lt)
    enabled false i a = absurd (cc)

    by : (k : Option configured.Channel) (on : Bool) → channel_of d c ≡ k → s.initialised ≡ on → LinesAgree None s.initialised chip.control.enabled → is_marked_by x.notified (polarity_of (channel_of d c)) w.now x && has_bit chip.control.enabled line ≡ ready_by k w s c
    by None on e i a = none_there _ _ (quiet_none d w s c (h.unused c (number_small line le lt) e))
    by (Some k) true e i a = on_there _ _ (enabled s.initialised i a) ∙ (ap (λ o. is_marked_by x.notified (polarity_of o) w.now x) e ∙ sym (ap (λ q. q && is_marked_by x.notified k.polarity_high w.now x) i))
    by (Some k) false e i a = none_there _ _ (quiet_none d w s c (h.clean i c (number_small line le lt))) ∙ sym (ap (λ q. q && is_marked_by x.notified k.polarity_high w.now x) i)

pends : (d : PwmTable) (held : Reservations) (chip : Chip) (w : World) (s : PwmState) (line : ℕ) → not (nat_lt line 8) && nat_lt line 16 ≡ true → PwmRepresents d held settled chip w s → is_pending chip line ≡ ready d w s line
pends d held chip w s line e h = let l = line_in line e in due_line d held chip w s line l.0 l.1 h

unready : (k : Option configured.Channel) (w : World) (s : PwmState) (c : ℕ) → is_some k ≡ false → ready_by k w s c ≡ false
unready None w s c e = refl
unready (Some k) w s c e = absurd (cc)

ready_used : (k : Option configured.Channel) (w : World) (s : PwmState) (c : ℕ) → ready_by k w s c ≡ true → is_some k ≡ true
ready_used None w s c e = absurd (cc)
ready_used (Some k) w s c e = refl

used_line : (d : PwmTable) (line : ℕ) → is_some (channel_of_line d line) ≡ true → not (nat_lt line 8) && nat_lt line 16 ≡ true
used_line d line e = by (nat_lt line 8) refl e
  where
    few : (line : ℕ) → nat_lt line 8 ≡ false → line - 8 < 8 → nat_lt line 16 ≡ true
    few line i lt = grind (arith, nat_tests)

    by : (q : Bool) → nat_lt line 8 ≡ q → is_some (if q then None else channel_of d (line - 8)) ≡ true → not q && nat_lt line 16 ≡ true
    by true i f = absurd (cc)
    by false i f = few line i (within d (line - 8) f)

-- ---- the outputs

pub outputs_same : (d : PwmTable) (held : Reservations) (chip : Chip) (w : World) (s : PwmState) (c : ℕ) → c < 8 → PwmRepresents d held settled chip w s → pulses.level_at chip.pulses c ≡ level_at d w s c
outputs_same d held chip w s c lt h =
    let u = h.units c lt refl in
    ap (λ o. pulses.output_level o chip.pulses.time) u.output
    ∙ (level_same (polarity_of (channel_of d c)) (pulse_at s c).output (pulse_at s c).since chip.pulses.time u.begun
    ∙ ap (λ t. level_of_at t) (h.outside.together.pulses ∙ h.outside.now))
  where
    level_of_at : ℕ → Bool
    level_of_at t = level_at d (record w { now = t }) s c

-- ---- errors

work_tells : (d : PwmTable) (w : World) (s : PwmState) (call : Call) (times : ℕ → ℕ) → (work d w s call times).told.error ≡ None
work_tells d w s Init times = refl
work_tells d w s DeInit times = refl
work_tells d w s (GetOutputState c) times = refl
work_tells d w s (Channel c call) times = refl

acts_leave : (d : PwmTable) (w : World) (s : PwmState) (call : Call) (times : ℕ → ℕ) (e : Option ErrorName) → ErrorLeaves s (acts_by d w s call times e)
acts_leave d w s call times None some = absurd (let k = subst (λ x. IsSome x) (work_tells d w s call times) some in cc)
acts_leave d w s call times (Some e) some = (refl, refl)

error_leaves : (d : PwmTable) (w : World) (s : PwmState) (call : Call) (times : ℕ → ℕ) (out : Outcome PwmState) → happens d w s (Acts call times) ≡ Some out → ErrorLeaves s out
error_leaves d w s call times out is = subst (λ o. ErrorLeaves s o) (some_same is) (acts_leave d w s call times (error_by d call (not s.initialised)))

pub basis_right : (d : PwmTable) → IsBasis (pwm_basis d)
basis_right d = record {
  starts = λ chip w wired stands. reset_agrees d chip w PowerOn stands;
  moves = λ held chip w s order come. refl;
  resets = λ held gap chip w s reason h. (outcome first_state tells_nothing, refl, reset_agrees d chip w reason h.outside);
  agrees_later = λ held gap chip w s order come shut h. later_agrees d held gap chip w s order come h;
  agrees_apart = λ held chip w s made received e h. apart_agrees d held settled chip w s made received (e (Called Init)) h;
  may_owns = λ o made e. (may_parts made e).0;
  owns_plain = λ o made e. owned_plain made e;
  may_there = λ o made e. move_there made (may_parts made e).1;
  enables = λ o bits line e other. other_line bits line (and_parts (is_for_lines bits) true e).0 other;
  loads = λ origin value h. h;
  watched = λ held gap chip w s has osc h. cc;
  unwatched = λ w s none. refl;
  owns_called = λ line made e. (Init, e);
  used_lines = λ line e. used_line d line e;
  due_used = λ held chip w s line h e. ready_used (channel_of_line d line) w s (channel_number line) e;
  pends = λ held chip w s line there h e. pends d held chip w s line there h ∙ e;
  unused = λ held chip w s line there h free. pends d held chip w s line there h ∙ unready (channel_of_line d line) w s (channel_number line) free;
  rests = λ chip w s line there h. pends d [] chip w s line there h;
  unmasked = λ held chip w s origins among h c lt. outputs_same d held chip w s c lt h;
  rest = λ chip w s h. tt;
  waits = λ chip w s u h. refl;
  error_leaves = λ w s call times out e. error_leaves d w s call times out e;
  count_first = refl;
  count_happens = λ w s h out e. omega arith;
  count_moves = λ w s order out e. omega arith;
  count_resets = λ w s reason out e. omega arith;
  rated = Steady (λ chip o made received e. rate-left chip made received (plain_move made e).2) (λ w s h out e. refl);
  rate_starts = refl;
  rate_moves = λ w s order out e. refl;
  rate_resets = λ chip w s reason out e. refl;
}
