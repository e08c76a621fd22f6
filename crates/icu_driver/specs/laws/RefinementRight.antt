-- The ground keeps what it owes: under moves elsewhere, at rest, at notices and errors.
-- From service_outline: Words, Over, service_outline: There, Fresh, module_machines: icu.Channels.
-- Used by Lawful, Keeps, KeepRight, Init, Fits and 9 more.
use Rattle.std.proofs.Common.{◌≡◌, ℕ, suc, ◌+◌, ◌-◌, ◌/◌, ◌%◌, ◌*◌, ◌<◌, ◌≤◌, ◌^◌, Bool, true, false, ◌&&◌, ◌||◌, ◌==◌, not, nat_lt, List, [], ◌∷◌, length, map, Option, Some, None, refl, sym, ◌∙◌, ap, subst, arith}
use Rattle.std.specs.Prelude.{is_some, IsSome, if◌then◌else◌}
use Rattle.std.proofs.lemmas.Bool.Decides.{nat_tests}
use Rattle.std.proofs.lemmas.Bool.{and_parts, or_left, or_right}
use Rattle.mcal_base.specs.facts.Truths.{clear_apart, set_apart}
use Rattle.chip_blocks.specs.captures.Captures.{capture_at as chip_capture, is_waiting}
use Rattle.chip_blocks.specs.declared.captures.capture.Edge as chip_edges
use Rattle.chip_model.specs.Chip.{Chip, chip_after, after_read, is_pending}
use Rattle.chip_model.specs.Histories.{sets_rate}
use Rattle.chip_model.proofs.HistoryLaws.{rate-left}
use Rattle.chip_model.proofs.PinLaws.{line-capture}
use Rattle.mcal_base.specs.Bits.{has_bit}
use Rattle.mcal_base.proofs.BitLaws.{has_bit-or, has_bit-without, has_bit-above}
use Rattle.mcal_base.specs.Layout.{place_of}
use Rattle.mcal_base.specs.declared.layout.Array.TheVariants.{Stamps}
use Rattle.mcal_base.specs.declared.directive.Reason.TheVariants.{PowerOn}
use Rattle.mcal_base.specs.declared.error_name.ErrorName.{ErrorName}
use Rattle.mcal_base.specs.declared.moves.Move.{Move}
use Rattle.mcal_base.specs.declared.moves.Move.TheVariants.{Read, Write, Load, Store}
use Rattle.mcal_base.specs.declared.register.Reg.{Reg}
use Rattle.mcal_base.specs.declared.register.Reg.TheVariants.{EnableSet, EnableClear, TimerLow, CaptureCondition, CaptureMode, CaptureGateSet, CaptureGateClear, CaptureCountLow, CaptureTimeLow, CaptureZero, CapturePop, CaptureFlush, ConverterAbort, SerialData, ClockPll, ClockRate, ResetRequest, PinFlip}
use Rattle.run_model.specs.Frame.{Called, is_shared, resets_chip, begins_word, is_reset_service}
use Rattle.run_model.specs.Machine.{Acts, Outcome, ErrorLeaves, tells_nothing, outcome}
use Rattle.run_model.specs.World.{World}
use Rattle.run_model.proofs.OutsideLaws.{stands-move}
use Rattle.service_outline.specs.Outline.{IsGround}
use Rattle.mcal_base.specs.There.{names_there}
use Rattle.mcal_base.specs.laws.There.{move_there}
use Rattle.service_outline.specs.laws.Words.{stores_in, word_apart}
use Rattle.module_machines.specs.icu.Bounds.{is_capture, is_for_lines, may_write, is_own_word, is_stamp, may_name, icu_may, channel_count}
use Rattle.module_machines.specs.icu.Checks.{error_by, service_of, channel_service}
use Rattle.module_machines.specs.icu.Edges.{Edge}
use Rattle.icu_driver.specs.Refinement.{has_lines, owns_written, icu_owns, FitsIcu, Lag, settled, kept, IcuRepresents, icu_ground}
use Rattle.module_machines.specs.icu.Machine.{IcuState, first_state, capture_at, work, asked, acts_by, happens, ready, ready_by, waits, is_on}
use Rattle.module_machines.specs.icu.Table.{channel_of, channel_of_line, channel_number}
use Rattle.module_machines.specs.declared.icu.call.Call.{Call}
use Rattle.module_machines.specs.declared.icu.call.Call.TheVariants.{Init, DeInit}
use Rattle.module_machines.specs.declared.icu.call.Call.TheVariants as calls
use Rattle.module_machines.specs.declared.icu.call.ChannelCall.{ChannelCall}
use Rattle.module_machines.specs.declared.icu.call.ChannelCall.TheVariants.{SetActivationCondition}
use Rattle.module_machines.specs.declared.icu.table.Channel.{Channel}
use Rattle.module_machines.specs.declared.icu.table.IcuTable.{IcuTable}
use Rattle.icu_driver.specs.declared.words.TheConstants.{STATE}
use Rattle.icu_driver.specs.laws.Fresh.{reset_agrees}
use Rattle.icu_driver.specs.laws.Over.{same_agrees, later_agrees}
use Rattle.module_machines.specs.icu.laws.Channels.{by_eight}

-- ---- channels and lines by number

below : (c : ℕ) → nat_lt c 8 ≡ true → c < 8
below c e = grind (arith, nat_tests)

pub below_test : (c : ℕ) → c < 8 → nat_lt c 8 ≡ true
below_test c lt = grind (arith, nat_tests)

-- a configured channel is one of the eight
pub within : (d : IcuTable) (c : ℕ) → is_some (channel_of d c) ≡ true → c < 8
within d c h = by_test (nat_lt c 8) _ refl h
  where
    by_test : (q : Bool) (k : Option Channel) → nat_lt c 8 ≡ q → is_some (if q then k else None) ≡ true → c < 8
    by_test true k e h = below c e
    by_test false k e h = absurd (cc)

-- ---- moves elsewhere

read_apart : (chip : Chip) (r : Reg) → is_capture r ≡ false → (after_read chip r).captures ≡ chip.captures
read_apart chip (CaptureCountLow c) e = absurd (cc)
read_apart chip (CaptureTimeLow c) e = absurd (cc)
read_apart chip _ e = refl

written_apart : (chip : Chip) (r : Reg) (v received : ℕ) → owns_written r v ≡ false → (chip_after chip (Write r v) received).captures ≡ chip.captures
written_apart chip (CaptureCondition c) v received e = absurd (cc)
written_apart chip (CaptureMode c) v received e = absurd (cc)
written_apart chip CaptureGateSet v received e = absurd (cc)
written_apart chip CaptureGateClear v received e = absurd (cc)
written_apart chip (CaptureZero c) v received e = absurd (cc)
written_apart chip (CapturePop c) v received e = absurd (cc)
written_apart chip (CaptureFlush c) v received e = absurd (cc)
written_apart chip _ v received e = refl

captures_apart : (d : IcuTable) (chip : Chip) (made : Move) (received : ℕ) → icu_owns d made ≡ false → (chip_after chip made received).captures ≡ chip.captures
captures_apart d chip (Read r) received e = read_apart chip r e
captures_apart d chip (Write r v) received e = written_apart chip r v received e
captures_apart d chip _ received e = refl

abbrev owned_word : IcuTable → ℕ → Bool
owned_word d k = is_own_word d k || is_stamp d k

-- the words of the module are its own, and so are the places of the stamps of a configured channel
pub own_word : (d : IcuTable) (j : ℕ) → STATE ≤ j → j < 32832 → is_own_word d j ≡ true
own_word d j low high = by (channel_count d)
  where
    by : (n : ℕ) → not (nat_lt j 32768) && nat_lt j (32768 + (64 + 32 * n)) ≡ true
    by n = grind (arith, nat_tests)

pub own_stamp : (d : IcuTable) (c i : ℕ) → c < 8 → is_some (channel_of d c) ≡ true → i < 64 → is_stamp d (place_of (Stamps c) i) ≡ true
own_stamp d c i lt some below = ap (λ n. not (nat_lt (139264 + 64 * c + i) 139264) && is_some (channel_of d n)) at ∙ (ap (λ q. not q && is_some (channel_of d c)) high ∙ some)
  where
    at : (139264 + 64 * c + i - 139264) / 64 ≡ c
    at = omega (arith, below)

    high : nat_lt (139264 + 64 * c + i) 139264 ≡ false
    high = grind (arith, nat_tests)

unstored : (d : IcuTable) (made : Move) → icu_owns d made ≡ false → stores_in (owned_word d) made ≡ false
unstored d (Store k v) e = e
unstored d _ e = refl

-- a value without a bit of a capture line
no_line : (v c : ℕ) → v % 16777216 < 65536 → c < 8 → has_bit v (16 + c) ≡ false
no_line v c e lt = by_eight (λ i. has_bit v (16 + i) ≡ false) (zero_bit (v / 65536) (omega (arith, e))) (zero_bit (v / 131072) (omega (arith, e))) (zero_bit (v / 262144) (omega (arith, e))) (zero_bit (v / 524288) (omega (arith, e))) (zero_bit (v / 1048576) (omega (arith, e))) (zero_bit (v / 2097152) (omega (arith, e))) (zero_bit (v / 4194304) (omega (arith, e))) (zero_bit (v / 8388608) (omega (arith, e))) c lt
  where
    zero_bit : (n : ℕ) → n % 2 ≡ 0 → (n % 2 == 1) ≡ false
    zero_bit n z = ap (λ x. x == 1) z

lines_none : (v : ℕ) → has_lines v ≡ false → v % 16777216 < 65536
lines_none v e = grind (arith, nat_tests)

lines_fit : (v : ℕ) → has_lines v ≡ false → v < 2 ^ 32
lines_fit v e = grind (arith, nat_tests)

written_enabled : (chip : Chip) (r : Reg) (v received c : ℕ) → owns_written r v ≡ false → c < 8 → has_bit (chip_after chip (Write r v) received).control.enabled (16 + c) ≡ has_bit chip.control.enabled (16 + c)
written_enabled chip EnableSet v received c e lt = has_bit-or chip.control.enabled v (16 + c) ∙ set_apart (has_bit chip.control.enabled (16 + c)) (has_bit v (16 + c)) (no_line v c (lines_none v e) lt)
written_enabled chip EnableClear v received c e lt = let few : 16 + c < 32 = omega (arith, lt) in has_bit-without chip.control.enabled v (16 + c) (lines_fit v e) few ∙ clear_apart (has_bit chip.control.enabled (16 + c)) (has_bit v (16 + c)) (no_line v c (lines_none v e) lt)
written_enabled chip _ v received c e lt = refl

read_enabled : (chip : Chip) (r : Reg) → (after_read chip r).control ≡ chip.control
read_enabled chip (TimerLow c) = refl
read_enabled chip (CaptureCountLow c) = refl
read_enabled chip (CaptureTimeLow c) = refl
read_enabled chip (ConverterAbort u) = refl
read_enabled chip (PinFlip p) = refl
read_enabled chip _ = refl

enabled_apart : (d : IcuTable) (chip : Chip) (made : Move) (received c : ℕ) → icu_owns d made ≡ false → c < 8 → has_bit (chip_after chip made received).control.enabled (16 + c) ≡ has_bit chip.control.enabled (16 + c)
enabled_apart d chip (Read r) received c e lt = ap (λ k. has_bit k.enabled (16 + c)) (read_enabled chip r)
enabled_apart d chip (Write r v) received c e lt = written_enabled chip r v received c e lt
enabled_apart d chip _ received c e lt = refl

apart_agrees : (d : IcuTable) (gap : Lag) (chip : Chip) (w : World) (s : IcuState) (made : Move) (received : ℕ) → icu_owns d made ≡ false → IcuRepresents d gap chip w s → IcuRepresents d gap (chip_after chip made received) w s
apart_agrees d gap chip w s made received e h =
    let same = captures_apart d chip made received e in
    let word = λ (j : ℕ) (own : owned_word d j ≡ true). word_apart (owned_word d) chip made received j (unstored d made e) own in
    same_agrees d gap chip (chip_after chip made received) w w s (stands-move chip w made received h.outside) (ap (λ b. b.captures) same) (ap (λ b. b.pins) same)
    (λ j low high. word j (or_left (is_own_word d j) (is_stamp d j) (own_word d j low high)))
    (λ c lt some i few. word (place_of (Stamps c) i) (or_right (is_own_word d (place_of (Stamps c) i)) (is_stamp d (place_of (Stamps c) i)) (own_stamp d c i lt some few)))
    (λ c lt. enabled_apart d chip made received c e lt) refl h

-- ---- what a frame may do

owned_plain : (d : IcuTable) (made : Move) → icu_owns d made ≡ true → is_shared made ≡ false
owned_plain d (Read r) e = refl
owned_plain d (Write r v) e = refl
owned_plain d (Load k) e = refl
owned_plain d (Store k v) e = refl
owned_plain d _ e = absurd (cc)

lines_named : (v : ℕ) → is_for_lines v ≡ true → has_lines v ≡ true
lines_named v e = grind (arith, nat_tests)

written_owned : (r : Reg) (v : ℕ) → may_write r v ≡ true → owns_written r v ≡ true
written_owned EnableSet v e = lines_named v e
written_owned EnableClear v e = lines_named v e
written_owned _ v e = e

may_owned : (d : IcuTable) (made : Move) → may_name d made ≡ true → icu_owns d made ≡ true
may_owned d (Write r v) e = written_owned r v e
may_owned d _ e = e

may_parts : (d : IcuTable) (made : Move) → icu_may d made ≡ true → (icu_owns d made ≡ true) × (names_there made ≡ true)
may_parts d made e = let p = and_parts (may_name d made) (names_there made) e in (may_owned d made p.0, p.1)

-- it resets nothing, begins no serial word and sets no rate
abbrev IsPlain : Move → Type 0
IsPlain made = (resets_chip made ≡ false) × (begins_word made ≡ false) × (sets_rate made ≡ false)

written_plain : (d : IcuTable) (r : Reg) (v : ℕ) → may_name d (Write r v) ≡ true → IsPlain (Write r v)
written_plain d ResetRequest v e = absurd (cc)
written_plain d (SerialData u) v e = absurd (cc)
written_plain d ClockPll v e = absurd (cc)
written_plain d ClockRate v e = absurd (cc)
written_plain d _ v e = (refl, refl, refl)

named_plain : (d : IcuTable) (made : Move) → may_name d made ≡ true → IsPlain made
named_plain d (Write r v) e = written_plain d r v e
named_plain d _ e = (refl, refl, refl)

plain : (d : IcuTable) (made : Move) → icu_may d made ≡ true → IsPlain made
plain d made e = named_plain d made (and_parts (may_name d made) (names_there made) e).0

-- and enables no other line
low_line : (v c : ℕ) → v % 65536 ≡ 0 → c < 16 → has_bit v c ≡ false
low_line v c e lt = by (nat_lt c 8) refl
  where
    zero_bit : (n : ℕ) → n % 2 ≡ 0 → (n % 2 == 1) ≡ false
    zero_bit n z = ap (λ x. x == 1) z

    first : (c : ℕ) → c < 8 → has_bit v c ≡ false
    first c lt = by_eight (λ i. has_bit v i ≡ false) (zero_bit (v / 1) (omega (arith, e))) (zero_bit (v / 2) (omega (arith, e))) (zero_bit (v / 4) (omega (arith, e))) (zero_bit (v / 8) (omega (arith, e))) (zero_bit (v / 16) (omega (arith, e))) (zero_bit (v / 32) (omega (arith, e))) (zero_bit (v / 64) (omega (arith, e))) (zero_bit (v / 128) (omega (arith, e))) c lt

    second : (c : ℕ) → c < 8 → has_bit v (8 + c) ≡ false
    second c lt = by_eight (λ i. has_bit v (8 + i) ≡ false) (zero_bit (v / 256) (omega (arith, e))) (zero_bit (v / 512) (omega (arith, e))) (zero_bit (v / 1024) (omega (arith, e))) (zero_bit (v / 2048) (omega (arith, e))) (zero_bit (v / 4096) (omega (arith, e))) (zero_bit (v / 8192) (omega (arith, e))) (zero_bit (v / 16384) (omega (arith, e))) (zero_bit (v / 32768) (omega (arith, e))) c lt

    by : (q : Bool) → nat_lt c 8 ≡ q → has_bit v c ≡ false
    by true i = first c (below c i)
    by false i =
        let high : 8 ≤ c = grind (arith, nat_tests) in
        let back : 8 + (c - 8) ≡ c = omega (arith, high) in
        ap (λ n. has_bit v n) (sym back) ∙ second (c - 8) (omega (arith, lt, high))

pub lines_parts : (v : ℕ) → is_for_lines v ≡ true → (v % 65536 ≡ 0) × (v < 2 ^ 24)
lines_parts v e = (low v e, few v e)
  where
    low : (v : ℕ) → is_for_lines v ≡ true → v % 65536 ≡ 0
    low v e = grind (arith, nat_tests)

    few : (v : ℕ) → is_for_lines v ≡ true → v < 2 ^ 24
    few v e = grind (arith, nat_tests)

pub other_line : (bits line : ℕ) → is_for_lines bits ≡ true → not (nat_lt line 16) && nat_lt line 24 ≡ false → has_bit bits line ≡ false
other_line bits line e f = by (nat_lt line 16) refl f
  where
    by : (q : Bool) → nat_lt line 16 ≡ q → not q && nat_lt line 24 ≡ false → has_bit bits line ≡ false
    by true i g = let lt : line < 16 = grind (arith, nat_tests) in low_line bits line (lines_parts bits e).0 lt
    by false i g = let above : 24 ≤ line = grind (arith, nat_tests) in has_bit-above bits 24 line (lines_parts bits e).1 above

channel_asks : (call : ChannelCall) → is_reset_service (channel_service call) ≡ false
channel_asks (SetActivationCondition edge) = refl
channel_asks _ = refl

asks_none : (c : Call) → is_reset_service (service_of c) ≡ false
asks_none (calls.Channel c call) = channel_asks call
asks_none _ = refl

-- ---- what is due

line_in : (line : ℕ) → not (nat_lt line 16) && nat_lt line 24 ≡ true → (16 ≤ line) × (line < 24)
line_in line e = (low line e, high line e)
  where
    low : (line : ℕ) → not (nat_lt line 16) && nat_lt line 24 ≡ true → 16 ≤ line
    low line e = grind (arith, nat_tests)

    high : (line : ℕ) → not (nat_lt line 16) && nat_lt line 24 ≡ true → line < 24
    high line e = grind (arith, nat_tests)

waits_same : (es : List Edge) (q : List chip_edges.Edge) → q ≡ map kept es → nat_lt 0 (length q) ≡ waits es
waits_same [] q e = ap (λ xs. nat_lt 0 (length xs)) e
waits_same (x ∷ xs) q e = ap (λ xs. nat_lt 0 (length xs)) e ∙ positive (length (map kept xs))
  where
    positive : (n : ℕ) → nat_lt 0 (suc n) ≡ true
    positive n = grind (arith, nat_tests)

-- an edge waits in the block where one waits in the machine
pub waiting_here : (d : IcuTable) (chip : Chip) (w : World) (s : IcuState) (c : ℕ) → c < 8 → IcuRepresents d settled chip w s → is_waiting (chip_capture chip.captures c) ≡ waits (capture_at s c).waiting
waiting_here d chip w s c lt h = waits_same (capture_at s c).waiting (chip_capture chip.captures c).queue ((h.block c lt).queue refl)

-- none waits on a channel that isn't configured, or while the module is off
idle_waits : (d : IcuTable) (chip : Chip) (w : World) (s : IcuState) (c : ℕ) → c < 8 → IcuRepresents d settled chip w s → (capture_at s c).on ≡ false → waits (capture_at s c).waiting ≡ false
idle_waits d chip w s c lt h off = ap (λ es. waits es) ((h.course c lt).0.off off).0

of_line : (d : IcuTable) (line : ℕ) → 16 ≤ line → channel_of_line d line ≡ channel_of d (line - 16)
of_line d line le = ap (λ q. if q then None else channel_of d (line - 16)) (not_low line le)
  where
    not_low : (line : ℕ) → 16 ≤ line → nat_lt line 16 ≡ false
    not_low line le = grind (arith, nat_tests)

off_none : (d : IcuTable) (chip : Chip) (w : World) (s : IcuState) (c : ℕ) → c < 8 → IcuRepresents d settled chip w s → channel_of d c ≡ None → (capture_at s c).on ≡ false
off_none d chip w s c lt h e = by (capture_at s c).on refl
  where
    by : (q : Bool) → (capture_at s c).on ≡ q → (capture_at s c).on ≡ false
    by false i = i
    by true i = absurd (let f : is_some (channel_of d c) ≡ false = ap (λ k. is_some k) e in let g = ((h.block c lt).starts i).1 in cc)

pends : (d : IcuTable) (chip : Chip) (w : World) (s : IcuState) (line : ℕ) → not (nat_lt line 16) && nat_lt line 24 ≡ true → IcuRepresents d settled chip w s → is_pending chip line ≡ ready d w s line
pends d chip w s line in_lines h =
    line-capture chip line le lt
    ∙ (ap (λ q. q && has_bit chip.control.enabled line) (waiting_here d chip w s c few h)
    ∙ (ap (λ q. waits (capture_at s c).waiting && q) (ap (λ l. has_bit chip.control.enabled l) (sym back) ∙ h.lines c few)
    ∙ (by (channel_of d c) s.initialised refl refl
    ∙ sym (ap (λ k. ready_by k s c) (of_line d line le)))))
  where
    le : 16 ≤ line
    le = (line_in line in_lines).0

    lt : line < 24
    lt = (line_in line in_lines).1

    c : ℕ
    c = line - 16

    few : c < 8
    few = let a = le in let b = lt in omega (arith, a, b)

    back : 16 + c ≡ line
    back = let a = le in omega (arith, a)

    swap : (a b : Bool) → a && b ≡ b && a
    swap true true = refl
    swap true false = refl
    swap false true = refl
    swap false false = refl

    by : (k : Option Channel) (on : Bool) → channel_of d c ≡ k → s.initialised ≡ on → waits (capture_at s c).waiting && s.initialised ≡ ready_by k s c
    by None on e i = ap (λ q. q && s.initialised) (idle_waits d chip w s c few h (off_none d chip w s c few h e))
    by (Some k) on e i = swap (waits (capture_at s c).waiting) s.initialised

ready_used : (k : Option Channel) (s : IcuState) (c : ℕ) → ready_by k s c ≡ true → is_some k ≡ true
ready_used None s c e = absurd (cc)
ready_used (Some k) s c e = refl

used_line : (d : IcuTable) (line : ℕ) → is_some (channel_of_line d line) ≡ true → not (nat_lt line 16) && nat_lt line 24 ≡ true
used_line d line e = by (nat_lt line 16) refl e
  where
    few : (line : ℕ) → nat_lt line 16 ≡ false → line - 16 < 8 → nat_lt line 24 ≡ true
    few line i lt = grind (arith, nat_tests)

    by : (q : Bool) → nat_lt line 16 ≡ q → is_some (if q then None else channel_of d (line - 16)) ≡ true → not q && nat_lt line 24 ≡ true
    by true i f = absurd (cc)
    by false i f = few line i (within d (line - 16) f)

-- ---- the stamps, at rest and where a notice is given

some_is : {A : Type 0} (x : Option A) → IsSome x → is_some x ≡ true
some_is None i = absurd (cc)
some_is (Some a) i = refl

stamps_stand : (d : IcuTable) (chip : Chip) (w : World) (s : IcuState) → IcuRepresents d settled chip w s → (icu_ground d).setting.rest chip w s
stamps_stand d chip w s h c some i few = let is = some_is (channel_of d c) some in h.stamps c (within d c is) is i few refl

-- ---- errors

work_tells : (d : IcuTable) (s : IcuState) (call : Call) → (work d s call).told.error ≡ None
work_tells d s Init = refl
work_tells d s DeInit = refl
work_tells d s (calls.Channel c call) = by (channel_of d c)
  where
    by : (k : Option Channel) → (asked k s c call).told.error ≡ None
    by None = refl
    by (Some k) = refl

acts_leave : (d : IcuTable) (s : IcuState) (call : Call) (e : Option ErrorName) → ErrorLeaves s (acts_by d s call e)
acts_leave d s call None some = absurd (let k = subst (λ x. IsSome x) (work_tells d s call) some in cc)
acts_leave d s call (Some e) some = (refl, refl)

error_leaves : (d : IcuTable) (w : World) (s : IcuState) (call : Call) (times : ℕ → ℕ) (out : Outcome IcuState) → happens d w s (Acts call times) ≡ Some out → ErrorLeaves s out
error_leaves d w s call times out is = subst (λ o. ErrorLeaves s o) (given is) (acts_leave d s call (error_by d call (not s.initialised) (is_on s call)))
  where
    given : {A : Type 0} {x y : A} → Some x ≡ Some y → x ≡ y
    given e = cc

pub ground_right : (d : IcuTable) → FitsIcu d → IsGround (icu_ground d)
ground_right d fits = record {
  starts = λ chip w wired h. reset_agrees d chip w PowerOn h wired;
  moves = λ w s order. refl;
  resets = λ gap chip w s reason h. (outcome first_state tells_nothing, refl, reset_agrees d chip w reason h.outside h.wired);
  agrees_later = λ gap chip w s order free h. later_agrees d fits gap chip w s order free h;
  agrees_apart = λ gap chip w s made received e h. apart_agrees d gap chip w s made received (e (Called Init)) h;
  may_owns = λ o made e. (may_parts d made e).0;
  owns_plain = λ o made e. owned_plain d made e;
  may_there = λ o made e. move_there made (may_parts d made e).1;
  enables = λ o bits line e other. other_line bits line (and_parts (is_for_lines bits) true e).0 other;
  asks_none = λ c. asks_none c;
  polls_none = λ w s c. refl;
  resets_none = λ o made e. (plain d made e).0;
  words_none = λ o made e. (plain d made e).1;
  loads = λ origin value h. h;
  watched = λ gap chip w s has osc h. cc;
  unwatched = λ w s none. refl;
  owns_called = λ line made e. (Init, e);
  used_lines = λ line e. used_line d line e;
  due_used = λ chip w s line h e. ready_used (channel_of_line d line) s (channel_number line) e;
  pends = λ chip w s line there h. pends d chip w s line there h;
  rest = λ chip w s h. stamps_stand d chip w s h;
  unmasked = λ chip w s origins h. tt;
  shows = λ chip w s o n h some. stamps_stand d chip w s h n.id some;
  waits = λ chip w s u h. refl;
  error_leaves = λ w s call times out is. error_leaves d w s call times out is;
  count_first = refl;
  count_happens = λ w s h out e. omega arith;
  count_moves = λ w s order out e. omega arith;
  count_resets = λ w s reason out e. omega arith;
  rate_starts = refl;
  may_steady = λ chip o made received e. rate-left chip made received (plain d made e).2;
  rate_happens = λ w s h out e. refl;
  rate_resets = λ chip w s reason out e. refl;
}
