-- The driver keeps to its module: registers, words and lines of others are nothing to it.
-- From RefinementRight, Handler, Lawful.
-- Used by mcal_drivers: proofs/Joining.
use Rattle.std.proofs.Common.{◌≡◌, ◌+◌, ◌-◌, ◌*◌, ◌/◌, ◌%◌, ◌<◌, ◌≤◌, ◌^◌, ◌==◌, ◌&&◌, ◌||◌, if◌then◌else◌}
use Rattle.icu_driver.specs.Terms
use Terms.{and_first, and_parts, arith, Asked, bit_of, Bool, CaptureCondition, CaptureCountHigh, CaptureCountLow}
use Terms.{CaptureFlush, CaptureGateClear, CaptureGateSet, CaptureInfo, CaptureMode, CapturePop, CaptureTimeHigh}
use Terms.{CaptureTimeLow, CaptureZero, Channel, channel_count, channel_of, channel_of_line, counted, driver_of}
use Terms.{EnableClear, EnableSet, EnablesOthers, EnablesWithin, entering, false, has_bit, has_lines, Icu, icu_owns, IcuTable, is_capture, is_for_lines, is_of, is_own_word, is_some, is_stamp, KeepsTo, lines_parts, Load, may_name, may_write, module_of_line, module_of_register, module_of_word, Move, names_there, NamesOthers, NamesWithin, nat_lt, nat_tests, None, not, not-unless, Option, other_line, owns_written, Read, refl, Reg, Some, Store, true, within_eight, Write, WritesOthers, WritesWithin, ℕ}
use Rattle.step_runner.specs.Whose.{only}
use Rattle.icu_driver.specs.laws.{Handler.{body_by}, Lawful.{icu}}

own_register : (r : Reg) → is_capture r ≡ true → is_of (only Icu) (module_of_register r) ≡ true
own_register (CaptureCondition c) e = refl
own_register (CaptureMode c) e = refl
own_register CaptureGateSet e = refl
own_register CaptureGateClear e = refl
own_register (CaptureCountLow c) e = refl
own_register (CaptureCountHigh c) e = refl
own_register (CaptureZero c) e = refl
own_register (CaptureTimeLow c) e = refl
own_register (CaptureTimeHigh c) e = refl
own_register (CaptureInfo c) e = refl
own_register (CapturePop c) e = refl
own_register (CaptureFlush c) e = refl
own_register _ e = cc

-- ---- words

driver_word : (k : ℕ) → 32768 ≤ k → k < 40960 → is_of (only Icu) (module_of_word k) ≡ true
driver_word k low high =
    let first : nat_lt k 8192 ≡ false = grind (arith, nat_tests) in
    let second : nat_lt k 16384 ≡ false = grind (arith, nat_tests) in
    let third : nat_lt k 24576 ≡ false = grind (arith, nat_tests) in
    let fourth : nat_lt k 32768 ≡ false = grind (arith, nat_tests) in
    let last : nat_lt k 40960 ≡ true = grind (arith, nat_tests) in
    rw (first, second, third, fourth, last) refl

stamp_place : (k : ℕ) → 139264 ≤ k → k < 139776 → is_of (only Icu) (module_of_word k) ≡ true
stamp_place k low high =
    let first : nat_lt k 8192 ≡ false = grind (arith, nat_tests) in
    let second : nat_lt k 16384 ≡ false = grind (arith, nat_tests) in
    let third : nat_lt k 24576 ≡ false = grind (arith, nat_tests) in
    let fourth : nat_lt k 32768 ≡ false = grind (arith, nat_tests) in
    let fifth : nat_lt k 40960 ≡ false = grind (arith, nat_tests) in
    let sixth : nat_lt k 49152 ≡ false = grind (arith, nat_tests) in
    let seventh : nat_lt k 57344 ≡ false = grind (arith, nat_tests) in
    let eighth : nat_lt k 65536 ≡ false = grind (arith, nat_tests) in
    let users : nat_lt k 73728 ≡ false = grind (arith, nat_tests) in
    let stamps : nat_lt k 139264 ≡ false = grind (arith, nat_tests) in
    let last : nat_lt k 139776 ≡ true = grind (arith, nat_tests) in
    rw (first, second, third, fourth, fifth, sixth, seventh, eighth, users, stamps, last) refl

bit_few : (q : Bool) → bit_of q ≤ 1
bit_few true = omega arith
bit_few false = omega arith

count_few : (d : IcuTable) → channel_count d ≤ 8
count_few d =
    let one = λ (c : ℕ). bit_few (is_some (channel_of d c)) in
    let b0 = one 0 in
    let b1 = one 1 in
    let b2 = one 2 in
    let b3 = one 3 in
    let b4 = one 4 in
    let b5 = one 5 in
    let b6 = one 6 in
    let b7 = one 7 in
    sums (counted d 0) (counted d 1) (counted d 2) (counted d 3) (counted d 4) (counted d 5) (counted d 6) (counted d 7) b0 b1 b2 b3 b4 b5 b6 b7
  where
    sums : (a b c e f g h i : ℕ) → a ≤ 1 → b ≤ 1 → c ≤ 1 → e ≤ 1 → f ≤ 1 → g ≤ 1 → h ≤ 1 → i ≤ 1 → a + b + c + e + f + g + h + i ≤ 8
    sums a b c e f g h i p0 p1 p2 p3 p4 p5 p6 p7 = omega arith

within_words : (n k : ℕ) → n ≤ 8 → not (nat_lt k 32768) && nat_lt k (32768 + (64 + 32 * n)) ≡ true → (32768 ≤ k) × (k < 40960)
within_words n k few e = (low, high)
  where
    low : 32768 ≤ k
    low = grind (arith, nat_tests)

    below : nat_lt k (32768 + (64 + 32 * n)) ≡ true → k < 32768 + (64 + 32 * n)
    below i = grind (arith, nat_tests)

    high : k < 40960
    high = let less = below (and_parts (not (nat_lt k 32768)) (nat_lt k (32768 + (64 + 32 * n))) e).1 in omega (arith, few, less)

own_word : (d : IcuTable) (k : ℕ) → is_own_word d k ≡ true → is_of (only Icu) (module_of_word k) ≡ true
own_word d k e = let p = within_words (channel_count d) k (count_few d) e in driver_word k p.0 p.1

own_stamp : (d : IcuTable) (k : ℕ) → is_stamp d k ≡ true → is_of (only Icu) (module_of_word k) ≡ true
own_stamp d k e =
    let p = and_parts (not (nat_lt k 139264)) (is_some (channel_of d ((k - 139264) / 64))) e in
    let low = high_word k p.0 in
    let few = within_eight d ((k - 139264) / 64) p.1 in
    stamp_place k low (omega (arith, low, few))
  where
    high_word : (k : ℕ) → not (nat_lt k 139264) ≡ true → 139264 ≤ k
    high_word k i = grind (arith, nat_tests)

own_place : (d : IcuTable) (k : ℕ) → is_own_word d k || is_stamp d k ≡ true → is_of (only Icu) (module_of_word k) ≡ true
own_place d k e = by (is_own_word d k) (is_stamp d k) e (own_word d k) (own_stamp d k)
  where
    by : (a b : Bool) → a || b ≡ true → (a ≡ true → is_of (only Icu) (module_of_word k) ≡ true) → (b ≡ true → is_of (only Icu) (module_of_word k) ≡ true) → is_of (only Icu) (module_of_word k) ≡ true
    by true b e f g = f refl
    by false b e f g = g e

-- ---- lines

own_line : (l : ℕ) → 16 ≤ l → l < 24 → is_of (only Icu) (module_of_line l) ≡ true
own_line l le lt =
    let first : nat_lt l 8 ≡ false = grind (arith, nat_tests) in
    let above : nat_lt l 16 ≡ false = grind (arith, nat_tests) in
    let low : nat_lt l 24 ≡ true = grind (arith, nat_tests) in
    rw (first, above, low) refl

own_bit : (v l : ℕ) → is_for_lines v ≡ true → has_bit v l ≡ true → is_of (only Icu) (module_of_line l) ≡ true
own_bit v l e on = by (not (nat_lt l 16) && nat_lt l 24) refl
  where
    by : (q : Bool) → not (nat_lt l 16) && nat_lt l 24 ≡ q → is_of (only Icu) (module_of_line l) ≡ true
    by true i =
        let le : 16 ≤ l = grind (arith, nat_tests) in
        let lt : l < 24 = grind (arith, nat_tests) in
        own_line l le lt
    by false i = let off = other_line v l e i in absurd (cc)

enables : (v : ℕ) → is_for_lines v ≡ true → EnablesWithin (only Icu) v
enables v e =
    let fits = (lines_parts v e).1 in
    record { fits = omega (arith, fits); lines = λ l on. own_bit v l e on }

-- a value without any bit of a capture line
even : (n : ℕ) → (n % 2 == 1) ≡ false → n % 2 ≡ 0
even n e = grind (arith, nat_tests)

bits_off : (v : ℕ) → ((c : ℕ) → c < 8 → has_bit v (c + 16) ≡ false) → v % 16777216 < 65536
bits_off v off =
    let b0 : v / 65536 % 2 ≡ 0 = even (v / 65536) (off 0 (omega arith)) in
    let b1 : v / 131072 % 2 ≡ 0 = even (v / 131072) (off 1 (omega arith)) in
    let b2 : v / 262144 % 2 ≡ 0 = even (v / 262144) (off 2 (omega arith)) in
    let b3 : v / 524288 % 2 ≡ 0 = even (v / 524288) (off 3 (omega arith)) in
    let b4 : v / 1048576 % 2 ≡ 0 = even (v / 1048576) (off 4 (omega arith)) in
    let b5 : v / 2097152 % 2 ≡ 0 = even (v / 2097152) (off 5 (omega arith)) in
    let b6 : v / 4194304 % 2 ≡ 0 = even (v / 4194304) (off 6 (omega arith)) in
    let b7 : v / 8388608 % 2 ≡ 0 = even (v / 8388608) (off 7 (omega arith)) in
    omega (arith, b0, b1, b2, b3, b4, b5, b6, b7)

without_lines : (v : ℕ) → v % 16777216 < 65536 → v < 2 ^ 32 → has_lines v ≡ false
without_lines v few fits = grind (arith, nat_tests)

enables_none : (v : ℕ) → EnablesOthers (only Icu) v → has_lines v ≡ false
enables_none v h = without_lines v (bits_off v (λ c lt. h.lines (c + 16) (own_line (c + 16) (omega arith) (omega (arith, lt))))) h.fits

-- ---- moves

writes : (r : Reg) (v : ℕ) → may_write r v ≡ true → WritesWithin (only Icu) r v
writes EnableSet v e = enables v e
writes EnableClear v e = enables v e
writes r v e = own_register r e

within : (d : IcuTable) (made : Move) → may_name d made ≡ true → NamesWithin (only Icu) made
within d (Read r) e = own_register r e
within d (Write r v) e = writes r v e
within d (Load k) e = own_place d k e
within d (Store k v) e = own_place d k e
within d _ e = absurd (cc)

others_write : (r : Reg) (v : ℕ) → WritesOthers (only Icu) r v → owns_written r v ≡ false
others_write EnableSet v h = enables_none v h
others_write EnableClear v h = enables_none v h
others_write r v h = not-unless (is_capture r) (is_of (only Icu) (module_of_register r)) (own_register r) h

others : (d : IcuTable) (made : Move) → NamesOthers (only Icu) made → icu_owns d made ≡ false
others d (Read r) h = not-unless (is_capture r) (is_of (only Icu) (module_of_register r)) (own_register r) h
others d (Write r v) h = others_write r v h
others d (Load k) h = not-unless (is_own_word d k || is_stamp d k) (is_of (only Icu) (module_of_word k)) (own_place d k) h
others d (Store k v) h = not-unless (is_own_word d k || is_stamp d k) (is_of (only Icu) (module_of_word k)) (own_place d k) h
others d _ h = refl

-- ---- handlers

handled : (k : Option Channel) → is_some (entering {Asked = Asked} (body_by k)) ≡ true → is_some k ≡ true
handled None h = cc
handled (Some k) h = refl

line_of : (d : IcuTable) (l : ℕ) → is_some (channel_of_line d l) ≡ true → is_of (only Icu) (module_of_line l) ≡ true
line_of d l h = by (nat_lt l 16) refl h
  where
    by : (q : Bool) → nat_lt l 16 ≡ q → is_some (if q then None else channel_of d (l - 16)) ≡ true → is_of (only Icu) (module_of_line l) ≡ true
    by true e h = absurd (cc)
    by false e h =
        let few = within_eight d (l - 16) h in
        let le : 16 ≤ l = grind (arith, nat_tests) in
        own_line l le (omega (arith, few, le))

-- it is the captures' alone
pub keeps_captures : (d : IcuTable) → KeepsTo (only Icu) (driver_of (icu d))
keeps_captures d = record {
  may = λ o made h. within d made (and_first (may_name d made) (names_there made) h);
  owns = λ o made h. others d made h;
  handlers = λ l h. line_of d l (handled (channel_of_line d l) h);
  polls = λ w s c. refl;
  starts = λ w s u by r some. cc;
  aborts = λ w s u some. cc;
}
