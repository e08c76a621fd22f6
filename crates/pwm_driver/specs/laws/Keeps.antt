-- The driver keeps to its module: registers, words and lines of others are nothing to it.
-- From RefinementRight, Lawful, module_machines: pwm.Channels.
-- Used by mcal_drivers: proofs/Joining.
use Rattle.std.proofs.Common.{◌≡◌, ◌+◌, ◌-◌, ◌/◌, ◌%◌, ◌<◌, ◌≤◌, ◌^◌, ◌==◌, ◌&&◌, if◌then◌else◌}
use Rattle.pwm_driver.specs.Terms
use Terms.{and_first, arith, Asked, Bool, Channel, channel_of, channel_of_line, EnableClear, EnableSet, EnablesOthers}
use Terms.{EnablesWithin, entering, false, has_bit, has_lines, is_for_lines, is_of, is_own_word, is_pulse, is_some}
use Terms.{KeepsTo, Load, may_name, may_write, module_of_line, module_of_register, module_of_word, Move, names_there}
use Terms.{NamesOthers, NamesWithin, nat_lt, nat_tests, None, not, not-unless, Option, owns_written, PulseCommit, PulseDuty, PulseEdges, PulseFlags, PulseIdle, PulseOut, PulsePeriod, PulsePolarity, Pwm, pwm_owns, PwmTable, Read, refl, Reg, services_driver, Some, Store, true, within_eight, Write, WritesOthers, WritesWithin, ℕ}
use Rattle.step_runner.specs.Whose.{only}
use Rattle.pwm_driver.specs.laws.{RefinementRight.{lines_parts, other_line}, Lawful.{pwm, body_by}}

own_register : (r : Reg) → is_pulse r ≡ true → is_of (only Pwm) (module_of_register r) ≡ true
own_register (PulsePeriod c) e = refl
own_register (PulseDuty c) e = refl
own_register (PulsePolarity c) e = refl
own_register (PulseCommit c) e = refl
own_register (PulseIdle c) e = refl
own_register (PulseOut c) e = refl
own_register PulseEdges e = refl
own_register PulseFlags e = refl
own_register _ e = cc

own_word : (k : ℕ) → is_own_word k ≡ true → is_of (only Pwm) (module_of_word k) ≡ true
own_word k e =
    let first : nat_lt k 8192 ≡ false = grind (arith, nat_tests) in
    let second : nat_lt k 16384 ≡ false = grind (arith, nat_tests) in
    let third : nat_lt k 24576 ≡ false = grind (arith, nat_tests) in
    let low : nat_lt k 32768 ≡ true = grind (arith, nat_tests) in
    rw (first, second, third, low) refl

-- ---- lines

own_line : (l : ℕ) → 8 ≤ l → l < 16 → is_of (only Pwm) (module_of_line l) ≡ true
own_line l le lt =
    let above : nat_lt l 8 ≡ false = grind (arith, nat_tests) in
    let low : nat_lt l 16 ≡ true = grind (arith, nat_tests) in
    rw (above, low) refl

own_bit : (v l : ℕ) → is_for_lines v ≡ true → has_bit v l ≡ true → is_of (only Pwm) (module_of_line l) ≡ true
own_bit v l e on = by (not (nat_lt l 8) && nat_lt l 16) refl
  where
    by : (q : Bool) → not (nat_lt l 8) && nat_lt l 16 ≡ q → is_of (only Pwm) (module_of_line l) ≡ true
    by true i =
        let le : 8 ≤ l = grind (arith, nat_tests) in
        let lt : l < 16 = grind (arith, nat_tests) in
        own_line l le lt
    by false i = let off = other_line v l e i in absurd (cc)

enables : (v : ℕ) → is_for_lines v ≡ true → EnablesWithin (only Pwm) v
enables v e =
    let fits = (lines_parts v e).1 in
    record { fits = omega (arith, fits); lines = λ l on. own_bit v l e on }

-- a value without any bit of a pulse line
even : (n : ℕ) → (n % 2 == 1) ≡ false → n % 2 ≡ 0
even n e = grind (arith, nat_tests)

bits_off : (v : ℕ) → ((c : ℕ) → c < 8 → has_bit v (c + 8) ≡ false) → v % 65536 ≡ v % 256
bits_off v off =
    let b0 : v / 256 % 2 ≡ 0 = even (v / 256) (off 0 (omega arith)) in
    let b1 : v / 512 % 2 ≡ 0 = even (v / 512) (off 1 (omega arith)) in
    let b2 : v / 1024 % 2 ≡ 0 = even (v / 1024) (off 2 (omega arith)) in
    let b3 : v / 2048 % 2 ≡ 0 = even (v / 2048) (off 3 (omega arith)) in
    let b4 : v / 4096 % 2 ≡ 0 = even (v / 4096) (off 4 (omega arith)) in
    let b5 : v / 8192 % 2 ≡ 0 = even (v / 8192) (off 5 (omega arith)) in
    let b6 : v / 16384 % 2 ≡ 0 = even (v / 16384) (off 6 (omega arith)) in
    let b7 : v / 32768 % 2 ≡ 0 = even (v / 32768) (off 7 (omega arith)) in
    omega (arith, b0, b1, b2, b3, b4, b5, b6, b7)

without_lines : (v : ℕ) → v % 65536 ≡ v % 256 → v < 2 ^ 32 → has_lines v ≡ false
without_lines v same fits = grind (arith, nat_tests)

enables_none : (v : ℕ) → EnablesOthers (only Pwm) v → has_lines v ≡ false
enables_none v h = without_lines v (bits_off v (λ c lt. h.lines (c + 8) (own_line (c + 8) (omega arith) (omega (arith, lt))))) h.fits

-- ---- moves

writes : (r : Reg) (v : ℕ) → may_write r v ≡ true → WritesWithin (only Pwm) r v
writes EnableSet v e = enables v e
writes EnableClear v e = enables v e
writes r v e = own_register r e

within : (made : Move) → may_name made ≡ true → NamesWithin (only Pwm) made
within (Read r) e = own_register r e
within (Write r v) e = writes r v e
within (Load k) e = own_word k e
within (Store k v) e = own_word k e
within _ e = absurd (cc)

others_write : (r : Reg) (v : ℕ) → WritesOthers (only Pwm) r v → owns_written r v ≡ false
others_write EnableSet v h = enables_none v h
others_write EnableClear v h = enables_none v h
others_write r v h = not-unless (is_pulse r) (is_of (only Pwm) (module_of_register r)) (own_register r) h

others : (made : Move) → NamesOthers (only Pwm) made → pwm_owns made ≡ false
others (Read r) h = not-unless (is_pulse r) (is_of (only Pwm) (module_of_register r)) (own_register r) h
others (Write r v) h = others_write r v h
others (Load k) h = not-unless (is_own_word k) (is_of (only Pwm) (module_of_word k)) (own_word k) h
others (Store k v) h = not-unless (is_own_word k) (is_of (only Pwm) (module_of_word k)) (own_word k) h
others _ h = refl

-- ---- handlers

handled : (k : Option Channel) → is_some (entering {Asked = Asked} (body_by k)) ≡ true → is_some k ≡ true
handled None h = cc
handled (Some k) h = refl

line_of : (d : PwmTable) (l : ℕ) → is_some (channel_of_line d l) ≡ true → is_of (only Pwm) (module_of_line l) ≡ true
line_of d l h = by (nat_lt l 8) refl h
  where
    by : (q : Bool) → nat_lt l 8 ≡ q → is_some (if q then None else channel_of d (l - 8)) ≡ true → is_of (only Pwm) (module_of_line l) ≡ true
    by true e h = absurd (cc)
    by false e h =
        let few = within_eight d (l - 8) h in
        let le : 8 ≤ l = grind (arith, nat_tests) in
        own_line l le (omega (arith, few, le))

-- it is the pulses' alone
pub keeps_pulses : (d : PwmTable) → KeepsTo (only Pwm) (services_driver (pwm d))
keeps_pulses d = record {
  may = λ o made h. within made (and_first (may_name made) (names_there made) h);
  owns = λ o made h. others made h;
  handlers = λ l h. line_of d l (handled (channel_of_line d l) h);
  polls = λ w s c. refl;
  starts = λ w s u by r some. cc;
  aborts = λ w s u some. cc;
}
