-- The driver keeps to its module: registers, words and lines of others are nothing to it.
-- From Lawful, module_machines: gpt.Channels.
-- Used by mcal_drivers: proofs/Joining.
use Rattle.std.proofs.Common.{◌≡◌, ℕ, ◌<◌, ◌≤◌, ◌^◌, ◌%◌, true, false, Option, Some, None, refl, arith}
use Rattle.std.specs.Prelude.{is_some}
use Rattle.mcal_base.specs.facts.Truths.{and_first}
use Rattle.gpt_driver.specs.laws.Base.{lt-ltb, le-ltb, nat_tests, has_bit, has_bit-above, Move, EnableSet, EnableClear, TimerTarget, gpt_owns, is_own_word, has_lines, is_for_lines, is_timer, may_name, may_write, owns_written, channel_of, Channel, GptTable, Asked, Load, Read, Store, Write, Reg, driver_of, names_there}
use Rattle.mcal_base.specs.declared.module_name.ModuleName.TheVariants.{Gpt}
use Rattle.service_outline.specs.Services.{entering}
use Rattle.step_runner.specs.Whose.{only, is_of, module_of_register, module_of_line, module_of_word, EnablesWithin, WritesWithin, NamesWithin, EnablesOthers, WritesOthers, NamesOthers, KeepsTo}
use Rattle.step_runner.proofs.Whose.{not-unless}
use Rattle.module_machines.specs.gpt.laws.Channels.{within as within_eight}
use Rattle.gpt_driver.specs.laws.Lawful.{gpt, body_by}

own_register : (r : Reg) → is_timer r ≡ true → is_of (only Gpt) (module_of_register r) ≡ true
own_register (TimerTarget c) e = cc
own_register _ e = cc

own_word : (k : ℕ) → is_own_word k ≡ true → is_of (only Gpt) (module_of_word k) ≡ true
own_word k e =
    let at : (16384 ≤ k) × (k < 16448) = (grind (arith, nat_tests), grind (arith, nat_tests)) in
    rw (le-ltb k 8192 (omega (arith, at)), le-ltb k 16384 at.0, lt-ltb k 24576 (omega (arith, at))) refl

-- ---- lines

own_line : (l : ℕ) → l < 8 → is_of (only Gpt) (module_of_line l) ≡ true
own_line l lt = rw (lt-ltb l 8 lt) refl

own_bit : (v l : ℕ) → v < 2 ^ 8 → has_bit v l ≡ true → l < 8
own_bit v l fits on = grind (arith, has_bit-above v 8 l fits)

enables : (v : ℕ) → is_for_lines v ≡ true → EnablesWithin (only Gpt) v
enables v e =
    let fits : v < 2 ^ 8 = grind (arith, nat_tests) in
    record { fits = omega (arith, fits); lines = λ l on. own_line l (own_bit v l fits on) }

-- a value without any bit of a timer line
bits_off : (v : ℕ) → ((c : ℕ) → c < 8 → has_bit v c ≡ false) → v % 256 ≡ 0
bits_off v off =
    let b0 = off 0 (omega arith) in
    let b1 = off 1 (omega arith) in
    let b2 = off 2 (omega arith) in
    let b3 = off 3 (omega arith) in
    let b4 = off 4 (omega arith) in
    let b5 = off 5 (omega arith) in
    let b6 = off 6 (omega arith) in
    let b7 = off 7 (omega arith) in
    grind (arith, nat_tests)

enables_none : (v : ℕ) → EnablesOthers (only Gpt) v → has_lines v ≡ false
enables_none v h =
    let zero = bits_off v (λ c lt. h.lines c (own_line c lt)) in
    let fits = h.fits in
    grind (arith, nat_tests)

-- ---- moves

writes : (r : Reg) (v : ℕ) → may_write r v ≡ true → WritesWithin (only Gpt) r v
writes EnableSet v e = enables v e
writes EnableClear v e = enables v e
writes r v e = own_register r e

within : (made : Move) → may_name made ≡ true → NamesWithin (only Gpt) made
within (Read r) e = own_register r e
within (Write r v) e = writes r v e
within (Load k) e = own_word k e
within (Store k v) e = own_word k e
within _ e = absurd (cc)

others_write : (r : Reg) (v : ℕ) → WritesOthers (only Gpt) r v → owns_written r v ≡ false
others_write EnableSet v h = enables_none v h
others_write EnableClear v h = enables_none v h
others_write r v h = not-unless (is_timer r) (is_of (only Gpt) (module_of_register r)) (own_register r) h

others : (made : Move) → NamesOthers (only Gpt) made → gpt_owns made ≡ false
others (Read r) h = not-unless (is_timer r) (is_of (only Gpt) (module_of_register r)) (own_register r) h
others (Write r v) h = others_write r v h
others (Load k) h = not-unless (is_own_word k) (is_of (only Gpt) (module_of_word k)) (own_word k) h
others (Store k v) h = not-unless (is_own_word k) (is_of (only Gpt) (module_of_word k)) (own_word k) h
others _ h = refl

handled : (k : Option Channel) → is_some (entering {Asked = Asked} (body_by k)) ≡ true → is_some k ≡ true
handled None h = h
handled (Some k) h = h

-- it is the timers' alone
pub keeps_timers : (d : GptTable) → KeepsTo (only Gpt) (driver_of (gpt d))
keeps_timers d = record {
  may = λ o made h. within made (and_first (may_name made) (names_there made) h);
  owns = λ o made h. others made h;
  handlers = λ l h. own_line l (within_eight d l (handled (channel_of d l) h));
  polls = λ w s c. refl;
  starts = λ w s u by r some. cc;
  aborts = λ w s u some. cc;
}
