-- The driver keeps to its module: registers, words and lines of others are nothing to it.
-- From Lawful.
-- Used by mcal_drivers: proofs/Joining.
use Rattle.std.proofs.Common.{◌≡◌}
use Rattle.mcu_driver.specs.Terms
use Terms.{and_first, arith, ClockLock, ClockPll, ClockRate, EnableClear, EnableSet, false, is_of, is_own_word, is_register, KeepsTo, Load, Mcu, McuTable, module_of_register, module_of_word, Move, names_there, NamesOthers, NamesWithin, nat_lt, nat_tests, not-unless, only, owns, Ram, Read, refl, Reg, ResetReason, ResetRequest, services_driver, Store, true, Write, WritesOthers, WritesWithin, ℕ}
use Rattle.mcu_driver.specs.laws.Lawful.{mcu}

own_register : (r : Reg) → is_register r ≡ true → is_of (only Mcu) (module_of_register r) ≡ true
own_register ClockPll e = refl
own_register ClockLock e = refl
own_register ClockRate e = refl
own_register ResetReason e = refl
own_register ResetRequest e = refl
own_register (Ram k) e = refl
own_register _ e = cc

own_word : (k : ℕ) → is_own_word k ≡ true → is_of (only Mcu) (module_of_word k) ≡ true
own_word k e = let low : nat_lt k 8192 ≡ true = grind (arith, nat_tests) in rw low refl

writes : (r : Reg) (v : ℕ) → is_register r ≡ true → WritesWithin (only Mcu) r v
writes EnableSet v e = absurd (cc)
writes EnableClear v e = absurd (cc)
writes r v e = own_register r e

within : (made : Move) → owns made ≡ true → NamesWithin (only Mcu) made
within (Read r) e = own_register r e
within (Write r v) e = writes r v e
within (Load k) e = own_word k e
within (Store k v) e = own_word k e
within _ e = absurd (cc)

others_write : (r : Reg) (v : ℕ) → WritesOthers (only Mcu) r v → is_register r ≡ false
others_write EnableSet v h = refl
others_write EnableClear v h = refl
others_write r v h = not-unless (is_register r) (is_of (only Mcu) (module_of_register r)) (own_register r) h

others : (made : Move) → NamesOthers (only Mcu) made → owns made ≡ false
others (Read r) h = not-unless (is_register r) (is_of (only Mcu) (module_of_register r)) (own_register r) h
others (Write r v) h = others_write r v h
others (Load k) h = not-unless (is_own_word k) (is_of (only Mcu) (module_of_word k)) (own_word k) h
others (Store k v) h = not-unless (is_own_word k) (is_of (only Mcu) (module_of_word k)) (own_word k) h
others _ h = refl

-- it is the clock's alone
pub keeps_clock : (d : McuTable) → KeepsTo (only Mcu) (services_driver (mcu d))
keeps_clock d = record {
  may = λ o made h. within made (and_first (owns made) (names_there made) h);
  owns = λ o made h. others made h;
  handlers = λ l h. cc;
  polls = λ w s c. refl;
  starts = λ w s u by r some. cc;
  aborts = λ w s u some. cc;
}
