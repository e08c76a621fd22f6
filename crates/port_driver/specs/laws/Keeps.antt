-- The driver keeps to its module: registers, words and lines of others are nothing to it.
-- From Lawful.
-- Used by mcal_drivers: proofs/Joining.
use Rattle.std.proofs.Common.{◌≡◌, ◌&&◌, ◌||◌, if◌then◌else◌}
use Rattle.port_driver.specs.Terms
use Terms.{and_first, arith, EnableClear, EnableSet, false, is_guests, is_of, is_of_init, is_own_word, is_register, KeepsTo, Load}
use Terms.{may, module_of_register, module_of_word, Move, names_there, NamesOthers, NamesWithin, nat_lt, nat_tests, not}
use Terms.{not-unless, only, owns, PinDirectionClear, PinDirectionSet, PinFlip, PinMode, PinOutClear, PinOutSet, Port, PortTable, PortPut, Read, refl, Reg, services_driver, Store, true, Write, writes_latches, WritesOthers, WritesWithin, ℕ}
use Rattle.port_driver.specs.laws.Lawful.{port}

own_register : (r : Reg) → is_register r ≡ true → is_of (only Port) (module_of_register r) ≡ true
own_register (PinDirectionSet half) e = refl
own_register (PinDirectionClear half) e = refl
own_register (PinOutSet half) e = refl
own_register (PinOutClear half) e = refl
own_register (PinMode p) e = refl
own_register (PortPut q) e = refl
own_register (PinFlip p) e = refl
own_register _ e = cc

own_word : (k : ℕ) → is_own_word k ≡ true → is_of (only Port) (module_of_word k) ≡ true
own_word k e =
    let high : nat_lt k 8192 ≡ false = grind (arith, nat_tests) in
    let low : nat_lt k 16384 ≡ true = grind (arith, nat_tests) in
    rw (high, low) refl

writes : (r : Reg) (v : ℕ) → is_register r ≡ true → WritesWithin (only Port) r v
writes EnableSet v e = absurd (cc)
writes EnableClear v e = absurd (cc)
writes r v e = own_register r e

within : (made : Move) → owns made ≡ true → NamesWithin (only Port) made
within (Read r) e = own_register r e
within (Write r v) e = writes r v e
within (Load k) e = own_word k e
within (Store k v) e = own_word k e
within _ e = absurd (cc)

others_write : (r : Reg) (v : ℕ) → WritesOthers (only Port) r v → is_register r ≡ false
others_write EnableSet v h = refl
others_write EnableClear v h = refl
others_write r v h = not-unless (is_register r) (is_of (only Port) (module_of_register r)) (own_register r) h

others : (made : Move) → NamesOthers (only Port) made → owns made ≡ false
others (Read r) h = not-unless (is_register r) (is_of (only Port) (module_of_register r)) (own_register r) h
others (Write r v) h = others_write r v h
others (Load k) h = not-unless (is_own_word k) (is_of (only Port) (module_of_word k)) (own_word k) h
others (Store k v) h = not-unless (is_own_word k) (is_of (only Port) (module_of_word k)) (own_word k) h
others _ h = refl

-- it is the pins' alone
pub keeps_pins : (d : PortTable) → KeepsTo (only Port) (services_driver (port d))
keeps_pins d = record {
  may = λ o made h. within made (and_first (owns made) (not (is_guests made) && names_there made) (and_first (may made) (is_of_init o || not (writes_latches made)) h));
  owns = λ o made h. others made h;
  handlers = λ l h. cc;
  polls = λ w s c. refl;
  starts = λ w s u by r some. cc;
  aborts = λ w s u some. cc;
}
