-- The driver keeps to its module: registers, words and lines of others are nothing to it.
-- From Lawful.
-- Used by mcal_drivers: proofs/Joining.
use Rattle.std.proofs.Common.{◌≡◌, ℕ, ◌<◌, ◌≤◌, true, false, refl, arith}
use Rattle.std.proofs.lemmas.Bool.{lt-ltb, le-ltb}
use Rattle.std.proofs.lemmas.Bool.Decides.{nat_tests}
use Rattle.mcal_base.specs.facts.Truths.{and_first}
use Rattle.mcal_base.specs.declared.module_name.ModuleName.TheVariants.{Wdg}
use Rattle.mcal_base.specs.declared.moves.Move.{Move}
use Rattle.mcal_base.specs.declared.moves.Move.TheVariants.{Read, Write, Load, Store}
use Rattle.mcal_base.specs.declared.register.Reg.{Reg}
use Rattle.mcal_base.specs.declared.register.Reg.TheVariants.{EnableSet, EnableClear, WatchdogLoad}
use Rattle.service_outline.specs.ShortServices.{driver_of}
use Rattle.mcal_base.specs.There.{names_there}
use Rattle.step_runner.specs.Whose.{only, is_of, module_of_register, module_of_word, WritesWithin, NamesWithin, WritesOthers, NamesOthers, KeepsTo}
use Rattle.step_runner.proofs.Whose.{not-unless}
use Rattle.module_machines.specs.wdg.Bounds.{is_register, is_own_word, owns}
use Rattle.module_machines.specs.declared.wdg.table.WdgTable.{WdgTable}
use Rattle.wdg_driver.specs.laws.Lawful.{wdg}

own_register : (r : Reg) → is_register r ≡ true → is_of (only Wdg) (module_of_register r) ≡ true
own_register WatchdogLoad e = refl
own_register _ e = cc

own_word : (k : ℕ) → is_own_word k ≡ true → is_of (only Wdg) (module_of_word k) ≡ true
own_word k e =
    let at : (65536 ≤ k) × (k < 65600) = (grind (arith, nat_tests), grind (arith, nat_tests)) in
    rw (le-ltb k 8192 (omega (arith, at)), le-ltb k 16384 (omega (arith, at)), le-ltb k 24576 (omega (arith, at)), le-ltb k 32768 (omega (arith, at)), le-ltb k 40960 (omega (arith, at)), le-ltb k 49152 (omega (arith, at)), le-ltb k 57344 (omega (arith, at)), le-ltb k 65536 at.0, lt-ltb k 73728 (omega (arith, at))) refl

writes : (r : Reg) (v : ℕ) → is_register r ≡ true → WritesWithin (only Wdg) r v
writes EnableSet v e = absurd (cc)
writes EnableClear v e = absurd (cc)
writes r v e = own_register r e

within : (made : Move) → owns made ≡ true → NamesWithin (only Wdg) made
within (Read r) e = own_register r e
within (Write r v) e = writes r v e
within (Load k) e = own_word k e
within (Store k v) e = own_word k e
within _ e = absurd (cc)

others_write : (r : Reg) (v : ℕ) → WritesOthers (only Wdg) r v → is_register r ≡ false
others_write EnableSet v h = refl
others_write EnableClear v h = refl
others_write r v h = not-unless (is_register r) (is_of (only Wdg) (module_of_register r)) (own_register r) h

others : (made : Move) → NamesOthers (only Wdg) made → owns made ≡ false
others (Read r) h = not-unless (is_register r) (is_of (only Wdg) (module_of_register r)) (own_register r) h
others (Write r v) h = others_write r v h
others (Load k) h = not-unless (is_own_word k) (is_of (only Wdg) (module_of_word k)) (own_word k) h
others (Store k v) h = not-unless (is_own_word k) (is_of (only Wdg) (module_of_word k)) (own_word k) h
others _ h = refl

-- it is the watchdog's alone
pub keeps_watchdog : (d : WdgTable) → KeepsTo (only Wdg) (driver_of (wdg d))
keeps_watchdog d = record {
  may = λ o made h. within made (and_first (owns made) (names_there made) h);
  owns = λ o made h. others made h;
  handlers = λ l h. cc;
  polls = λ w s c. refl;
  starts = λ w s u by r some. cc;
  aborts = λ w s u some. cc;
}
