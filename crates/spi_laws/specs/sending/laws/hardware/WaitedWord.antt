-- A read that waits for the word in transfer is made once the word is done.
-- Used by bookkeeping.HeldWord.
use Rattle.std.proofs.Common.{◌≡◌, ◌+◌, ◌-◌, ◌*◌, ◌/◌, ◌<◌, ◌∙◌}
use Rattle.std.proofs.Math.Nat.{lt-div-mul-add}
use Rattle.spi_laws.specs.sending.Terms
use Terms.{ap, arith, Chip, max, nat_le, nat_tests, Read, SerialWait, Some, stall_of, subst, sym, true, unit_at, ℕ}
use Rattle.chip_blocks.specs.units.Serials as serials
use Rattle.chip_blocks.specs.declared.units.serial.Word as chips

-- no ticks are waited for where none are needed
none_needed : (n m : ℕ) → 0 < m → (n + (m - 1)) / m ≡ 0 → n ≡ 0
none_needed n m some e = let lt = subst (λ q. n + (m - 1) < q * m + m) e (lt-div-mul-add some) in omega (arith, lt, some)

some_rate : (r : ℕ) → 0 < max 1 r
some_rate r = omega arith

over : (began now : ℕ) → 8 - (now - began) ≡ 0 → nat_le 8 (now - began) ≡ true
over began now e = grind (arith, nat_tests)

pub waited : (chip : Chip) (u : ℕ) (y : chips.Word) → (unit_at chip.serials u).word ≡ Some y → stall_of chip (Read (SerialWait u)) ≡ 0 → serials.is_done (unit_at chip.serials u) chip.serials.time ≡ true
waited chip u y word e = ap (λ o. serials.has_ended o chip.serials.time) word ∙ over y.start chip.serials.time (sym (ap (λ o. serials.left_at o chip.serials.time) word) ∙ none_needed (serials.left (unit_at chip.serials u) chip.serials.time) (max 1 chip.clock.rate) (some_rate chip.clock.rate) e)
