-- The bit of a line in the flags of its block is the line's flag.
use Rattle.std.proofs.Common.{◌≡◌, ℕ, ◌+◌, ◌-◌, ◌*◌, ◌^◌, ◌<◌, ◌≤◌, ◌⊎◌, inl, inr, sym, ◌∙◌, ap, arith}
use Rattle.std.specs.Prelude.{◌==◌}
use Rattle.std.proofs.lemmas.Nat.{pow_pos}
use Rattle.std.proofs.lemmas.Nat.Bits.{bit_at_cat_high}
use Rattle.mcal_base.specs.facts.Numbers.{lt_from, lt_since}
use Rattle.mcal_base.specs.Bits.{has_bit}
use Rattle.mcal_base.proofs.BitLaws.{has_bit-bits_of}
use Rattle.chip_blocks.specs.timers.Timers as timers
use Rattle.chip_blocks.proofs.of_timers.TimerLaws.{has_bit-flags_of}
use Rattle.chip_blocks.specs.pulses.Pulses as pulses
use Rattle.chip_blocks.specs.captures.Captures as captures
use Rattle.chip_blocks.specs.converter.Converters as converters
use Rattle.chip_blocks.proofs.of_converter.StateLaws as converter_laws
use Rattle.chip_blocks.specs.units.Serials as serials
use Rattle.chip_blocks.proofs.of_units.SerialLaws as serial_laws
use Rattle.chip_model.specs.Chip.{Chip, flag_of}

pub has_bit-shifted : (x n k : ℕ) → n ≤ k → has_bit (x * 2 ^ n) k ≡ has_bit x (k - n)
has_bit-shifted x n k le =
    let none : x * 2 ^ n ≡ x * 2 ^ n + 0 = omega arith in
    rw none (ap (λ b. b == 1) (bit_at_cat_high x n 0 k (pow_pos n) le))

pub flag-timer : (c : Chip) (line : ℕ) → line < 8 → has_bit (timers.flags_of c.timers) line ≡ flag_of c line
flag-timer c line lt = rw (lt_from line 8 lt) (has_bit-flags_of c.timers line lt)

pub flag-pulse : (c : Chip) (line : ℕ) → 8 ≤ line → line < 16 → has_bit (pulses.lines_of c.pulses) line ≡ flag_of c line
flag-pulse c line least lt =
    rw (lt_since line 8 least, lt_from line 16 lt)
    (has_bit-shifted (pulses.due_channels c.pulses) 8 line least
    ∙ has_bit-bits_of (λ k. pulses.is_due c.pulses k) 8 (line - 8) (omega arith))

pub flag-capture : (c : Chip) (line : ℕ) → 16 ≤ line → line < 24 → has_bit (captures.lines_of c.captures) line ≡ flag_of c line
flag-capture c line least lt =
    rw (lt_since line 8 (omega arith), lt_since line 16 least, lt_from line 24 lt)
    (has_bit-shifted (captures.waiting_channels c.captures) 16 line least
    ∙ has_bit-bits_of (λ k. captures.is_waiting (captures.capture_at c.captures k)) 8 (line - 16) (omega arith))

pub one_of : (n line : ℕ) → n ≤ line → line < n + 2 → (line ≡ n) ⊎ (line ≡ n + 1)
one_of n line least lt = grind arith

pub flag-converter : (c : Chip) (line : ℕ) → 24 ≤ line → line < 26 → has_bit (converters.flags_of c.converters) line ≡ flag_of c line
flag-converter c line least lt = elim (one_of 24 line least lt) [
  | inl e ↦ rw e (converter_laws.flag-first c.converters)
  | inr e ↦ rw e (converter_laws.flag-second c.converters)
]

pub flag-serial : (c : Chip) (line : ℕ) → 26 ≤ line → line < 28 → has_bit (serials.flags_of c.serials) line ≡ flag_of c line
flag-serial c line least lt = elim (one_of 26 line least lt) [
  | inl e ↦ rw e (serial_laws.flag-first c.serials)
  | inr e ↦ rw e (serial_laws.flag-second c.serials)
]

pub flag-trigger : (c : Chip) (line : ℕ) → 28 ≤ line → has_bit (converters.flags_of c.converters) line ≡ flag_of c line
flag-trigger c line least =
    let there : 28 + (line - 28) ≡ line = omega arith in
    rw (lt_since line 8 (omega arith), lt_since line 16 (omega arith), lt_since line 24 (omega arith), lt_since line 26 (omega arith), lt_since line 28 least)
    (ap (λ k. has_bit (converters.flags_of c.converters) k) (sym there) ∙ converter_laws.flag-pulse c.converters (line - 28))
