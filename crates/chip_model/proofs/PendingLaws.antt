-- The flags of all lines at once: each line's flag stands in the flags of its block, and in no other block's.
use Rattle.std.proofs.Common.{◌≡◌, ℕ, ◌+◌, ◌-◌, ◌*◌, ◌^◌, ◌<◌, ◌≤◌, ◌⊎◌, inl, inr, Bool, true, false, refl, ◌∙◌, ap, arith, add_comm, ◌||◌, ◌==◌, bit_and, bit_or}
use Rattle.std.specs.Prelude.{◌&&◌}
use Rattle.std.proofs.lemmas.Nat.Bits.{bit_at_cat_low}
use Rattle.mcal_base.specs.facts.Truths.{or_false}
use Rattle.mcal_base.specs.Bits.{has_bit, bit_of}
use Rattle.mcal_base.proofs.BitLaws.{has_bit-zero, has_bit-or, has_bit-and, has_bit-above, has_bit-bits_of_above}
use Rattle.chip_blocks.specs.timers.Timers as timers
use Rattle.chip_blocks.specs.pulses.Pulses as pulses
use Rattle.chip_blocks.specs.captures.Captures as captures
use Rattle.chip_blocks.specs.converter.Rounds as rounds
use Rattle.chip_blocks.specs.converter.Converters as converters
use Rattle.chip_blocks.specs.units.Serials as serials
use Rattle.chip_model.specs.Chip.{Chip, flag_of, is_pending}
use Rattle.chip_model.proofs.LineLaws.{has_bit-shifted, one_of, flag-timer, flag-pulse, flag-capture, flag-converter, flag-serial, flag-trigger}

abbrev pub all_flags : Chip → ℕ
all_flags c = bit_or (bit_or (timers.flags_of c.timers) (pulses.lines_of c.pulses)) (bit_or (captures.lines_of c.captures) (bit_or (converters.flags_of c.converters) (serials.flags_of c.serials)))

-- ---- a block's flags hold none of another's

clear_below : (x n k : ℕ) → k < n → has_bit (x * 2 ^ n) k ≡ false
clear_below x n k lt =
    let none : x * 2 ^ n ≡ x * 2 ^ n + 0 = omega arith in
    rw none (ap (λ b. b == 1) (bit_at_cat_low x n 0 k lt) ∙ has_bit-zero k)

timers_clear : (c : Chip) (line : ℕ) → 8 ≤ line → has_bit (timers.flags_of c.timers) line ≡ false
timers_clear c line least = has_bit-bits_of_above (λ k. timers.is_flagged (timers.timer_at c.timers k) c.timers.time) 8 line least

pulses_clear : (c : Chip) (line : ℕ) → 16 ≤ line → has_bit (pulses.lines_of c.pulses) line ≡ false
pulses_clear c line least =
    has_bit-shifted (pulses.due_channels c.pulses) 8 line (omega arith)
    ∙ has_bit-bits_of_above (λ k. pulses.is_due c.pulses k) 8 (line - 8) (omega arith)

captures_clear : (c : Chip) (line : ℕ) → 24 ≤ line → has_bit (captures.lines_of c.captures) line ≡ false
captures_clear c line least =
    has_bit-shifted (captures.waiting_channels c.captures) 16 line (omega arith)
    ∙ has_bit-bits_of_above (λ k. captures.is_waiting (captures.capture_at c.captures k)) 8 (line - 16) (omega arith)

rounds_below : (x y p line : ℕ) → line < 24 → has_bit (x * 2 ^ 24 + y * 2 ^ 25 + p * 2 ^ 28) line ≡ false
rounds_below x y p line lt =
    let one : x * 2 ^ 24 + y * 2 ^ 25 + p * 2 ^ 28 ≡ (x + y * 2 + p * 16) * 2 ^ 24 = omega arith in
    rw one (clear_below (x + y * 2 + p * 16) 24 line lt)

rounds_clear : (x y : Bool) (line : ℕ) → (line ≡ 26) ⊎ (line ≡ 27) → has_bit (bit_of x * 2 ^ 24 + bit_of y * 2 ^ 25) line ≡ false
rounds_clear true true line (inl e) = rw e refl
rounds_clear true false line (inl e) = rw e refl
rounds_clear false true line (inl e) = rw e refl
rounds_clear false false line (inl e) = rw e refl
rounds_clear true true line (inr e) = rw e refl
rounds_clear true false line (inr e) = rw e refl
rounds_clear false true line (inr e) = rw e refl
rounds_clear false false line (inr e) = rw e refl

converters_below : (c : Chip) (line : ℕ) → line < 24 → has_bit (converters.flags_of c.converters) line ≡ false
converters_below c line lt =
    rounds_below
    (bit_of (rounds.is_finished (converters.unit_at c.converters 0).round c.converters.time))
    (bit_of (rounds.is_finished (converters.unit_at c.converters 1).round c.converters.time))
    c.converters.pulses line lt

converters_clear : (c : Chip) (line : ℕ) → 26 ≤ line → line < 28 → has_bit (converters.flags_of c.converters) line ≡ false
converters_clear c line least lt =
    let x = rounds.is_finished (converters.unit_at c.converters 0).round c.converters.time in
    let y = rounds.is_finished (converters.unit_at c.converters 1).round c.converters.time in
    ap (λ n. has_bit n line) (add_comm (bit_of x * 2 ^ 24 + bit_of y * 2 ^ 25) (c.converters.pulses * 2 ^ 28))
    ∙ ap (λ n. n == 1) (bit_at_cat_low c.converters.pulses 28 (bit_of x * 2 ^ 24 + bit_of y * 2 ^ 25) line lt)
    ∙ rounds_clear x y line (one_of 26 line least lt)

words_below : (x y line : ℕ) → line < 26 → has_bit (x * 2 ^ 26 + y * 2 ^ 27) line ≡ false
words_below x y line lt =
    let one : x * 2 ^ 26 + y * 2 ^ 27 ≡ (x + y * 2) * 2 ^ 26 = omega arith in
    rw one (clear_below (x + y * 2) 26 line lt)

serials_below : (c : Chip) (line : ℕ) → line < 26 → has_bit (serials.flags_of c.serials) line ≡ false
serials_below c line lt =
    words_below (bit_of (serials.is_done (serials.unit_at c.serials 0) c.serials.time)) (bit_of (serials.is_done (serials.unit_at c.serials 1) c.serials.time)) line lt

words_fit : (x y : Bool) → bit_of x * 2 ^ 26 + bit_of y * 2 ^ 27 < 2 ^ 28
words_fit true true = omega arith
words_fit true false = omega arith
words_fit false true = omega arith
words_fit false false = omega arith

serials_above : (c : Chip) (line : ℕ) → 28 ≤ line → has_bit (serials.flags_of c.serials) line ≡ false
serials_above c line least =
    has_bit-above (serials.flags_of c.serials) 28 line
    (words_fit (serials.is_done (serials.unit_at c.serials 0) c.serials.time) (serials.is_done (serials.unit_at c.serials 1) c.serials.time))
    least

-- ---- so all flags hold each line's once

all_by : (t p c k s line : ℕ) (on_t on_p on_c on_k on_s : Bool) → has_bit t line ≡ on_t → has_bit p line ≡ on_p → has_bit c line ≡ on_c → has_bit k line ≡ on_k → has_bit s line ≡ on_s →
    has_bit (bit_or (bit_or t p) (bit_or c (bit_or k s))) line ≡ ((on_t || on_p) || (on_c || (on_k || on_s)))
all_by t p c k s line on_t on_p on_c on_k on_s et ep ec ek es =
    has_bit-or (bit_or t p) (bit_or c (bit_or k s)) line
    ∙ (ap (λ q. q || has_bit (bit_or c (bit_or k s)) line) (has_bit-or t p line ∙ (ap (λ q. q || has_bit p line) et ∙ ap (λ q. on_t || q) ep))
    ∙ ap (λ q. (on_t || on_p) || q)
    (has_bit-or c (bit_or k s) line
    ∙ (ap (λ q. q || has_bit (bit_or k s) line) ec
    ∙ ap (λ q. on_c || q) (has_bit-or k s line ∙ (ap (λ q. q || has_bit s line) ek ∙ ap (λ q. on_k || q) es)))))

below_or_since : (n line : ℕ) → (line < n) ⊎ (n ≤ line)
below_or_since n line = grind arith

has_bit-by : (c : Chip) (line : ℕ) (on_t on_p on_c on_k on_s : Bool) → has_bit (timers.flags_of c.timers) line ≡ on_t → has_bit (pulses.lines_of c.pulses) line ≡ on_p
    → has_bit (captures.lines_of c.captures) line ≡ on_c → has_bit (converters.flags_of c.converters) line ≡ on_k → has_bit (serials.flags_of c.serials) line ≡ on_s
    → has_bit (all_flags c) line ≡ ((on_t || on_p) || (on_c || (on_k || on_s)))
has_bit-by c line = all_by (timers.flags_of c.timers) (pulses.lines_of c.pulses) (captures.lines_of c.captures) (converters.flags_of c.converters) (serials.flags_of c.serials) line

from_timers : (c : Chip) (line : ℕ) → line < 8 → has_bit (all_flags c) line ≡ flag_of c line
from_timers c line lt =
    has_bit-by c line (flag_of c line) false false false false (flag-timer c line lt) (clear_below (pulses.due_channels c.pulses) 8 line lt) (clear_below (captures.waiting_channels c.captures) 16 line (omega arith)) (converters_below c line (omega arith)) (serials_below c line (omega arith))
    ∙ (or_false (flag_of c line || false) ∙ or_false (flag_of c line))

from_pulses : (c : Chip) (line : ℕ) → 8 ≤ line → line < 16 → has_bit (all_flags c) line ≡ flag_of c line
from_pulses c line least lt =
    has_bit-by c line false (flag_of c line) false false false (timers_clear c line least) (flag-pulse c line least lt) (clear_below (captures.waiting_channels c.captures) 16 line lt) (converters_below c line (omega arith)) (serials_below c line (omega arith))
    ∙ or_false (flag_of c line)

from_captures : (c : Chip) (line : ℕ) → 16 ≤ line → line < 24 → has_bit (all_flags c) line ≡ flag_of c line
from_captures c line least lt =
    has_bit-by c line false false (flag_of c line) false false (timers_clear c line (omega arith)) (pulses_clear c line least) (flag-capture c line least lt) (converters_below c line lt) (serials_below c line (omega arith))
    ∙ or_false (flag_of c line)

from_converters : (c : Chip) (line : ℕ) → 24 ≤ line → line < 26 → has_bit (all_flags c) line ≡ flag_of c line
from_converters c line least lt =
    has_bit-by c line false false false (flag_of c line) false (timers_clear c line (omega arith)) (pulses_clear c line (omega arith)) (captures_clear c line least) (flag-converter c line least lt) (serials_below c line lt)
    ∙ or_false (flag_of c line)

from_serials : (c : Chip) (line : ℕ) → 26 ≤ line → line < 28 → has_bit (all_flags c) line ≡ flag_of c line
from_serials c line least lt =
    has_bit-by c line false false false false (flag_of c line) (timers_clear c line (omega arith)) (pulses_clear c line (omega arith)) (captures_clear c line (omega arith)) (converters_clear c line least lt) (flag-serial c line least lt)

from_triggers : (c : Chip) (line : ℕ) → 28 ≤ line → has_bit (all_flags c) line ≡ flag_of c line
from_triggers c line least =
    has_bit-by c line false false false (flag_of c line) false (timers_clear c line (omega arith)) (pulses_clear c line (omega arith)) (captures_clear c line (omega arith)) (flag-trigger c line least) (serials_above c line least)
    ∙ or_false (flag_of c line)

pub has_bit-all_flags : (c : Chip) (line : ℕ) → has_bit (all_flags c) line ≡ flag_of c line
has_bit-all_flags c line = elim (below_or_since 8 line) [
  | inl lt ↦ from_timers c line lt
  | inr s8 ↦ elim (below_or_since 16 line) [
    | inl lt ↦ from_pulses c line s8 lt
    | inr s16 ↦ elim (below_or_since 24 line) [
      | inl lt ↦ from_captures c line s16 lt
      | inr s24 ↦ elim (below_or_since 26 line) [
        | inl lt ↦ from_converters c line s24 lt
        | inr s26 ↦ elim (below_or_since 28 line) [
          | inl lt ↦ from_serials c line s26 lt
          | inr s28 ↦ from_triggers c line s28
        ]
      ]
    ]
  ]
]

pub pending_bits : (c : Chip) (line : ℕ) → has_bit (bit_and (all_flags c) c.control.enabled) line ≡ is_pending c line
pending_bits c line = has_bit-and (all_flags c) c.control.enabled line ∙ ap (λ q. q && has_bit c.control.enabled line) (has_bit-all_flags c line)
