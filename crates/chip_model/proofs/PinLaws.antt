-- The level of a pin, and the flags of the lines.
use Rattle.std.proofs.Common.{◌≡◌, ℕ, ◌-◌, ◌<◌, ◌≤◌, true, false, ◌&&◌, refl, arith}
use Rattle.std.specs.Prelude.{Some, None, Bool, if◌then◌else◌}
use Rattle.mcal_base.specs.facts.Numbers.{lt_from, lt_since}
use Rattle.mcal_base.specs.Bits.{has_bit}
use Rattle.chip_blocks.specs.timers.Timers as timers
use Rattle.chip_blocks.specs.pulses.Pulses as pulses
use Rattle.chip_blocks.specs.captures.Captures as captures
use Rattle.chip_blocks.specs.converter.Converters as converters
use Rattle.chip_blocks.specs.converter.Rounds as rounds
use Rattle.chip_blocks.specs.units.Serials as serials
use Rattle.chip_blocks.specs.units.Pins as pins
use Rattle.chip_model.specs.Chip.{Chip, outside_at, channel_from, is_pending, pin_of}

pub pin-outside : (c : Chip) (p : ℕ) → pins.is_out c.pins p ≡ false → pin_of c p ≡ outside_at c p
pin-outside c p e = rw e refl

pub pin-pulse : (c : Chip) (p channel : ℕ) → pins.is_out c.pins p ≡ true → pins.is_pulse (pins.mode c.pins p) ≡ true
    → channel_from 0 c.wiring.outputs p ≡ Some channel → pin_of c p ≡ pulses.level_at c.pulses channel
pin-pulse c p channel out mode named = rw (out, mode, named) refl

same_either : (b v : Bool) → (if b then v else v) ≡ v
same_either true v = refl
same_either false v = refl

pub pin-unnamed : (c : Chip) (p : ℕ) → pins.is_out c.pins p ≡ true → channel_from 0 c.wiring.outputs p ≡ None → pin_of c p ≡ pins.latch c.pins p
pin-unnamed c p out named = rw (out, named) (same_either (pins.is_pulse (pins.mode c.pins p)) (pins.latch c.pins p))

pub pin-other_mode : (c : Chip) (p : ℕ) → pins.is_out c.pins p ≡ true → pins.is_pulse (pins.mode c.pins p) ≡ false → pin_of c p ≡ pins.latch c.pins p
pin-other_mode c p out mode = rw (out, mode) refl

-- ---- lines

pub line-timer : (c : Chip) (line : ℕ) → line < 8
    → is_pending c line ≡ (timers.is_flagged (timers.timer_at c.timers line) c.timers.time && has_bit c.control.enabled line)
line-timer c line lt = rw (lt_from line 8 lt) refl

pub line-pulse : (c : Chip) (line : ℕ) → 8 ≤ line → line < 16
    → is_pending c line ≡ (pulses.is_due c.pulses (line - 8) && has_bit c.control.enabled line)
line-pulse c line le lt = rw (lt_since line 8 le, lt_from line 16 lt) refl

pub line-capture : (c : Chip) (line : ℕ) → 16 ≤ line → line < 24
    → is_pending c line ≡ (captures.is_waiting (captures.capture_at c.captures (line - 16)) && has_bit c.control.enabled line)
line-capture c line le lt = rw (lt_since line 8 (omega (arith, le)), lt_since line 16 le, lt_from line 24 lt) refl

pub line-converter : (c : Chip) (line : ℕ) → 24 ≤ line → line < 26
    → is_pending c line ≡ (rounds.is_finished (converters.unit_at c.converters (line - 24)).round c.converters.time && has_bit c.control.enabled line)
line-converter c line le lt = rw (lt_since line 8 (omega (arith, le)), lt_since line 16 (omega (arith, le)), lt_since line 24 le, lt_from line 26 lt) refl

pub line-serial : (c : Chip) (line : ℕ) → 26 ≤ line → line < 28
    → is_pending c line ≡ (serials.is_done (serials.unit_at c.serials (line - 26)) c.serials.time && has_bit c.control.enabled line)
line-serial c line le lt =
    rw (lt_since line 8 (omega (arith, le)), lt_since line 16 (omega (arith, le)), lt_since line 24 (omega (arith, le)), lt_since line 26 le, lt_from line 28 lt) refl

pub line-trigger : (c : Chip) (line : ℕ) → 28 ≤ line
    → is_pending c line ≡ (has_bit c.converters.pulses (line - 28) && has_bit c.control.enabled line)
line-trigger c line le =
    rw (lt_since line 8 (omega (arith, le)), lt_since line 16 (omega (arith, le)), lt_since line 24 (omega (arith, le)), lt_since line 26 (omega (arith, le)), lt_since line 28 le) refl
