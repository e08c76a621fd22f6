-- The pin block: directions, latches and modes of 64 pins, and a pin's level.
use Rattle.std.specs.Prelude.{ℕ, ◌*◌, ◌/◌, ◌%◌, ◌^◌, Bool, true, false, if◌then◌else◌, Option, Some, None, unwrap_or, List, [], ◌∷◌, replicate, slice_get, slice_index, slice_index_or, slice_set, bit_and, bit_or}
use Rattle.mcal_base.specs.Bits.{has_bit, without}
use Rattle.mcal_base.specs.declared.register.Reg.{Reg}
use Rattle.mcal_base.specs.declared.register.Reg.TheVariants.{PinDirectionSet, PinDirectionClear, PinOutSet, PinOutClear, PinMode, PortPut}
use Rattle.mcal_base.specs.declared.config.port.PortPinMode.{PortPinMode}
use Rattle.mcal_base.specs.declared.config.port.PortPinMode.TheVariants.{Adc, Dio, Icu, Pwm, Spi}

-- The directions and the latches in two halves, whose bit k is that of pin k and of pin 32 + k, and the
-- modes by pin. A pin is out where its direction is 1.
pub record Pins : Type 0 where
  pub out : List ℕ
  pub latches : List ℕ
  pub modes : List PortPinMode

-- as after a reset: all pins in, their latches low
unfoldable pub fresh : Pins
fresh = record { out = 0 ∷ 0 ∷ []; latches = 0 ∷ 0 ∷ []; modes = replicate 64 Adc }

-- ---- one pin

-- a pin's bit in the two halves
abbrev pub bit_at : List ℕ → ℕ → Bool
bit_at halves p = has_bit (slice_index halves (p / 32)) (p % 32)

abbrev pub is_out : Pins → ℕ → Bool
is_out b p = bit_at b.out p

abbrev pub latch : Pins → ℕ → Bool
latch b p = bit_at b.latches p

abbrev pub mode : Pins → ℕ → PortPinMode
mode b p = slice_index_or b.modes p Adc

-- the mode is that of the pulse outputs
abbrev pub is_pulse : PortPinMode → Bool
is_pulse Pwm = true
is_pulse _ = false

-- a pin's level: the outside level where it is in; where it is out, in the mode of the pulse outputs, and a
-- pulse channel names it, that channel's output; else its latch
abbrev pub level : Pins → ℕ → (outside : Bool) (pulse : Option Bool) → Bool
level b p outside pulse =
    if is_out b p
    then (if is_pulse (mode b p) then unwrap_or pulse (latch b p) else latch b p)
    else outside

-- ---- the block

-- the mode that a number names
abbrev pub mode_named : ℕ → Option PortPinMode
mode_named number = slice_get (Adc ∷ Dio ∷ Icu ∷ Pwm ∷ Spi ∷ []) number

-- ones set bits of a half, and ones clear them
abbrev pub ones_set : List ℕ → (half bits : ℕ) → List ℕ
ones_set halves half bits = slice_set halves half (bit_or (slice_index halves half) bits)

abbrev pub ones_clear : List ℕ → (half bits : ℕ) → List ℕ
ones_clear halves half bits = slice_set halves half (without (slice_index halves half) bits)

-- a pin's mode becomes this one; a number that names none is ignored
abbrev pub with_mode : List PortPinMode → ℕ → Option PortPinMode → List PortPinMode
with_mode modes p (Some m) = slice_set modes p m
with_mode modes p None = modes

-- the latch of a pin that is out becomes the other level
abbrev pub inverted : List ℕ → (p : ℕ) → List ℕ
inverted latches p =
    if bit_at latches p
    then ones_clear latches (p / 32) (2 ^ (p % 32))
    else ones_set latches (p / 32) (2 ^ (p % 32))

abbrev pub flip : Pins → ℕ → Pins
flip b p = if is_out b p then record b { latches = inverted b.latches p } else b

-- ---- ports: port q has the pins 8q to 8q + 7, the first one in bit 0

-- eight bits of a port, at the places of its pins in their half
abbrev pub at_port : (q bits : ℕ) → ℕ
at_port q bits = bits % 256 * 2 ^ (8 * (q % 4))

-- those of a port's pins that are out and whose bit of the mask is one, as bits of their half
abbrev pub chosen : Pins → (q mask : ℕ) → ℕ
chosen b q mask = bit_and (at_port q mask) (slice_index b.out (q / 4))

-- the latches of pins of a half become their bits of the levels
abbrev pub replaced : List ℕ → (half chosen levels : ℕ) → List ℕ
replaced latches half chosen levels = ones_set (ones_clear latches half chosen) half (bit_and chosen levels)

-- a word of 256 * mask + levels is put to a port
abbrev pub put : Pins → (q word : ℕ) → Pins
put b q word = record b { latches = replaced b.latches (q / 4) (chosen b q (word / 256)) (at_port q word) }

-- ---- writes

-- what a write leaves; a register without a stated write ignores it
abbrev pub after_write : Pins → Reg → ℕ → Pins
after_write b (PinDirectionSet half) value = record b { out = ones_set b.out half value }
after_write b (PinDirectionClear half) value = record b { out = ones_clear b.out half value }
after_write b (PinOutSet half) value = record b { latches = ones_set b.latches half value }
after_write b (PinOutClear half) value = record b { latches = ones_clear b.latches half value }
after_write b (PinMode p) value = record b { modes = with_mode b.modes p (mode_named value) }
after_write b (PortPut q) value = put b q value
after_write b _ value = b
