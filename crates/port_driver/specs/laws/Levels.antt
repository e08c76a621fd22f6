-- Where the pins are the machine's, so are their levels.
-- Used by mcal_drivers: proofs/Levels.
use Rattle.std.proofs.Common.{◌≡◌, ◌<◌, if◌then◌else◌}
use Rattle.port_driver.specs.Terms
use Terms.{Adc, Bool, Dio, Icu, is_pulse, level_at, Option, pin_at, PinsAgree, PortPinMode, PortState, Pwm, refl, Spi}
use Terms.{World, ℕ}
use Rattle.chip_blocks.specs.units.Pins as pins

same_pulse : (m : PortPinMode) → pins.is_pulse m ≡ is_pulse m
same_pulse Adc = refl
same_pulse Dio = refl
same_pulse Icu = refl
same_pulse Pwm = refl
same_pulse Spi = refl

-- with the outside level that the world has, and the same pulse output
pub level_stands : (b : pins.Pins) (w : World) (s : PortState) (p : ℕ) (outside : Bool) (pulse : Option Bool) → PinsAgree b s → p < 64 → outside ≡ w.levels p → pins.level b p outside pulse ≡ level_at w s p pulse
level_stands b w s p outside pulse h lt e =
    let pin = h p lt in
    rw (pin.direction, pin.mode, pin.latch, e, same_pulse (pin_at s p).mode) refl
