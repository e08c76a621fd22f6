-- What stands around the pins, and how channels, ports and groups see the pins by it.
use Rattle.std.specs.Prelude.{◌≡◌, ℕ, ◌+◌, ◌*◌, ◌<◌, Bool, false, Option, None, slice_index_or}
use Rattle.mcal_base.specs.Bits.{bits_of}
use Rattle.module_machines.specs.dio.Machine.{HostPins}
use Rattle.module_machines.specs.port.Machine.{PortState, Put, Inverted, level_at, level_of, untouched, with_change}
use Rattle.run_model.specs.World.{World}
use Rattle.audit_clock.specs.PinStands.{PinsKept}
use Rattle.audit_clock.specs.declared.around.Around.{Around}

-- The pins of the module alone, at which the outputs of pulse channels are seen so.
abbrev pub pins_seeing : (outputs : ℕ → Option Bool) → HostPins PortState
pins_seeing outputs = record {
  level = λ w s p. level_at w s p (outputs p);
  put = λ q word s. with_change s (Put q word);
  flip = λ p s. with_change s (Inverted p);
}

-- It is what stands around the pins in a world, where the outputs of pulse channels are seen so.
pub record IsAround (x : Around) (w : World) (seen : ℕ → Option Bool) : Type 0 where
  pub levels : (p : ℕ) → p < 64 → w.levels p ≡ slice_index_or x.levels p false
  pub outputs : (p : ℕ) → p < 64 → seen p ≡ slice_index_or x.outputs p None

-- the level of a pin that is kept
abbrev pub kept_level : PinsKept → Around → ℕ → Bool
kept_level kept x p = level_of (slice_index_or kept.pins p untouched) (slice_index_or x.levels p false) (slice_index_or x.outputs p None)

-- the levels of a port's eight pins that are kept, as a number, the first one in bit 0
abbrev pub kept_value : PinsKept → Around → (port : ℕ) → ℕ
kept_value kept x q = bits_of (λ k. kept_level kept x (8 * q + k)) 8
