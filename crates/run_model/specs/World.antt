-- The outside of the chip, as far as every machine is told of it. The words that wait to come in stand with the chip.
use Rattle.std.specs.Prelude.{ℕ, ◌+◌, ◌-◌, ◌*◌, ◌&&◌, ◌==◌, nat_lt, Bool, false, cond, List, [], ◌∷◌}
use Rattle.mcal_base.specs.declared.directive.Order.{Order}
use Rattle.mcal_base.specs.declared.directive.Order.TheVariants as orders

-- an analog input took a value at a time
pub record Sample : Type 0 where
  pub input : ℕ
  pub since : ℕ
  pub value : ℕ

pub record World : Type 0 where
  -- the ticks of the oscillator so far, and the peripheral time that they made
  pub osc : ℕ
  pub now : ℕ
  -- the outside level of each pin
  pub levels : ℕ → Bool
  -- what the analog inputs took, the newest first
  pub samples : List Sample
  -- the number of serial devices
  pub devices : ℕ

-- at power on, with so many devices
abbrev pub world_start : (devices : ℕ) → World
world_start devices = record { osc = 0; now = 0; levels = λ p. false; samples = []; devices = devices }

-- this value at this place, and the others as they were
abbrev pub with_at : {A : Type 0} → (ℕ → A) → ℕ → A → ℕ → A
with_at f at x k = cond (k == at) x (f k)

-- ticks advance the peripheral time by so many each
abbrev pub world_after : World → (rate : ℕ) → Order → World
world_after w rate (orders.Tick n) = record w { osc = w.osc + n; now = w.now + n * rate }
world_after w rate (orders.Level p v) = record w { levels = with_at w.levels p v }
world_after w rate (orders.Analog i v) = record w { samples = record { input = i; since = w.now; value = v } ∷ w.samples }
world_after w rate orders.Detach = record w { devices = w.devices - 1 }
world_after w rate _ = w

-- what an analog input took last, and 0 where it took none
abbrev pub last_sample : List Sample → (input : ℕ) → ℕ
last_sample [] input = 0
last_sample (x ∷ xs) input = cond (x.input == input) x.value (last_sample xs input)

-- the value of an analog input at a time: what it took last before it, and 0 where it took none
abbrev pub sample_at : List Sample → (input time : ℕ) → ℕ
sample_at [] input time = 0
sample_at (x ∷ xs) input time = cond (x.input == input && nat_lt x.since time) x.value (sample_at xs input time)
