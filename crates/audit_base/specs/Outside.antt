-- How what the program keeps of the outside stands for a world.
use Rattle.std.specs.Prelude.{◌≡◌, ℕ, ◌+◌, ◌*◌, ◌<◌, ◌≤◌, ◌^◌, false, List, slice_index_or}
use Rattle.mcal_base.specs.declared.directive.Order.{Order}
use Rattle.mcal_base.specs.declared.directive.Order.TheVariants.{Tick, Level, Analog, Trigger, SpiFault, Fill}
use Rattle.run_model.specs.World.{World}
use Rattle.audit_base.specs.Inputs.{Took}
use Rattle.audit_base.specs.declared.outside.Outside as kept

-- it stands for a world, whose number of devices no machine asks for
pub record IsWorld (o : kept.Outside) (w : World) : Type 0 where
  pub osc : w.osc ≡ o.osc
  pub now : w.now ≡ o.time
  pub levels : (p : ℕ) → p < 64 → w.levels p ≡ slice_index_or o.levels p false
  pub samples : Took o.samples w.samples

-- times stay in range
abbrev pub CanMove : kept.Outside → Order → (rate : ℕ) → Type 0
CanMove o (Tick n) rate = (o.osc + n < 2 ^ 63) × (o.time + n * rate < 2 ^ 64)
CanMove o _ rate = Unit {0}

-- a pin, an input, a unit or a channel that is named is there
abbrev pub IsThere : Order → Type 0
IsThere (Level pin high) = pin < 64
IsThere (Analog input value) = input < 32
IsThere (Trigger input) = input < 4
IsThere (SpiFault unit) = unit < 2
IsThere (Fill channel words) = channel < 16
IsThere _ = Unit {0}

-- the times of the second aren't earlier, and the machines were told more
pub record IsAfter (o p : kept.Outside) : Type 0 where
  pub osc : o.osc ≤ p.osc
  pub time : o.time ≤ p.time
  pub told : o.told < p.told

-- the times by channel, as a function and as a list; none is after now
abbrev pub AreTimes : List ℕ → (ℕ → ℕ) → Type 0
AreTimes times committed = (c : ℕ) → c < 8 → committed c ≡ slice_index_or times c 0

abbrev pub ArePast : List ℕ → (now : ℕ) → Type 0
ArePast times now = (c : ℕ) → c < 8 → slice_index_or times c 0 ≤ now
