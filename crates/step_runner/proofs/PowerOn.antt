-- The chip that the bus is made as is one as at power on, with any number of devices.
use Rattle.std.proofs.Common.{◌≡◌, ℕ, zero, suc, [], refl}
use Rattle.chip_model.specs.Chip.{power_on, hung, incoming_at}
use Rattle.mcal_base.specs.Layout.{WithinLimits}
use Rattle.mcal_base.specs.declared.config.whole.Config.{Config}
use Rattle.run_model.proofs.OutsideLaws.{stands-start}
use Rattle.step_runner.specs.Stands.{IsFirst}

none-waits : (config : Config) (room devices u : ℕ) → (incoming_at (hung devices (power_on config room)) u).waiting ≡ []
none-waits config room devices zero = refl
none-waits config room devices (suc zero) = refl
none-waits config room devices (suc (suc u)) = refl

pub first-power_on : (config : Config) (room devices : ℕ) → WithinLimits config → IsFirst (hung devices (power_on config room))
first-power_on config room devices within = record { outside = stands-start config room devices within; waits = none-waits config room devices; is_reset = refl }
