-- The drivers of all modules fit each other, and the chip at power on is wired as they ask.
use Rattle.std.proofs.Common.{ℕ, refl}
use Rattle.chip_model.specs.Chip.{power_on, hung}
use Rattle.config_facts.specs.Valid.{IsValid}
use Rattle.mcal_base.specs.declared.config.whole.Config.{Config}
use Rattle.mcal_drivers.specs.Drivers.{as_one, system}
use Rattle.mcal_drivers.proofs.Hosting.{ports_fit, ports_hosted}
use Rattle.mcal_drivers.proofs.Joining.{host_ready}

pub system_fits : (c : Config) → IsValid c → (system c).fits
unfolding as_one
system_fits c v = ((host_ready c v 0).fits, ports_fit c v 0, ports_hosted c v 0)

pub system_wired : (c : Config) → IsValid c → (devices room : ℕ) → (system c).wired (hung devices (power_on c room))
unfolding as_one
system_wired c v devices room = ((host_ready c v devices).wired room, refl)
