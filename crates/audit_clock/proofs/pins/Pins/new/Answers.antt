use Rattle.std.proofs.Common.{refl, false}
use Rattle.audit_clock.specs.PinStands.{state_of}
use Rattle.mcal_base.specs.declared.config.port.PortPinDirection.TheVariants.{In}
use Rattle.mcal_base.specs.declared.config.port.PortPinMode.TheVariants.{Adc}
use Rattle.audit_clock.proofs.Places.{one_item}
use Rattle.audit_clock.proofs.pins.Pins.new.Goals as goal

pub returns-clause-is : goal.returns-clause-is
returns-clause-is c = record { initialised = refl; pins = λ p lt. one_item state_of 64 p (record { direction = In; mode = Adc; latch = false }) }
