-- What has to agree wherever the mask is open, and with no frame under way, does where each aspect of it does.
use Rattle.std.proofs.Common.{List, refl}
use Rattle.std.specs.List.{list_any}
use Rattle.chip_model.specs.Chip.{Chip}
use Rattle.run_model.specs.Frame.{Origin}
use Rattle.run_model.specs.World.{World}
use Rattle.spi_machine.specs.State.{SpiState}
use Rattle.spi_machine.specs.declared.table.SpiTable.{SpiTable}
use Rattle.audit_machines.specs.System.{SystemState, Tables}
use Rattle.audit_subject.specs.Hosting.{every}
use Rattle.audit_subject.specs.Product.{first_origins}
use Rattle.audit_whole.specs.Aspects.{agrees}
use Rattle.audit_whole.specs.Whole.{AnyCall, host_setting, keeps_pins_busy}
use Rattle.audit_whole.specs.declared.aspects.Aspect.TheVariants.{Outputs, Pins, Ram, Stamps, Results, Arrays}
use Rattle.audit_whole.specs.laws.Joins.{open_to, rest_to}

module _ (t : Tables SpiTable) (chip : Chip) (w : World) (s : SystemState SpiState) where
  pub opens : (os : List (Origin AnyCall)) → agrees Outputs t chip w s → agrees Pins t chip w s → agrees Arrays t chip w s → (host_setting t).unmasked chip w s (first_origins every os)
  opens os outputs pins arrays = open_to t chip w s os (list_any keeps_pins_busy os) refl (record { outputs = outputs; pins = λ free. pins refl }) arrays

  pub rests : agrees Ram t chip w s → agrees Pins t chip w s → agrees Stamps t chip w s → agrees Results t chip w s → agrees Arrays t chip w s → (host_setting t).rest chip w s
  rests ram pins stamps results arrays = rest_to t chip w s (record { ram = ram; pins = (pins refl).0; stamps = stamps; results = results; arrays = arrays })
