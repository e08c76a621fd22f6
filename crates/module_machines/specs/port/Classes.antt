-- Which calls may begin over which.
use Rattle.std.specs.Prelude.{Some, None}
use Rattle.mcal_base.specs.declared.module_name.ModuleName.TheVariants.{Port}
use Rattle.run_model.specs.declared.class.Class.{Class}
use Rattle.run_model.specs.declared.class.KeyKind.TheVariants as keys
use Rattle.run_model.specs.declared.class.Kind.TheVariants.{Exclusive, Keyed}
use Rattle.module_machines.specs.declared.port.call.Call.{Call}
use Rattle.module_machines.specs.declared.port.call.Call.TheVariants as calls

-- the class of a call: one about a pin has that pin as its key, and any other begins over no frame of the module
abbrev pub class_of : Call → Class
class_of (calls.Pin p call) = record { kind = Keyed; «module» = Port; key = Some (record { kind = keys.Pin; number = p }) }
class_of _ = record { kind = Exclusive; «module» = Port; key = None }
