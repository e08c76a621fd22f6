-- Which calls may begin over which.
use Rattle.std.specs.Prelude.{Some, None}
use Rattle.mcal_base.specs.declared.module_name.ModuleName.TheVariants.{Icu}
use Rattle.run_model.specs.declared.class.Class.{Class}
use Rattle.run_model.specs.declared.class.KeyKind.TheVariants as keys
use Rattle.run_model.specs.declared.class.Kind.TheVariants.{Exclusive, Keyed}
use Rattle.module_machines.specs.declared.icu.call.Call.{Call}
use Rattle.module_machines.specs.declared.icu.call.Call.TheVariants.{Channel}

-- the class of a call: what is asked of a channel has that channel as its key, and any other begins over no frame of the module
abbrev pub class_of : Call → Class
class_of (Channel c call) = record { kind = Keyed; «module» = Icu; key = Some (record { kind = keys.Channel; number = c }) }
class_of _ = record { kind = Exclusive; «module» = Icu; key = None }
