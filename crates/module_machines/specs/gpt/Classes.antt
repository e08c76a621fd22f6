-- Which calls may begin over which.
use Rattle.std.specs.Prelude.{Some, None}
use Rattle.mcal_base.specs.declared.module_name.ModuleName.TheVariants.{Gpt}
use Rattle.run_model.specs.declared.class.Class.{Class}
use Rattle.run_model.specs.declared.class.KeyKind.TheVariants as keys
use Rattle.run_model.specs.declared.class.Kind.TheVariants.{Exclusive, Keyed}
use Rattle.module_machines.specs.declared.gpt.call.Call.{Call}
use Rattle.module_machines.specs.declared.gpt.call.Call.TheVariants.{Channel}

-- the class of a call: one about a channel has that channel as its key; any other begins only where no frame of the module is under way, and no call of the module begins over it
abbrev pub class_of : Call → Class
class_of (Channel c call) = record { kind = Keyed; «module» = Gpt; key = Some (record { kind = keys.Channel; number = c }) }
class_of _ = record { kind = Exclusive; «module» = Gpt; key = None }
