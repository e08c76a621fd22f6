-- Which calls may begin over which.
use Rattle.std.specs.Prelude.{None}
use Rattle.mcal_base.specs.declared.module_name.ModuleName.TheVariants.{Wdg}
use Rattle.run_model.specs.declared.class.Class.{Class}
use Rattle.run_model.specs.declared.class.Kind.TheVariants.{Exclusive}
use Rattle.module_machines.specs.declared.wdg.call.Call.{Call}

-- the class of a call: each is alone in its module
abbrev pub class_of : Call → Class
class_of call = record { kind = Exclusive; «module» = Wdg; key = None }
