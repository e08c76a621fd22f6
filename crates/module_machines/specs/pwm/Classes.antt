-- Which calls may begin over which.
use Rattle.std.specs.Prelude.{Some, None}
use Rattle.mcal_base.specs.declared.module_name.ModuleName.TheVariants.{Pwm}
use Rattle.run_model.specs.declared.class.Class.{Class}
use Rattle.run_model.specs.declared.class.KeyKind.TheVariants as keys
use Rattle.run_model.specs.declared.class.Kind.TheVariants.{Exclusive, Keyed, Query}
use Rattle.module_machines.specs.declared.pwm.call.Call.{Call}
use Rattle.module_machines.specs.declared.pwm.call.Call.TheVariants.{Init, DeInit, GetOutputState, Channel}

-- the class of a call: the state of an output may always be asked, and what is asked of a channel otherwise has that channel as its key
abbrev pub class_of : Call → Class
class_of Init = record { kind = Exclusive; «module» = Pwm; key = None }
class_of DeInit = record { kind = Exclusive; «module» = Pwm; key = None }
class_of (GetOutputState c) = record { kind = Query; «module» = Pwm; key = None }
class_of (Channel c call) = record { kind = Keyed; «module» = Pwm; key = Some (record { kind = keys.Channel; number = c }) }
