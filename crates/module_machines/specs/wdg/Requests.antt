-- The calls that the requests of a script ask for.
use Rattle.std.specs.Prelude.{ℕ, Bool, true, false, Option, Some, None, slice_get}
use Rattle.mcal_base.specs.Names.{module_of}
use Rattle.mcal_base.specs.declared.module_name.ModuleName.{ModuleName}
use Rattle.mcal_base.specs.declared.module_name.ModuleName.TheVariants.{Wdg}
use Rattle.mcal_base.specs.declared.argument_name.ArgumentName.TheVariants.{WdgifOffMode, WdgifSlowMode, WdgifFastMode}
use Rattle.mcal_base.specs.declared.config.wdg.WdgMode.{WdgMode}
use Rattle.mcal_base.specs.declared.config.wdg.WdgMode.TheVariants.{Off, Slow, Fast}
use Rattle.mcal_base.specs.declared.directive.Argument.{Argument}
use Rattle.mcal_base.specs.declared.directive.Argument.TheVariants.{Number, Name}
use Rattle.mcal_base.specs.declared.directive.Request.{Request}
use Rattle.mcal_base.specs.declared.service.Service.{Service}
use Rattle.mcal_base.specs.declared.service.Service.TheVariants as services
use Rattle.module_machines.specs.declared.wdg.call.Call.{Call}
use Rattle.module_machines.specs.declared.wdg.call.Call.TheVariants.{Init, SetMode, SetTriggerCondition}

-- a number that is asked with, 0 where there is none
abbrev pub number_of : Option Argument → ℕ
number_of (Some (Number n)) = n
number_of _ = 0

-- a mode that is asked for, none where it is none of the three
abbrev pub mode_of : Option Argument → Option WdgMode
mode_of (Some (Name WdgifOffMode)) = Some Off
mode_of (Some (Name WdgifSlowMode)) = Some Slow
mode_of (Some (Name WdgifFastMode)) = Some Fast
mode_of _ = None

-- the call of a service of the module with its argument; that of another module asks for none, and what stands here for it is never asked for
abbrev pub call_by : Service → (first : Option Argument) → Call
call_by services.WdgSetMode a = SetMode (mode_of a)
call_by services.WdgSetTriggerCondition a = SetTriggerCondition (number_of a)
call_by _ a = Init

abbrev pub call_of : Request → Call
call_of r = call_by r.service (slice_get r.arguments 0)

abbrev pub is_wdg : ModuleName → Bool
is_wdg Wdg = true
is_wdg _ = false

-- the services that requests may ask for
abbrev pub has_service : Service → Bool
has_service s = is_wdg (module_of s)
