-- The calls that the requests of a script ask for.
use Rattle.std.specs.Prelude.{ℕ, Bool, true, false, Option, Some, None, slice_get, unwrap_or}
use Rattle.mcal_base.specs.Names.{module_of}
use Rattle.mcal_base.specs.declared.module_name.ModuleName.{ModuleName}
use Rattle.mcal_base.specs.declared.module_name.ModuleName.TheVariants.{Mcu}
use Rattle.mcal_base.specs.declared.directive.Argument.{Argument}
use Rattle.mcal_base.specs.declared.directive.Argument.TheVariants.{Number}
use Rattle.mcal_base.specs.declared.directive.Request.{Request}
use Rattle.mcal_base.specs.declared.service.Service.{Service}
use Rattle.mcal_base.specs.declared.service.Service.TheVariants as services
use Rattle.module_machines.specs.declared.mcu.call.Call.{Call}
use Rattle.module_machines.specs.declared.mcu.call.Call.TheVariants.{Init, InitRamSection, Clock, GetPllStatus, GetResetReason, PerformReset, SetMode}
use Rattle.module_machines.specs.declared.mcu.call.ClockCall.TheVariants.{InitClock, DistributePllClock}

-- a number that is asked with, 0 where there is none
abbrev pub number_of : Option Argument → ℕ
number_of (Some (Number n)) = n
number_of _ = 0

-- the call of a service with its argument; a service of another module has none
abbrev pub call_by : Service → (first : Option Argument) → Option Call
call_by services.McuInit a = Some Init
call_by services.McuInitRamSection a = Some (InitRamSection (number_of a))
call_by services.McuInitClock a = Some (Clock (InitClock (number_of a)))
call_by services.McuDistributePllClock a = Some (Clock DistributePllClock)
call_by services.McuGetPllStatus a = Some GetPllStatus
call_by services.McuGetResetReason a = Some GetResetReason
call_by services.McuPerformReset a = Some PerformReset
call_by services.McuSetMode a = Some (SetMode (number_of a))
call_by _ a = None

-- the call that a request asks for
abbrev pub call_of : Request → Option Call
call_of r = call_by r.service (slice_get r.arguments 0)

-- the same, which no request of another module asks for
abbrev pub asked_for : Request → Call
asked_for r = unwrap_or (call_of r) Init

abbrev pub is_mcu : ModuleName → Bool
is_mcu Mcu = true
is_mcu _ = false

-- the services that requests may ask for
abbrev pub has_service : Service → Bool
has_service s = is_mcu (module_of s)
