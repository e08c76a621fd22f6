-- The calls that the requests of a script ask for.
use Rattle.std.specs.Prelude.{ℕ, Bool, true, false, Option, Some, slice_get}
use Rattle.mcal_base.specs.Names.{module_of}
use Rattle.mcal_base.specs.declared.argument_name.ArgumentName.TheVariants.{StdHigh}
use Rattle.mcal_base.specs.declared.directive.Argument.{Argument}
use Rattle.mcal_base.specs.declared.directive.Argument.TheVariants.{Number, Name}
use Rattle.mcal_base.specs.declared.directive.Request.{Request}
use Rattle.mcal_base.specs.declared.module_name.ModuleName.{ModuleName}
use Rattle.mcal_base.specs.declared.module_name.ModuleName.TheVariants.{Dio}
use Rattle.mcal_base.specs.declared.service.Service.{Service}
use Rattle.mcal_base.specs.declared.service.Service.TheVariants as services
use Rattle.module_machines.specs.declared.dio.call.Call.{Call}
use Rattle.module_machines.specs.declared.dio.call.Call.TheVariants.{ReadChannel, WriteChannel, FlipChannel, ReadPort, WritePort, ReadChannelGroup, WriteChannelGroup}

-- a number that is asked with, 0 where there is none
abbrev pub number_of : Option Argument → ℕ
number_of (Some (Number n)) = n
number_of _ = 0

-- a level that is asked for is high
abbrev pub is_high : Option Argument → Bool
is_high (Some (Name StdHigh)) = true
is_high _ = false

-- the call of a service of the module with its arguments; that of another module asks for none, and what stands here for it is never asked for
abbrev pub call_by : Service → (first second : Option Argument) → Call
call_by services.DioWriteChannel a b = WriteChannel (number_of a) (is_high b)
call_by services.DioFlipChannel a b = FlipChannel (number_of a)
call_by services.DioReadPort a b = ReadPort (number_of a)
call_by services.DioWritePort a b = WritePort (number_of a) (number_of b)
call_by services.DioReadChannelGroup a b = ReadChannelGroup (number_of a)
call_by services.DioWriteChannelGroup a b = WriteChannelGroup (number_of a) (number_of b)
call_by _ a b = ReadChannel (number_of a)

abbrev pub call_of : Request → Call
call_of r = call_by r.service (slice_get r.arguments 0) (slice_get r.arguments 1)

abbrev pub is_dio : ModuleName → Bool
is_dio Dio = true
is_dio _ = false

-- the services that requests may ask for
abbrev pub has_service : Service → Bool
has_service s = is_dio (module_of s)
