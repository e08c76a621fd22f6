-- The services, which error a call has, how it is reported, and the class of calls.
use Rattle.std.specs.Prelude.{true, false, List, Bool, [], ◌∷◌, Option}
use Rattle.mcal_base.specs.declared.answer.Answer.{Answer}
use Rattle.mcal_base.specs.declared.answer_name.AnswerName.TheVariants.{StdLow}
use Rattle.mcal_base.specs.declared.error_name.ErrorName.{ErrorName}
use Rattle.mcal_base.specs.declared.module_name.ModuleName.TheVariants.{Port}
use Rattle.mcal_base.specs.declared.service.Service.{Service}
use Rattle.mcal_base.specs.declared.service.Service.TheVariants as services
use Rattle.mcal_base.specs.det_errors.Reports.{Reporting}
use Rattle.mcal_base.specs.det_errors.Rows.{first_error}
use Rattle.run_model.specs.declared.class.Class.{Class}
use Rattle.run_model.specs.Machine.{no_answer, named, number}
use Rattle.run_model.specs.Causes.{guarded}
use Rattle.module_machines.specs.declared.dio.call.Call.{Call}
use Rattle.module_machines.specs.declared.dio.call.Call.TheVariants.{ReadChannel, WriteChannel, FlipChannel, ReadPort, WritePort, ReadChannelGroup, WriteChannelGroup}
use Rattle.module_machines.specs.declared.dio.table.DioTable.{DioTable}

-- the service of a call
abbrev pub service_of : Call → Service
service_of (ReadChannel p) = services.DioReadChannel
service_of (WriteChannel p high) = services.DioWriteChannel
service_of (FlipChannel p) = services.DioFlipChannel
service_of (ReadPort q) = services.DioReadPort
service_of (WritePort q value) = services.DioWritePort
service_of (ReadChannelGroup g) = services.DioReadChannelGroup
service_of (WriteChannelGroup g value) = services.DioWriteChannelGroup

-- the class of each call: a guarded one of the pins' module
abbrev pub class : Class
class = guarded Port

-- the one error of each service holds: its channel, port or group isn't configured
abbrev pub unknown : List Bool
unknown = true ∷ false ∷ false ∷ false ∷ false ∷ false ∷ []

abbrev pub error_of : Call → Option ErrorName
error_of call = first_error (service_of call) unknown

-- the answer of a call with an error
abbrev pub answer_refused : Call → Answer
answer_refused (ReadChannel p) = named StdLow
answer_refused (FlipChannel p) = named StdLow
answer_refused (ReadPort q) = number 0
answer_refused (ReadChannelGroup g) = number 0
answer_refused _ = no_answer

-- how errors are reported: the module has no runtime errors
abbrev pub reporting : DioTable → Reporting
reporting d = record { detect = d.detect; classification = 1 }
