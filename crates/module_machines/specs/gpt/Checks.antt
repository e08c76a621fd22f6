-- The services, what their arguments have to be, and which error a call has.
use Rattle.std.specs.Prelude.{ℕ, ◌==◌, nat_lt, Bool, true, false, ◌&&◌, not, List, [], ◌∷◌, Option, Some, None, is_some}
use Rattle.mcal_base.specs.declared.answer.Answer.{Answer}
use Rattle.mcal_base.specs.declared.error_name.ErrorName.{ErrorName}
use Rattle.mcal_base.specs.declared.service.Service.{Service}
use Rattle.mcal_base.specs.declared.service.Service.TheVariants as services
use Rattle.mcal_base.specs.det_errors.Rows.{first_error}
use Rattle.run_model.specs.Machine.{no_answer, number}
use Rattle.module_machines.specs.declared.gpt.call.Call as calls
use Rattle.module_machines.specs.declared.gpt.call.Call.TheVariants.{Init, DeInit, SetMode, Channel}
use Rattle.module_machines.specs.declared.gpt.call.ChannelCall.{ChannelCall}
use Rattle.module_machines.specs.declared.gpt.call.ChannelCall.TheVariants.{GetTimeElapsed, GetTimeRemaining, StartTimer, StopTimer, Change}
use Rattle.module_machines.specs.declared.gpt.call.Change.TheVariants.{Notification, Wakeup, Check}
use Rattle.module_machines.specs.declared.gpt.table.Channel as configured
use Rattle.module_machines.specs.declared.gpt.table.GptTable.{GptTable}
use Rattle.module_machines.specs.gpt.Table.{channel_of}

-- the service of a call
abbrev pub channel_service : ChannelCall → Service
channel_service GetTimeElapsed = services.GptGetTimeElapsed
channel_service GetTimeRemaining = services.GptGetTimeRemaining
channel_service (StartTimer v) = services.GptStartTimer
channel_service StopTimer = services.GptStopTimer
channel_service (Change (Notification true)) = services.GptEnableNotification
channel_service (Change (Notification false)) = services.GptDisableNotification
channel_service (Change (Wakeup true)) = services.GptEnableWakeup
channel_service (Change (Wakeup false)) = services.GptDisableWakeup
channel_service (Change Check) = services.GptCheckWakeup

abbrev pub service_of : calls.Call → Service
service_of Init = services.GptInit
service_of DeInit = services.GptDeInit
service_of (SetMode m) = services.GptSetMode
service_of (Channel c call) = channel_service call

abbrev pub has_notification : Option configured.Channel → Bool
has_notification None = false
has_notification (Some k) = k.notification

abbrev pub has_wakeup : Option configured.Channel → Bool
has_wakeup None = false
has_wakeup (Some k) = k.wakeup

-- a call may name the channel: it is configured, with what is to be switched; any source's wakeup may be checked
abbrev pub allows : ChannelCall → Option configured.Channel → Bool
allows (Change (Notification on)) k = has_notification k
allows (Change (Wakeup on)) k = has_wakeup k
allows (Change Check) k = true
allows _ k = is_some k

abbrev pub has_value : ℕ → Option configured.Channel → Bool
has_value v None = false
has_value v (Some k) = not (v == 0) && not (nat_lt k.tick_value_max v)

-- the channel may be started with the call's value, where it has one
abbrev pub takes : ChannelCall → Option configured.Channel → Bool
takes (StartTimer v) k = has_value v k
takes _ k = true

-- whether the errors of a service hold, in their order: the module is uninitialised, it sleeps, a channel is busy
abbrev pub facts_by : GptTable → calls.Call → (uninit asleep busy : Bool) → List Bool
facts_by d Init u a b = not u ∷ false ∷ false ∷ false ∷ false ∷ false ∷ []
facts_by d DeInit u a b = u ∷ b ∷ false ∷ false ∷ false ∷ false ∷ []
facts_by d (SetMode m) u a b = u ∷ not (is_some m) ∷ false ∷ false ∷ false ∷ false ∷ []
facts_by d (Channel c call) u a b = u ∷ not (allows call (channel_of d c)) ∷ not (takes call (channel_of d c)) ∷ a ∷ b ∷ false ∷ []

-- the first error of a call that holds
abbrev pub error_by : GptTable → calls.Call → (uninit asleep busy : Bool) → Option ErrorName
error_by d call u a b = first_error (service_of call) (facts_by d call u a b)

-- the answer of a call with an error
abbrev pub answer_refused : calls.Call → Answer
answer_refused (Channel c GetTimeElapsed) = number 0
answer_refused (Channel c GetTimeRemaining) = number 0
answer_refused _ = no_answer
