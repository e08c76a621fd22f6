-- Names of one number are the same name, so notices and reports are told apart.
use Rattle.std.proofs.Common.{◌≡◌, ℕ, Bool, true, false, List, [], ◌∷◌, refl, sym, ◌∙◌, ap}
use Rattle.std.specs.Prelude.{slice_index_or}
use Rattle.mcal_base.specs.declared.error_name.ErrorName.{ErrorName}
use Rattle.mcal_base.specs.declared.error_name.ErrorName.TheVariants as errors
use Rattle.mcal_base.specs.declared.moves.DevError.{DevError}
use Rattle.mcal_base.specs.declared.notice.Notice.{Notice}
use Rattle.mcal_base.specs.declared.notice.NoticeKind.{NoticeKind}
use Rattle.mcal_base.specs.declared.notice.NoticeKind.TheVariants as kinds
use Rattle.mcal_base.specs.declared.service.Service.{Service}
use Rattle.mcal_base.specs.declared.service.Service.TheVariants as services
use Rattle.mcal_base.specs.facts.Truths.{off_on, on_off}
use Rattle.audit_frames.specs.Decides.{Decides}
use Rattle.audit_frames.specs.Same.{kind_number, error_number, service_number, same_truth, same_notice, same_report}
use Rattle.audit_frames.proofs.Deciding.{both, equal, no, three, worded, yes}

all_kinds : List NoticeKind
all_kinds = kinds.GptNotification ∷ kinds.EcuMCheckWakeup ∷ kinds.EcuMSetWakeupEvent ∷ kinds.PwmNotification ∷ kinds.IcuSignalNotification ∷ kinds.IcuTimestampNotification ∷ kinds.AdcNotification ∷ kinds.SpiJobEndNotification ∷ kinds.SpiSeqEndNotification ∷ []

all_kinds-at : (x : NoticeKind) → slice_index_or all_kinds (kind_number x) kinds.GptNotification ≡ x
unfolding all_kinds
all_kinds-at kinds.GptNotification = refl
all_kinds-at kinds.EcuMCheckWakeup = refl
all_kinds-at kinds.EcuMSetWakeupEvent = refl
all_kinds-at kinds.PwmNotification = refl
all_kinds-at kinds.IcuSignalNotification = refl
all_kinds-at kinds.IcuTimestampNotification = refl
all_kinds-at kinds.AdcNotification = refl
all_kinds-at kinds.SpiJobEndNotification = refl
all_kinds-at kinds.SpiSeqEndNotification = refl

kind_number-is : (a b : NoticeKind) → kind_number a ≡ kind_number b → a ≡ b
kind_number-is a b e = sym (all_kinds-at a) ∙ (ap (λ n. slice_index_or all_kinds n kinds.GptNotification) e ∙ all_kinds-at b)

all_errors : List ErrorName
all_errors = errors.McuUninit ∷ errors.McuParamRamsection ∷ errors.McuParamClock ∷ errors.McuPllNotLocked ∷ errors.McuParamMode ∷ errors.PortUninit ∷ errors.PortParamPin ∷ errors.PortDirectionUnchangeable ∷ errors.PortParamInvalidMode ∷ errors.PortModeUnchangeable ∷ errors.GptAlreadyInitialized ∷ errors.GptUninit ∷ errors.GptBusy ∷ errors.GptParamChannel ∷ errors.GptParamValue ∷ errors.GptMode ∷ errors.GptParamMode ∷ errors.PwmAlreadyInitialized ∷ errors.PwmUninit ∷ errors.PwmParamChannel ∷ errors.PwmPeriodUnchangeable ∷ errors.IcuAlreadyInitialized ∷ errors.IcuUninit ∷ errors.IcuParamChannel ∷ errors.IcuParamActivation ∷ errors.IcuParamBufferSize ∷ errors.IcuParamNotifyInterval ∷ errors.IcuNotStarted ∷ errors.AdcAlreadyInitialized ∷ errors.AdcUninit ∷ errors.AdcBusy ∷ errors.AdcParamGroup ∷ errors.AdcParamPointer ∷ errors.AdcWrongTriggSrc ∷ errors.AdcBufferUninit ∷ errors.AdcIdle ∷ errors.AdcNotifCapability ∷ errors.SpiAlreadyInitialized ∷ errors.SpiUninit ∷ errors.SpiParamChannel ∷ errors.SpiParamLength ∷ errors.SpiParamSeq ∷ errors.SpiSeqPending ∷ errors.SpiParamJob ∷ errors.SpiParamUnit ∷ errors.SpiSeqInProcess ∷ errors.DioParamInvalidChannelId ∷ errors.DioParamInvalidPortId ∷ errors.DioParamInvalidGroup ∷ errors.WdgDriverState ∷ errors.WdgParamMode ∷ errors.WdgParamTimeout ∷ []

all_errors-at : (x : ErrorName) → slice_index_or all_errors (error_number x) errors.McuUninit ≡ x
unfolding all_errors
all_errors-at errors.McuUninit = refl
all_errors-at errors.McuParamRamsection = refl
all_errors-at errors.McuParamClock = refl
all_errors-at errors.McuPllNotLocked = refl
all_errors-at errors.McuParamMode = refl
all_errors-at errors.PortUninit = refl
all_errors-at errors.PortParamPin = refl
all_errors-at errors.PortDirectionUnchangeable = refl
all_errors-at errors.PortParamInvalidMode = refl
all_errors-at errors.PortModeUnchangeable = refl
all_errors-at errors.GptAlreadyInitialized = refl
all_errors-at errors.GptUninit = refl
all_errors-at errors.GptBusy = refl
all_errors-at errors.GptParamChannel = refl
all_errors-at errors.GptParamValue = refl
all_errors-at errors.GptMode = refl
all_errors-at errors.GptParamMode = refl
all_errors-at errors.PwmAlreadyInitialized = refl
all_errors-at errors.PwmUninit = refl
all_errors-at errors.PwmParamChannel = refl
all_errors-at errors.PwmPeriodUnchangeable = refl
all_errors-at errors.IcuAlreadyInitialized = refl
all_errors-at errors.IcuUninit = refl
all_errors-at errors.IcuParamChannel = refl
all_errors-at errors.IcuParamActivation = refl
all_errors-at errors.IcuParamBufferSize = refl
all_errors-at errors.IcuParamNotifyInterval = refl
all_errors-at errors.IcuNotStarted = refl
all_errors-at errors.AdcAlreadyInitialized = refl
all_errors-at errors.AdcUninit = refl
all_errors-at errors.AdcBusy = refl
all_errors-at errors.AdcParamGroup = refl
all_errors-at errors.AdcParamPointer = refl
all_errors-at errors.AdcWrongTriggSrc = refl
all_errors-at errors.AdcBufferUninit = refl
all_errors-at errors.AdcIdle = refl
all_errors-at errors.AdcNotifCapability = refl
all_errors-at errors.SpiAlreadyInitialized = refl
all_errors-at errors.SpiUninit = refl
all_errors-at errors.SpiParamChannel = refl
all_errors-at errors.SpiParamLength = refl
all_errors-at errors.SpiParamSeq = refl
all_errors-at errors.SpiSeqPending = refl
all_errors-at errors.SpiParamJob = refl
all_errors-at errors.SpiParamUnit = refl
all_errors-at errors.SpiSeqInProcess = refl
all_errors-at errors.DioParamInvalidChannelId = refl
all_errors-at errors.DioParamInvalidPortId = refl
all_errors-at errors.DioParamInvalidGroup = refl
all_errors-at errors.WdgDriverState = refl
all_errors-at errors.WdgParamMode = refl
all_errors-at errors.WdgParamTimeout = refl

error_number-is : (a b : ErrorName) → error_number a ≡ error_number b → a ≡ b
error_number-is a b e = sym (all_errors-at a) ∙ (ap (λ n. slice_index_or all_errors n errors.McuUninit) e ∙ all_errors-at b)

all_services : List Service
all_services = services.McuInit ∷ services.McuInitRamSection ∷ services.McuInitClock ∷ services.McuDistributePllClock ∷ services.McuGetPllStatus ∷ services.McuGetResetReason ∷ services.McuPerformReset ∷ services.McuSetMode ∷ services.PortInit ∷ services.PortSetPinDirection ∷ services.PortRefreshPortDirection ∷ services.PortSetPinMode ∷ services.GptInit ∷ services.GptDeInit ∷ services.GptGetTimeElapsed ∷ services.GptGetTimeRemaining ∷ services.GptStartTimer ∷ services.GptStopTimer ∷ services.GptEnableNotification ∷ services.GptDisableNotification ∷ services.GptSetMode ∷ services.GptEnableWakeup ∷ services.GptDisableWakeup ∷ services.GptCheckWakeup ∷ services.PwmInit ∷ services.PwmDeInit ∷ services.PwmSetDutyCycle ∷ services.PwmSetPeriodAndDuty ∷ services.PwmSetOutputToIdle ∷ services.PwmGetOutputState ∷ services.PwmEnableNotification ∷ services.PwmDisableNotification ∷ services.IcuInit ∷ services.IcuDeInit ∷ services.IcuSetActivationCondition ∷ services.IcuEnableNotification ∷ services.IcuDisableNotification ∷ services.IcuGetInputState ∷ services.IcuEnableEdgeDetection ∷ services.IcuDisableEdgeDetection ∷ services.IcuResetEdgeCount ∷ services.IcuEnableEdgeCount ∷ services.IcuDisableEdgeCount ∷ services.IcuGetEdgeNumbers ∷ services.IcuStartTimestamp ∷ services.IcuStopTimestamp ∷ services.IcuGetTimestampIndex ∷ services.IcuStartSignalMeasurement ∷ services.IcuStopSignalMeasurement ∷ services.IcuGetTimeElapsed ∷ services.IcuGetDutyCycleValues ∷ services.AdcInit ∷ services.AdcDeInit ∷ services.AdcSetupResultBuffer ∷ services.AdcStartGroupConversion ∷ services.AdcStopGroupConversion ∷ services.AdcReadGroup ∷ services.AdcEnableHardwareTrigger ∷ services.AdcDisableHardwareTrigger ∷ services.AdcEnableGroupNotification ∷ services.AdcDisableGroupNotification ∷ services.AdcGetGroupStatus ∷ services.AdcGetStreamLastPointer ∷ services.SpiInit ∷ services.SpiDeInit ∷ services.SpiWriteIb ∷ services.SpiReadIb ∷ services.SpiSetupEb ∷ services.SpiAsyncTransmit ∷ services.SpiCancel ∷ services.SpiGetStatus ∷ services.SpiGetJobResult ∷ services.SpiGetSequenceResult ∷ services.SpiGetHwUnitStatus ∷ services.SpiSetAsyncMode ∷ services.SpiMainFunctionHandling ∷ services.SpiSyncTransmit ∷ services.DioReadChannel ∷ services.DioFlipChannel ∷ services.DioWriteChannel ∷ services.DioReadPort ∷ services.DioWritePort ∷ services.DioReadChannelGroup ∷ services.DioWriteChannelGroup ∷ services.WdgInit ∷ services.WdgSetMode ∷ services.WdgSetTriggerCondition ∷ []

all_services-at : (x : Service) → slice_index_or all_services (service_number x) services.McuInit ≡ x
unfolding all_services
all_services-at services.McuInit = refl
all_services-at services.McuInitRamSection = refl
all_services-at services.McuInitClock = refl
all_services-at services.McuDistributePllClock = refl
all_services-at services.McuGetPllStatus = refl
all_services-at services.McuGetResetReason = refl
all_services-at services.McuPerformReset = refl
all_services-at services.McuSetMode = refl
all_services-at services.PortInit = refl
all_services-at services.PortSetPinDirection = refl
all_services-at services.PortRefreshPortDirection = refl
all_services-at services.PortSetPinMode = refl
all_services-at services.GptInit = refl
all_services-at services.GptDeInit = refl
all_services-at services.GptGetTimeElapsed = refl
all_services-at services.GptGetTimeRemaining = refl
all_services-at services.GptStartTimer = refl
all_services-at services.GptStopTimer = refl
all_services-at services.GptEnableNotification = refl
all_services-at services.GptDisableNotification = refl
all_services-at services.GptSetMode = refl
all_services-at services.GptEnableWakeup = refl
all_services-at services.GptDisableWakeup = refl
all_services-at services.GptCheckWakeup = refl
all_services-at services.PwmInit = refl
all_services-at services.PwmDeInit = refl
all_services-at services.PwmSetDutyCycle = refl
all_services-at services.PwmSetPeriodAndDuty = refl
all_services-at services.PwmSetOutputToIdle = refl
all_services-at services.PwmGetOutputState = refl
all_services-at services.PwmEnableNotification = refl
all_services-at services.PwmDisableNotification = refl
all_services-at services.IcuInit = refl
all_services-at services.IcuDeInit = refl
all_services-at services.IcuSetActivationCondition = refl
all_services-at services.IcuEnableNotification = refl
all_services-at services.IcuDisableNotification = refl
all_services-at services.IcuGetInputState = refl
all_services-at services.IcuEnableEdgeDetection = refl
all_services-at services.IcuDisableEdgeDetection = refl
all_services-at services.IcuResetEdgeCount = refl
all_services-at services.IcuEnableEdgeCount = refl
all_services-at services.IcuDisableEdgeCount = refl
all_services-at services.IcuGetEdgeNumbers = refl
all_services-at services.IcuStartTimestamp = refl
all_services-at services.IcuStopTimestamp = refl
all_services-at services.IcuGetTimestampIndex = refl
all_services-at services.IcuStartSignalMeasurement = refl
all_services-at services.IcuStopSignalMeasurement = refl
all_services-at services.IcuGetTimeElapsed = refl
all_services-at services.IcuGetDutyCycleValues = refl
all_services-at services.AdcInit = refl
all_services-at services.AdcDeInit = refl
all_services-at services.AdcSetupResultBuffer = refl
all_services-at services.AdcStartGroupConversion = refl
all_services-at services.AdcStopGroupConversion = refl
all_services-at services.AdcReadGroup = refl
all_services-at services.AdcEnableHardwareTrigger = refl
all_services-at services.AdcDisableHardwareTrigger = refl
all_services-at services.AdcEnableGroupNotification = refl
all_services-at services.AdcDisableGroupNotification = refl
all_services-at services.AdcGetGroupStatus = refl
all_services-at services.AdcGetStreamLastPointer = refl
all_services-at services.SpiInit = refl
all_services-at services.SpiDeInit = refl
all_services-at services.SpiWriteIb = refl
all_services-at services.SpiReadIb = refl
all_services-at services.SpiSetupEb = refl
all_services-at services.SpiAsyncTransmit = refl
all_services-at services.SpiCancel = refl
all_services-at services.SpiGetStatus = refl
all_services-at services.SpiGetJobResult = refl
all_services-at services.SpiGetSequenceResult = refl
all_services-at services.SpiGetHwUnitStatus = refl
all_services-at services.SpiSetAsyncMode = refl
all_services-at services.SpiMainFunctionHandling = refl
all_services-at services.SpiSyncTransmit = refl
all_services-at services.DioReadChannel = refl
all_services-at services.DioFlipChannel = refl
all_services-at services.DioWriteChannel = refl
all_services-at services.DioReadPort = refl
all_services-at services.DioWritePort = refl
all_services-at services.DioReadChannelGroup = refl
all_services-at services.DioWriteChannelGroup = refl
all_services-at services.WdgInit = refl
all_services-at services.WdgSetMode = refl
all_services-at services.WdgSetTriggerCondition = refl

service_number-is : (a b : Service) → service_number a ≡ service_number b → a ≡ b
service_number-is a b e = sym (all_services-at a) ∙ (ap (λ n. slice_index_or all_services n services.McuInit) e ∙ all_services-at b)

truths_same : (a b : Bool) → Decides (same_truth a b) (a ≡ b)
truths_same true true = yes refl
truths_same true false = no (λ h. on_off h)
truths_same false true = no (λ h. off_on h)
truths_same false false = yes refl

same_parts : (a b : Notice) → a.kind ≡ b.kind → a.id ≡ b.id → a ≡ b
same_parts a b k i =
    let from_kind : NoticeKind → Notice = λ x. record { kind = x; id = a.id } in
    let from_id : ℕ → Notice = λ x. record { kind = b.kind; id = x } in
    ap from_kind k ∙ ap from_id i

pub notices_same : (a b : Notice) → Decides (same_notice a b) (a ≡ b)
notices_same a b = worded (λ h. same_parts a b (kind_number-is a.kind b.kind h.0) h.1) (λ e. (ap (λ (x : Notice). kind_number x.kind) e, ap (λ (x : Notice). x.id) e)) (both (equal (kind_number a.kind) (kind_number b.kind)) (equal a.id b.id))

report_parts : (a b : DevError) → a.service ≡ b.service → a.error ≡ b.error → a.runtime ≡ b.runtime → a ≡ b
report_parts a b s e r =
    let from_service : Service → DevError = λ x. record { service = x; error = a.error; runtime = a.runtime } in
    let from_error : ErrorName → DevError = λ x. record { service = b.service; error = x; runtime = a.runtime } in
    let from_runtime : Bool → DevError = λ x. record { service = b.service; error = b.error; runtime = x } in
    ap from_service s ∙ (ap from_error e ∙ ap from_runtime r)

pub reports_same : (a b : DevError) → Decides (same_report a b) (a ≡ b)
reports_same a b =
    worded (λ h. report_parts a b (service_number-is a.service b.service h.0) (error_number-is a.error b.error h.1) h.2)
    (λ e. (ap (λ (x : DevError). service_number x.service) e, ap (λ (x : DevError). error_number x.error) e, ap (λ (x : DevError). x.runtime) e))
    (three (equal (service_number a.service) (service_number b.service)) (equal (error_number a.error) (error_number b.error)) (truths_same a.runtime b.runtime))
