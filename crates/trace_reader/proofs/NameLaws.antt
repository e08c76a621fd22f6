-- Each name is found by its word, and no word of a name has a space or a line feed.
use Rattle.std.proofs.Common.{◌≡◌, true, false, Option, Some, None, refl, ◌∙◌, ap, sym}
use Rattle.std.specs.Prelude.{Ok}
use Rattle.mcal_base.specs.det_errors.Spelling.{error_text}
use Rattle.irq_control.specs.Spelling.{held_text}
use Rattle.irq_control.specs.declared.held.Held.{Held}
use Rattle.irq_control.specs.declared.held.Held.TheVariants as causes
use Rattle.mcal_base.specs.Names.{service_text, answer_text, notice_text}
use Rattle.mcal_base.specs.declared.answer_name.AnswerName.{AnswerName}
use Rattle.mcal_base.specs.declared.answer_name.AnswerName.TheVariants as answers
use Rattle.mcal_base.specs.declared.directive.Reason.{Reason}
use Rattle.mcal_base.specs.declared.directive.Reason.TheVariants as reasons
use Rattle.mcal_base.specs.declared.error_name.ErrorName.{ErrorName}
use Rattle.mcal_base.specs.declared.error_name.ErrorName.TheVariants as errors
use Rattle.mcal_base.specs.declared.notice.NoticeKind.{NoticeKind}
use Rattle.mcal_base.specs.declared.notice.NoticeKind.TheVariants as notices
use Rattle.mcal_base.specs.declared.service.Service.{Service}
use Rattle.mcal_base.specs.declared.service.Service.TheVariants as services
use Rattle.bench_report.specs.Lines.{reason_text}
use Rattle.trace_reader.specs.Guess.{is_numeral}
use Rattle.bench_script.specs.Orders.{known}
use Rattle.bench_script.specs.Words.{named, all_services}
use Rattle.bench_script.proofs.Choices.{service_again as spelled_again}
use Rattle.trace_reader.specs.Names.{all_causes, all_reasons, all_notices, all_answers, all_errors}
use Rattle.trace_reader.proofs.Digits.{none}
use Rattle.trace_reader.proofs.Splits.{sp, blank, spaceless}

pub cause_again : (x : Held) → named held_text all_causes (held_text x) ≡ Some x
cause_again causes.Masked = refl
cause_again causes.Level = refl
cause_again causes.Reentry = refl
cause_again causes.Idle = refl
cause_again causes.Full = refl
cause_again causes.Empty = refl
cause_again causes.Busy = refl
cause_again causes.Unknown = refl
cause_again causes.Frames = refl

pub cause_solid : (x : Held) → none blank (held_text x) ≡ true
cause_solid causes.Masked = refl
cause_solid causes.Level = refl
cause_solid causes.Reentry = refl
cause_solid causes.Idle = refl
cause_solid causes.Full = refl
cause_solid causes.Empty = refl
cause_solid causes.Busy = refl
cause_solid causes.Unknown = refl
cause_solid causes.Frames = refl

pub cause_plain : (x : Held) → none sp (held_text x) ≡ true
cause_plain x = spaceless (held_text x) (cause_solid x)

pub reason_again : (x : Reason) → named reason_text all_reasons (reason_text x) ≡ Some x
reason_again reasons.PowerOn = refl
reason_again reasons.Watchdog = refl
reason_again reasons.Software = refl

pub reason_solid : (x : Reason) → none blank (reason_text x) ≡ true
reason_solid reasons.PowerOn = refl
reason_solid reasons.Watchdog = refl
reason_solid reasons.Software = refl

pub reason_plain : (x : Reason) → none sp (reason_text x) ≡ true
reason_plain x = spaceless (reason_text x) (reason_solid x)

pub notice_again : (x : NoticeKind) → named notice_text all_notices (notice_text x) ≡ Some x
notice_again notices.GptNotification = refl
notice_again notices.EcuMCheckWakeup = refl
notice_again notices.EcuMSetWakeupEvent = refl
notice_again notices.PwmNotification = refl
notice_again notices.IcuSignalNotification = refl
notice_again notices.IcuTimestampNotification = refl
notice_again notices.AdcNotification = refl
notice_again notices.SpiJobEndNotification = refl
notice_again notices.SpiSeqEndNotification = refl

pub notice_solid : (x : NoticeKind) → none blank (notice_text x) ≡ true
notice_solid notices.GptNotification = refl
notice_solid notices.EcuMCheckWakeup = refl
notice_solid notices.EcuMSetWakeupEvent = refl
notice_solid notices.PwmNotification = refl
notice_solid notices.IcuSignalNotification = refl
notice_solid notices.IcuTimestampNotification = refl
notice_solid notices.AdcNotification = refl
notice_solid notices.SpiJobEndNotification = refl
notice_solid notices.SpiSeqEndNotification = refl

pub notice_plain : (x : NoticeKind) → none sp (notice_text x) ≡ true
notice_plain x = spaceless (notice_text x) (notice_solid x)

pub answer_again : (x : AnswerName) → named answer_text all_answers (answer_text x) ≡ Some x
answer_again answers.EOk = refl
answer_again answers.ENotOk = refl
answer_again answers.McuPllLocked = refl
answer_again answers.McuPllUnlocked = refl
answer_again answers.McuPllStatusUndefined = refl
answer_again answers.McuPowerOnReset = refl
answer_again answers.McuWatchdogReset = refl
answer_again answers.McuSwReset = refl
answer_again answers.McuResetUndefined = refl
answer_again answers.PwmHigh = refl
answer_again answers.PwmLow = refl
answer_again answers.IcuActive = refl
answer_again answers.IcuIdle = refl
answer_again answers.AdcIdle = refl
answer_again answers.AdcBusy = refl
answer_again answers.AdcCompleted = refl
answer_again answers.AdcStreamCompleted = refl
answer_again answers.SpiUninit = refl
answer_again answers.SpiIdle = refl
answer_again answers.SpiBusy = refl
answer_again answers.SpiJobOk = refl
answer_again answers.SpiJobPending = refl
answer_again answers.SpiJobFailed = refl
answer_again answers.SpiJobQueued = refl
answer_again answers.SpiSeqOk = refl
answer_again answers.SpiSeqPending = refl
answer_again answers.SpiSeqFailed = refl
answer_again answers.SpiSeqCanceled = refl
answer_again answers.StdHigh = refl
answer_again answers.StdLow = refl

pub answer_solid : (x : AnswerName) → none blank (answer_text x) ≡ true
answer_solid answers.EOk = refl
answer_solid answers.ENotOk = refl
answer_solid answers.McuPllLocked = refl
answer_solid answers.McuPllUnlocked = refl
answer_solid answers.McuPllStatusUndefined = refl
answer_solid answers.McuPowerOnReset = refl
answer_solid answers.McuWatchdogReset = refl
answer_solid answers.McuSwReset = refl
answer_solid answers.McuResetUndefined = refl
answer_solid answers.PwmHigh = refl
answer_solid answers.PwmLow = refl
answer_solid answers.IcuActive = refl
answer_solid answers.IcuIdle = refl
answer_solid answers.AdcIdle = refl
answer_solid answers.AdcBusy = refl
answer_solid answers.AdcCompleted = refl
answer_solid answers.AdcStreamCompleted = refl
answer_solid answers.SpiUninit = refl
answer_solid answers.SpiIdle = refl
answer_solid answers.SpiBusy = refl
answer_solid answers.SpiJobOk = refl
answer_solid answers.SpiJobPending = refl
answer_solid answers.SpiJobFailed = refl
answer_solid answers.SpiJobQueued = refl
answer_solid answers.SpiSeqOk = refl
answer_solid answers.SpiSeqPending = refl
answer_solid answers.SpiSeqFailed = refl
answer_solid answers.SpiSeqCanceled = refl
answer_solid answers.StdHigh = refl
answer_solid answers.StdLow = refl

pub answer_plain : (x : AnswerName) → none sp (answer_text x) ≡ true
answer_plain x = spaceless (answer_text x) (answer_solid x)

pub error_again : (x : ErrorName) → named error_text all_errors (error_text x) ≡ Some x
error_again errors.McuUninit = refl
error_again errors.McuParamRamsection = refl
error_again errors.McuParamClock = refl
error_again errors.McuPllNotLocked = refl
error_again errors.McuParamMode = refl
error_again errors.PortUninit = refl
error_again errors.PortParamPin = refl
error_again errors.PortDirectionUnchangeable = refl
error_again errors.PortParamInvalidMode = refl
error_again errors.PortModeUnchangeable = refl
error_again errors.GptAlreadyInitialized = refl
error_again errors.GptUninit = refl
error_again errors.GptBusy = refl
error_again errors.GptParamChannel = refl
error_again errors.GptParamValue = refl
error_again errors.GptMode = refl
error_again errors.GptParamMode = refl
error_again errors.PwmAlreadyInitialized = refl
error_again errors.PwmUninit = refl
error_again errors.PwmParamChannel = refl
error_again errors.PwmPeriodUnchangeable = refl
error_again errors.IcuAlreadyInitialized = refl
error_again errors.IcuUninit = refl
error_again errors.IcuParamChannel = refl
error_again errors.IcuParamActivation = refl
error_again errors.IcuParamBufferSize = refl
error_again errors.IcuParamNotifyInterval = refl
error_again errors.IcuNotStarted = refl
error_again errors.AdcAlreadyInitialized = refl
error_again errors.AdcUninit = refl
error_again errors.AdcBusy = refl
error_again errors.AdcParamGroup = refl
error_again errors.AdcParamPointer = refl
error_again errors.AdcWrongTriggSrc = refl
error_again errors.AdcBufferUninit = refl
error_again errors.AdcIdle = refl
error_again errors.AdcNotifCapability = refl
error_again errors.SpiAlreadyInitialized = refl
error_again errors.SpiUninit = refl
error_again errors.SpiParamChannel = refl
error_again errors.SpiParamLength = refl
error_again errors.SpiParamSeq = refl
error_again errors.SpiSeqPending = refl
error_again errors.SpiParamJob = refl
error_again errors.SpiParamUnit = refl
error_again errors.SpiSeqInProcess = refl
error_again errors.DioParamInvalidChannelId = refl
error_again errors.DioParamInvalidPortId = refl
error_again errors.DioParamInvalidGroup = refl
error_again errors.WdgDriverState = refl
error_again errors.WdgParamMode = refl
error_again errors.WdgParamTimeout = refl

pub error_solid : (x : ErrorName) → none blank (error_text x) ≡ true
error_solid errors.McuUninit = refl
error_solid errors.McuParamRamsection = refl
error_solid errors.McuParamClock = refl
error_solid errors.McuPllNotLocked = refl
error_solid errors.McuParamMode = refl
error_solid errors.PortUninit = refl
error_solid errors.PortParamPin = refl
error_solid errors.PortDirectionUnchangeable = refl
error_solid errors.PortParamInvalidMode = refl
error_solid errors.PortModeUnchangeable = refl
error_solid errors.GptAlreadyInitialized = refl
error_solid errors.GptUninit = refl
error_solid errors.GptBusy = refl
error_solid errors.GptParamChannel = refl
error_solid errors.GptParamValue = refl
error_solid errors.GptMode = refl
error_solid errors.GptParamMode = refl
error_solid errors.PwmAlreadyInitialized = refl
error_solid errors.PwmUninit = refl
error_solid errors.PwmParamChannel = refl
error_solid errors.PwmPeriodUnchangeable = refl
error_solid errors.IcuAlreadyInitialized = refl
error_solid errors.IcuUninit = refl
error_solid errors.IcuParamChannel = refl
error_solid errors.IcuParamActivation = refl
error_solid errors.IcuParamBufferSize = refl
error_solid errors.IcuParamNotifyInterval = refl
error_solid errors.IcuNotStarted = refl
error_solid errors.AdcAlreadyInitialized = refl
error_solid errors.AdcUninit = refl
error_solid errors.AdcBusy = refl
error_solid errors.AdcParamGroup = refl
error_solid errors.AdcParamPointer = refl
error_solid errors.AdcWrongTriggSrc = refl
error_solid errors.AdcBufferUninit = refl
error_solid errors.AdcIdle = refl
error_solid errors.AdcNotifCapability = refl
error_solid errors.SpiAlreadyInitialized = refl
error_solid errors.SpiUninit = refl
error_solid errors.SpiParamChannel = refl
error_solid errors.SpiParamLength = refl
error_solid errors.SpiParamSeq = refl
error_solid errors.SpiSeqPending = refl
error_solid errors.SpiParamJob = refl
error_solid errors.SpiParamUnit = refl
error_solid errors.SpiSeqInProcess = refl
error_solid errors.DioParamInvalidChannelId = refl
error_solid errors.DioParamInvalidPortId = refl
error_solid errors.DioParamInvalidGroup = refl
error_solid errors.WdgDriverState = refl
error_solid errors.WdgParamMode = refl
error_solid errors.WdgParamTimeout = refl

pub error_plain : (x : ErrorName) → none sp (error_text x) ≡ true
error_plain x = spaceless (error_text x) (error_solid x)

known_some : (o : Option Service) (x : Service) → known o ≡ Ok x → o ≡ Some x
known_some None x e = cc
known_some (Some y) x e = cc

pub service_again : (x : Service) → named service_text all_services (service_text x) ≡ Some x
service_again x = known_some (named service_text all_services (service_text x)) x (spelled_again x)

pub service_solid : (x : Service) → none blank (service_text x) ≡ true
service_solid services.McuInit = refl
service_solid services.McuInitRamSection = refl
service_solid services.McuInitClock = refl
service_solid services.McuDistributePllClock = refl
service_solid services.McuGetPllStatus = refl
service_solid services.McuGetResetReason = refl
service_solid services.McuPerformReset = refl
service_solid services.McuSetMode = refl
service_solid services.PortInit = refl
service_solid services.PortSetPinDirection = refl
service_solid services.PortRefreshPortDirection = refl
service_solid services.PortSetPinMode = refl
service_solid services.GptInit = refl
service_solid services.GptDeInit = refl
service_solid services.GptGetTimeElapsed = refl
service_solid services.GptGetTimeRemaining = refl
service_solid services.GptStartTimer = refl
service_solid services.GptStopTimer = refl
service_solid services.GptEnableNotification = refl
service_solid services.GptDisableNotification = refl
service_solid services.GptSetMode = refl
service_solid services.GptEnableWakeup = refl
service_solid services.GptDisableWakeup = refl
service_solid services.GptCheckWakeup = refl
service_solid services.PwmInit = refl
service_solid services.PwmDeInit = refl
service_solid services.PwmSetDutyCycle = refl
service_solid services.PwmSetPeriodAndDuty = refl
service_solid services.PwmSetOutputToIdle = refl
service_solid services.PwmGetOutputState = refl
service_solid services.PwmEnableNotification = refl
service_solid services.PwmDisableNotification = refl
service_solid services.IcuInit = refl
service_solid services.IcuDeInit = refl
service_solid services.IcuSetActivationCondition = refl
service_solid services.IcuEnableNotification = refl
service_solid services.IcuDisableNotification = refl
service_solid services.IcuGetInputState = refl
service_solid services.IcuEnableEdgeDetection = refl
service_solid services.IcuDisableEdgeDetection = refl
service_solid services.IcuResetEdgeCount = refl
service_solid services.IcuEnableEdgeCount = refl
service_solid services.IcuDisableEdgeCount = refl
service_solid services.IcuGetEdgeNumbers = refl
service_solid services.IcuStartTimestamp = refl
service_solid services.IcuStopTimestamp = refl
service_solid services.IcuGetTimestampIndex = refl
service_solid services.IcuStartSignalMeasurement = refl
service_solid services.IcuStopSignalMeasurement = refl
service_solid services.IcuGetTimeElapsed = refl
service_solid services.IcuGetDutyCycleValues = refl
service_solid services.AdcInit = refl
service_solid services.AdcDeInit = refl
service_solid services.AdcSetupResultBuffer = refl
service_solid services.AdcStartGroupConversion = refl
service_solid services.AdcStopGroupConversion = refl
service_solid services.AdcReadGroup = refl
service_solid services.AdcEnableHardwareTrigger = refl
service_solid services.AdcDisableHardwareTrigger = refl
service_solid services.AdcEnableGroupNotification = refl
service_solid services.AdcDisableGroupNotification = refl
service_solid services.AdcGetGroupStatus = refl
service_solid services.AdcGetStreamLastPointer = refl
service_solid services.SpiInit = refl
service_solid services.SpiDeInit = refl
service_solid services.SpiWriteIb = refl
service_solid services.SpiReadIb = refl
service_solid services.SpiSetupEb = refl
service_solid services.SpiAsyncTransmit = refl
service_solid services.SpiCancel = refl
service_solid services.SpiGetStatus = refl
service_solid services.SpiGetJobResult = refl
service_solid services.SpiGetSequenceResult = refl
service_solid services.SpiGetHwUnitStatus = refl
service_solid services.SpiSetAsyncMode = refl
service_solid services.SpiMainFunctionHandling = refl
service_solid services.SpiSyncTransmit = refl
service_solid services.DioReadChannel = refl
service_solid services.DioFlipChannel = refl
service_solid services.DioWriteChannel = refl
service_solid services.DioReadPort = refl
service_solid services.DioWritePort = refl
service_solid services.DioReadChannelGroup = refl
service_solid services.DioWriteChannelGroup = refl
service_solid services.WdgInit = refl
service_solid services.WdgSetMode = refl
service_solid services.WdgSetTriggerCondition = refl

pub service_plain : (x : Service) → none sp (service_text x) ≡ true
service_plain x = spaceless (service_text x) (service_solid x)

-- no name of an answer begins with a digit
pub answer_letter : (x : AnswerName) → is_numeral (answer_text x) ≡ false
answer_letter answers.EOk = refl
answer_letter answers.ENotOk = refl
answer_letter answers.McuPllLocked = refl
answer_letter answers.McuPllUnlocked = refl
answer_letter answers.McuPllStatusUndefined = refl
answer_letter answers.McuPowerOnReset = refl
answer_letter answers.McuWatchdogReset = refl
answer_letter answers.McuSwReset = refl
answer_letter answers.McuResetUndefined = refl
answer_letter answers.PwmHigh = refl
answer_letter answers.PwmLow = refl
answer_letter answers.IcuActive = refl
answer_letter answers.IcuIdle = refl
answer_letter answers.AdcIdle = refl
answer_letter answers.AdcBusy = refl
answer_letter answers.AdcCompleted = refl
answer_letter answers.AdcStreamCompleted = refl
answer_letter answers.SpiUninit = refl
answer_letter answers.SpiIdle = refl
answer_letter answers.SpiBusy = refl
answer_letter answers.SpiJobOk = refl
answer_letter answers.SpiJobPending = refl
answer_letter answers.SpiJobFailed = refl
answer_letter answers.SpiJobQueued = refl
answer_letter answers.SpiSeqOk = refl
answer_letter answers.SpiSeqPending = refl
answer_letter answers.SpiSeqFailed = refl
answer_letter answers.SpiSeqCanceled = refl
answer_letter answers.StdHigh = refl
answer_letter answers.StdLow = refl

-- no two services are spelled alike
pub service_injective : (x y : Service) → service_text x ≡ service_text y → x ≡ y
service_injective x y same =
    let again : Some x ≡ Some y = sym (service_again x) ∙ (ap (named service_text all_services) same ∙ service_again y) in
    cc
