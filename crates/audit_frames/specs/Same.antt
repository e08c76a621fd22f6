-- When two notices, and two reports, are the same one.
use Rattle.std.specs.Prelude.{ℕ, Bool, ◌&&◌, not, ◌==◌, if◌then◌else◌}
use Rattle.mcal_base.specs.declared.error_name.ErrorName.{ErrorName}
use Rattle.mcal_base.specs.declared.error_name.ErrorName.TheVariants as errors
use Rattle.mcal_base.specs.declared.moves.DevError.{DevError}
use Rattle.mcal_base.specs.declared.notice.Notice.{Notice}
use Rattle.mcal_base.specs.declared.notice.NoticeKind.{NoticeKind}
use Rattle.mcal_base.specs.declared.notice.NoticeKind.TheVariants as kinds
use Rattle.mcal_base.specs.declared.service.Service.{Service}
use Rattle.mcal_base.specs.declared.service.Service.TheVariants as services

-- ---- numbers of names

abbrev pub kind_number : NoticeKind → ℕ
kind_number kinds.GptNotification = 0
kind_number kinds.EcuMCheckWakeup = 1
kind_number kinds.EcuMSetWakeupEvent = 2
kind_number kinds.PwmNotification = 3
kind_number kinds.IcuSignalNotification = 4
kind_number kinds.IcuTimestampNotification = 5
kind_number kinds.AdcNotification = 6
kind_number kinds.SpiJobEndNotification = 7
kind_number kinds.SpiSeqEndNotification = 8

abbrev pub error_number : ErrorName → ℕ
error_number errors.McuUninit = 0
error_number errors.McuParamRamsection = 1
error_number errors.McuParamClock = 2
error_number errors.McuPllNotLocked = 3
error_number errors.McuParamMode = 4
error_number errors.PortUninit = 5
error_number errors.PortParamPin = 6
error_number errors.PortDirectionUnchangeable = 7
error_number errors.PortParamInvalidMode = 8
error_number errors.PortModeUnchangeable = 9
error_number errors.GptAlreadyInitialized = 10
error_number errors.GptUninit = 11
error_number errors.GptBusy = 12
error_number errors.GptParamChannel = 13
error_number errors.GptParamValue = 14
error_number errors.GptMode = 15
error_number errors.GptParamMode = 16
error_number errors.PwmAlreadyInitialized = 17
error_number errors.PwmUninit = 18
error_number errors.PwmParamChannel = 19
error_number errors.PwmPeriodUnchangeable = 20
error_number errors.IcuAlreadyInitialized = 21
error_number errors.IcuUninit = 22
error_number errors.IcuParamChannel = 23
error_number errors.IcuParamActivation = 24
error_number errors.IcuParamBufferSize = 25
error_number errors.IcuParamNotifyInterval = 26
error_number errors.IcuNotStarted = 27
error_number errors.AdcAlreadyInitialized = 28
error_number errors.AdcUninit = 29
error_number errors.AdcBusy = 30
error_number errors.AdcParamGroup = 31
error_number errors.AdcParamPointer = 32
error_number errors.AdcWrongTriggSrc = 33
error_number errors.AdcBufferUninit = 34
error_number errors.AdcIdle = 35
error_number errors.AdcNotifCapability = 36
error_number errors.SpiAlreadyInitialized = 37
error_number errors.SpiUninit = 38
error_number errors.SpiParamChannel = 39
error_number errors.SpiParamLength = 40
error_number errors.SpiParamSeq = 41
error_number errors.SpiSeqPending = 42
error_number errors.SpiParamJob = 43
error_number errors.SpiParamUnit = 44
error_number errors.SpiSeqInProcess = 45
error_number errors.DioParamInvalidChannelId = 46
error_number errors.DioParamInvalidPortId = 47
error_number errors.DioParamInvalidGroup = 48
error_number errors.WdgDriverState = 49
error_number errors.WdgParamMode = 50
error_number errors.WdgParamTimeout = 51

abbrev pub service_number : Service → ℕ
service_number services.McuInit = 0
service_number services.McuInitRamSection = 1
service_number services.McuInitClock = 2
service_number services.McuDistributePllClock = 3
service_number services.McuGetPllStatus = 4
service_number services.McuGetResetReason = 5
service_number services.McuPerformReset = 6
service_number services.McuSetMode = 7
service_number services.PortInit = 8
service_number services.PortSetPinDirection = 9
service_number services.PortRefreshPortDirection = 10
service_number services.PortSetPinMode = 11
service_number services.GptInit = 12
service_number services.GptDeInit = 13
service_number services.GptGetTimeElapsed = 14
service_number services.GptGetTimeRemaining = 15
service_number services.GptStartTimer = 16
service_number services.GptStopTimer = 17
service_number services.GptEnableNotification = 18
service_number services.GptDisableNotification = 19
service_number services.GptSetMode = 20
service_number services.GptEnableWakeup = 21
service_number services.GptDisableWakeup = 22
service_number services.GptCheckWakeup = 23
service_number services.PwmInit = 24
service_number services.PwmDeInit = 25
service_number services.PwmSetDutyCycle = 26
service_number services.PwmSetPeriodAndDuty = 27
service_number services.PwmSetOutputToIdle = 28
service_number services.PwmGetOutputState = 29
service_number services.PwmEnableNotification = 30
service_number services.PwmDisableNotification = 31
service_number services.IcuInit = 32
service_number services.IcuDeInit = 33
service_number services.IcuSetActivationCondition = 34
service_number services.IcuEnableNotification = 35
service_number services.IcuDisableNotification = 36
service_number services.IcuGetInputState = 37
service_number services.IcuEnableEdgeDetection = 38
service_number services.IcuDisableEdgeDetection = 39
service_number services.IcuResetEdgeCount = 40
service_number services.IcuEnableEdgeCount = 41
service_number services.IcuDisableEdgeCount = 42
service_number services.IcuGetEdgeNumbers = 43
service_number services.IcuStartTimestamp = 44
service_number services.IcuStopTimestamp = 45
service_number services.IcuGetTimestampIndex = 46
service_number services.IcuStartSignalMeasurement = 47
service_number services.IcuStopSignalMeasurement = 48
service_number services.IcuGetTimeElapsed = 49
service_number services.IcuGetDutyCycleValues = 50
service_number services.AdcInit = 51
service_number services.AdcDeInit = 52
service_number services.AdcSetupResultBuffer = 53
service_number services.AdcStartGroupConversion = 54
service_number services.AdcStopGroupConversion = 55
service_number services.AdcReadGroup = 56
service_number services.AdcEnableHardwareTrigger = 57
service_number services.AdcDisableHardwareTrigger = 58
service_number services.AdcEnableGroupNotification = 59
service_number services.AdcDisableGroupNotification = 60
service_number services.AdcGetGroupStatus = 61
service_number services.AdcGetStreamLastPointer = 62
service_number services.SpiInit = 63
service_number services.SpiDeInit = 64
service_number services.SpiWriteIb = 65
service_number services.SpiReadIb = 66
service_number services.SpiSetupEb = 67
service_number services.SpiAsyncTransmit = 68
service_number services.SpiCancel = 69
service_number services.SpiGetStatus = 70
service_number services.SpiGetJobResult = 71
service_number services.SpiGetSequenceResult = 72
service_number services.SpiGetHwUnitStatus = 73
service_number services.SpiSetAsyncMode = 74
service_number services.SpiMainFunctionHandling = 75
service_number services.SpiSyncTransmit = 76
service_number services.DioReadChannel = 77
service_number services.DioFlipChannel = 78
service_number services.DioWriteChannel = 79
service_number services.DioReadPort = 80
service_number services.DioWritePort = 81
service_number services.DioReadChannelGroup = 82
service_number services.DioWriteChannelGroup = 83
service_number services.WdgInit = 84
service_number services.WdgSetMode = 85
service_number services.WdgSetTriggerCondition = 86

-- ---- the same one

abbrev pub same_truth : Bool → Bool → Bool
same_truth a b = if a then b else not b

abbrev pub same_notice : Notice → Notice → Bool
same_notice a b = kind_number a.kind == kind_number b.kind && a.id == b.id

abbrev pub same_report : DevError → DevError → Bool
same_report a b = service_number a.service == service_number b.service && error_number a.error == error_number b.error && same_truth a.runtime b.runtime
