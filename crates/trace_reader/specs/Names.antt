-- The names that a report prints.
use Rattle.std.specs.Prelude.{List, [], ◌∷◌}
use Rattle.irq_control.specs.declared.held.Held.{Held}
use Rattle.irq_control.specs.declared.held.Held.TheVariants as causes
use Rattle.mcal_base.specs.declared.answer_name.AnswerName.{AnswerName}
use Rattle.mcal_base.specs.declared.answer_name.AnswerName.TheVariants as answers
use Rattle.mcal_base.specs.declared.directive.Reason.{Reason}
use Rattle.mcal_base.specs.declared.directive.Reason.TheVariants as reasons
use Rattle.mcal_base.specs.declared.error_name.ErrorName.{ErrorName}
use Rattle.mcal_base.specs.declared.error_name.ErrorName.TheVariants as errors
use Rattle.mcal_base.specs.declared.notice.NoticeKind.{NoticeKind}
use Rattle.mcal_base.specs.declared.notice.NoticeKind.TheVariants as notices

abbrev pub all_causes : List Held
all_causes = causes.Masked ∷ causes.Level ∷ causes.Reentry ∷ causes.Idle ∷ causes.Full ∷ causes.Empty ∷ causes.Busy ∷ causes.Unknown ∷ causes.Frames ∷ []

abbrev pub all_reasons : List Reason
all_reasons = reasons.PowerOn ∷ reasons.Watchdog ∷ reasons.Software ∷ []

abbrev pub all_notices : List NoticeKind
all_notices = notices.GptNotification ∷ notices.EcuMCheckWakeup ∷ notices.EcuMSetWakeupEvent ∷ notices.PwmNotification ∷ notices.IcuSignalNotification ∷ notices.IcuTimestampNotification ∷ notices.AdcNotification ∷ notices.SpiJobEndNotification ∷ notices.SpiSeqEndNotification ∷ []

abbrev pub all_answers : List AnswerName
all_answers = answers.EOk ∷ answers.ENotOk ∷ answers.McuPllLocked ∷ answers.McuPllUnlocked ∷ answers.McuPllStatusUndefined ∷ answers.McuPowerOnReset ∷ answers.McuWatchdogReset ∷ answers.McuSwReset ∷ answers.McuResetUndefined ∷ answers.PwmHigh ∷ answers.PwmLow ∷ answers.IcuActive ∷ answers.IcuIdle ∷ answers.AdcIdle ∷ answers.AdcBusy ∷ answers.AdcCompleted ∷ answers.AdcStreamCompleted ∷ answers.SpiUninit ∷ answers.SpiIdle ∷ answers.SpiBusy ∷ answers.SpiJobOk ∷ answers.SpiJobPending ∷ answers.SpiJobFailed ∷ answers.SpiJobQueued ∷ answers.SpiSeqOk ∷ answers.SpiSeqPending ∷ answers.SpiSeqFailed ∷ answers.SpiSeqCanceled ∷ answers.StdHigh ∷ answers.StdLow ∷ []

abbrev pub all_errors : List ErrorName
all_errors = errors.McuUninit ∷ errors.McuParamRamsection ∷ errors.McuParamClock ∷ errors.McuPllNotLocked ∷ errors.McuParamMode ∷ errors.PortUninit ∷ errors.PortParamPin ∷ errors.PortDirectionUnchangeable ∷ errors.PortParamInvalidMode ∷ errors.PortModeUnchangeable ∷ errors.GptAlreadyInitialized ∷ errors.GptUninit ∷ errors.GptBusy ∷ errors.GptParamChannel ∷ errors.GptParamValue ∷ errors.GptMode ∷ errors.GptParamMode ∷ errors.PwmAlreadyInitialized ∷ errors.PwmUninit ∷ errors.PwmParamChannel ∷ errors.PwmPeriodUnchangeable ∷ errors.IcuAlreadyInitialized ∷ errors.IcuUninit ∷ errors.IcuParamChannel ∷ errors.IcuParamActivation ∷ errors.IcuParamBufferSize ∷ errors.IcuParamNotifyInterval ∷ errors.IcuNotStarted ∷ errors.AdcAlreadyInitialized ∷ errors.AdcUninit ∷ errors.AdcBusy ∷ errors.AdcParamGroup ∷ errors.AdcParamPointer ∷ errors.AdcWrongTriggSrc ∷ errors.AdcBufferUninit ∷ errors.AdcIdle ∷ errors.AdcNotifCapability ∷ errors.SpiAlreadyInitialized ∷ errors.SpiUninit ∷ errors.SpiParamChannel ∷ errors.SpiParamLength ∷ errors.SpiParamSeq ∷ errors.SpiSeqPending ∷ errors.SpiParamJob ∷ errors.SpiParamUnit ∷ errors.SpiSeqInProcess ∷ errors.DioParamInvalidChannelId ∷ errors.DioParamInvalidPortId ∷ errors.DioParamInvalidGroup ∷ errors.WdgDriverState ∷ errors.WdgParamMode ∷ errors.WdgParamTimeout ∷ []
