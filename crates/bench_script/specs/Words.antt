-- The words of the language: those that a directive begins with, and those that stand for a choice.
use Rattle.std.specs.Prelude.{◌≡◌, ℕ, ◌+◌, List, [], ◌∷◌, length, Option, codes, bytes_eq}
use Rattle.std.specs.List.{find}
use Rattle.mcal_base.specs.Names.{service_text}
use Rattle.mcal_base.specs.declared.service.Service.{Service}
use Rattle.mcal_base.specs.declared.service.Service.TheVariants as services
use Rattle.mcal_base.specs.declared.directive.Stop.{Stop}
use Rattle.mcal_base.specs.declared.directive.Stop.TheVariants as stops
use Rattle.mcal_base.specs.declared.directive.Shown.{Shown}
use Rattle.mcal_base.specs.declared.directive.Shown.TheVariants as shown
use Rattle.mcal_base.specs.declared.directive.Reason.{Reason}
use Rattle.mcal_base.specs.declared.directive.Reason.TheVariants as reasons
use Rattle.bench_script.specs.declared.words.Keyword.{Keyword}
use Rattle.bench_script.specs.declared.words.Keyword.TheVariants as keywords

-- the first of the choices that a word spells
abbrev pub named : {T : Type 0} → (T → List ℕ) → List T → List ℕ → Option T
named spelling choices word = find (λ x. bytes_eq (spelling x) word) choices

-- the first words of directives
abbrev pub keyword_text : Keyword → List ℕ
keyword_text keywords.Call = codes "call"
keyword_text keywords.Do = codes "do"
keyword_text keywords.Enter = codes "enter"
keyword_text keywords.Serve = codes "serve"
keyword_text keywords.Run = codes "run"
keyword_text keywords.Upto = codes "upto"
keyword_text keywords.Finish = codes "finish"
keyword_text keywords.Tick = codes "tick"
keyword_text keywords.Level = codes "level"
keyword_text keywords.Analog = codes "analog"
keyword_text keywords.Trigger = codes "trigger"
keyword_text keywords.Miso = codes "miso"
keyword_text keywords.SpiFault = codes "spifault"
keyword_text keywords.Detach = codes "detach"
keyword_text keywords.Fill = codes "fill"
keyword_text keywords.Reset = codes "reset"
keyword_text keywords.Show = codes "show"

-- each keyword
abbrev pub all_keywords : List Keyword
all_keywords =
    keywords.Call ∷ keywords.Do ∷ keywords.Enter ∷ keywords.Serve ∷ keywords.Run ∷ keywords.Upto ∷
    keywords.Finish ∷ keywords.Tick ∷ keywords.Level ∷ keywords.Analog ∷ keywords.Trigger ∷ keywords.Miso ∷
    keywords.SpiFault ∷ keywords.Detach ∷ keywords.Fill ∷ keywords.Reset ∷ keywords.Show ∷ []

-- where `upto` may stop
abbrev pub stop_text : Stop → List ℕ
stop_text stops.Act = codes "act"
stop_text stops.Mask = codes "mask"
stop_text stops.Unmask = codes "unmask"
stop_text stops.Note = codes "note"

abbrev pub all_stops : List Stop
all_stops = stops.Act ∷ stops.Mask ∷ stops.Unmask ∷ stops.Note ∷ []

-- what `show` prints
abbrev pub shown_text : Shown → List ℕ
shown_text shown.Pins = codes "pins"
shown_text shown.Wire = codes "wire"
shown_text shown.Buffers = codes "buffers"
shown_text shown.Ram = codes "ram"

abbrev pub all_shown : List Shown
all_shown = shown.Pins ∷ shown.Wire ∷ shown.Buffers ∷ shown.Ram ∷ []

-- why `reset` resets the chip; no script names the last
abbrev pub reason_text : Reason → List ℕ
reason_text reasons.PowerOn = codes "power"
reason_text reasons.Watchdog = codes "watchdog"
reason_text reasons.Software = codes "software"

abbrev pub all_reasons : List Reason
all_reasons = reasons.PowerOn ∷ reasons.Watchdog ∷ []

-- the services, module by module
abbrev pub all_services : List Service
all_services =
    services.McuInit ∷ services.McuInitRamSection ∷ services.McuInitClock ∷ services.McuDistributePllClock ∷
    services.McuGetPllStatus ∷ services.McuGetResetReason ∷ services.McuPerformReset ∷ services.McuSetMode ∷
    services.PortInit ∷ services.PortSetPinDirection ∷ services.PortRefreshPortDirection ∷
    services.PortSetPinMode ∷
    services.GptInit ∷ services.GptDeInit ∷ services.GptGetTimeElapsed ∷ services.GptGetTimeRemaining ∷
    services.GptStartTimer ∷ services.GptStopTimer ∷ services.GptEnableNotification ∷
    services.GptDisableNotification ∷ services.GptSetMode ∷ services.GptEnableWakeup ∷
    services.GptDisableWakeup ∷ services.GptCheckWakeup ∷
    services.PwmInit ∷ services.PwmDeInit ∷ services.PwmSetDutyCycle ∷ services.PwmSetPeriodAndDuty ∷
    services.PwmSetOutputToIdle ∷ services.PwmGetOutputState ∷ services.PwmEnableNotification ∷
    services.PwmDisableNotification ∷
    services.IcuInit ∷ services.IcuDeInit ∷ services.IcuSetActivationCondition ∷
    services.IcuEnableNotification ∷ services.IcuDisableNotification ∷ services.IcuGetInputState ∷
    services.IcuEnableEdgeDetection ∷ services.IcuDisableEdgeDetection ∷ services.IcuResetEdgeCount ∷
    services.IcuEnableEdgeCount ∷ services.IcuDisableEdgeCount ∷ services.IcuGetEdgeNumbers ∷
    services.IcuStartTimestamp ∷ services.IcuStopTimestamp ∷ services.IcuGetTimestampIndex ∷
    services.IcuStartSignalMeasurement ∷ services.IcuStopSignalMeasurement ∷ services.IcuGetTimeElapsed ∷
    services.IcuGetDutyCycleValues ∷
    services.AdcInit ∷ services.AdcDeInit ∷ services.AdcSetupResultBuffer ∷ services.AdcStartGroupConversion ∷
    services.AdcStopGroupConversion ∷ services.AdcReadGroup ∷ services.AdcEnableHardwareTrigger ∷
    services.AdcDisableHardwareTrigger ∷ services.AdcEnableGroupNotification ∷
    services.AdcDisableGroupNotification ∷ services.AdcGetGroupStatus ∷ services.AdcGetStreamLastPointer ∷
    services.SpiInit ∷ services.SpiDeInit ∷ services.SpiWriteIb ∷ services.SpiReadIb ∷ services.SpiSetupEb ∷
    services.SpiAsyncTransmit ∷ services.SpiCancel ∷ services.SpiGetStatus ∷ services.SpiGetJobResult ∷
    services.SpiGetSequenceResult ∷ services.SpiGetHwUnitStatus ∷ services.SpiSetAsyncMode ∷
    services.SpiMainFunctionHandling ∷ services.SpiSyncTransmit ∷
    services.DioReadChannel ∷ services.DioFlipChannel ∷ services.DioWriteChannel ∷ services.DioReadPort ∷
    services.DioWritePort ∷ services.DioReadChannelGroup ∷ services.DioWriteChannelGroup ∷
    services.WdgInit ∷ services.WdgSetMode ∷ services.WdgSetTriggerCondition ∷
    []

-- among these is each service that a word of so many letters may name, by its first letter
abbrev pub FindsAll : List Service → ℕ → ℕ → Type 0
FindsAll some letter letters = (rest : List ℕ) → length rest + 1 ≡ letters → named service_text some (letter ∷ rest) ≡ named service_text all_services (letter ∷ rest)
