-- What a script spells by one word is read again.
use Rattle.std.proofs.Common.{◌≡◌, refl, inl, inr}
use Rattle.std.specs.Prelude.{Ok}
use Rattle.mcal_base.specs.Names.{service_text, argument_text}
use Rattle.mcal_base.specs.declared.argument_name.ArgumentName.{ArgumentName}
use Rattle.mcal_base.specs.declared.directive.Argument.TheVariants as values
use Rattle.mcal_base.specs.declared.directive.Stop.{Stop}
use Rattle.mcal_base.specs.declared.directive.Stop.TheVariants as stops
use Rattle.mcal_base.specs.declared.directive.Shown.{Shown}
use Rattle.mcal_base.specs.declared.directive.Shown.TheVariants as shown
use Rattle.mcal_base.specs.declared.service.Service.{Service}
use Rattle.mcal_base.specs.declared.service.Service.TheVariants as services
use Rattle.bench_script.specs.Arguments.{name}
use Rattle.bench_script.specs.Orders.{choice}
use Rattle.bench_script.specs.Productions.{IsOneOf}
use Rattle.bench_script.specs.Tables.{names_of}
use Rattle.bench_script.specs.Words.{all_services, stop_text, all_stops, shown_text, all_shown}
use Rattle.bench_script.specs.declared.tables.NameSet.{NameSet}
use Rattle.bench_script.specs.declared.tables.NameSet.TheVariants as sets

-- a service
pub service_again : (s : Service) → choice service_text all_services (service_text s) ≡ Ok s
service_again services.McuInit = refl
service_again services.McuInitRamSection = refl
service_again services.McuInitClock = refl
service_again services.McuDistributePllClock = refl
service_again services.McuGetPllStatus = refl
service_again services.McuGetResetReason = refl
service_again services.McuPerformReset = refl
service_again services.McuSetMode = refl
service_again services.PortInit = refl
service_again services.PortSetPinDirection = refl
service_again services.PortRefreshPortDirection = refl
service_again services.PortSetPinMode = refl
service_again services.GptInit = refl
service_again services.GptDeInit = refl
service_again services.GptGetTimeElapsed = refl
service_again services.GptGetTimeRemaining = refl
service_again services.GptStartTimer = refl
service_again services.GptStopTimer = refl
service_again services.GptEnableNotification = refl
service_again services.GptDisableNotification = refl
service_again services.GptSetMode = refl
service_again services.GptEnableWakeup = refl
service_again services.GptDisableWakeup = refl
service_again services.GptCheckWakeup = refl
service_again services.PwmInit = refl
service_again services.PwmDeInit = refl
service_again services.PwmSetDutyCycle = refl
service_again services.PwmSetPeriodAndDuty = refl
service_again services.PwmSetOutputToIdle = refl
service_again services.PwmGetOutputState = refl
service_again services.PwmEnableNotification = refl
service_again services.PwmDisableNotification = refl
service_again services.IcuInit = refl
service_again services.IcuDeInit = refl
service_again services.IcuSetActivationCondition = refl
service_again services.IcuEnableNotification = refl
service_again services.IcuDisableNotification = refl
service_again services.IcuGetInputState = refl
service_again services.IcuEnableEdgeDetection = refl
service_again services.IcuDisableEdgeDetection = refl
service_again services.IcuResetEdgeCount = refl
service_again services.IcuEnableEdgeCount = refl
service_again services.IcuDisableEdgeCount = refl
service_again services.IcuGetEdgeNumbers = refl
service_again services.IcuStartTimestamp = refl
service_again services.IcuStopTimestamp = refl
service_again services.IcuGetTimestampIndex = refl
service_again services.IcuStartSignalMeasurement = refl
service_again services.IcuStopSignalMeasurement = refl
service_again services.IcuGetTimeElapsed = refl
service_again services.IcuGetDutyCycleValues = refl
service_again services.AdcInit = refl
service_again services.AdcDeInit = refl
service_again services.AdcSetupResultBuffer = refl
service_again services.AdcStartGroupConversion = refl
service_again services.AdcStopGroupConversion = refl
service_again services.AdcReadGroup = refl
service_again services.AdcEnableHardwareTrigger = refl
service_again services.AdcDisableHardwareTrigger = refl
service_again services.AdcEnableGroupNotification = refl
service_again services.AdcDisableGroupNotification = refl
service_again services.AdcGetGroupStatus = refl
service_again services.AdcGetStreamLastPointer = refl
service_again services.SpiInit = refl
service_again services.SpiDeInit = refl
service_again services.SpiWriteIb = refl
service_again services.SpiReadIb = refl
service_again services.SpiSetupEb = refl
service_again services.SpiAsyncTransmit = refl
service_again services.SpiCancel = refl
service_again services.SpiGetStatus = refl
service_again services.SpiGetJobResult = refl
service_again services.SpiGetSequenceResult = refl
service_again services.SpiGetHwUnitStatus = refl
service_again services.SpiSetAsyncMode = refl
service_again services.SpiMainFunctionHandling = refl
service_again services.SpiSyncTransmit = refl
service_again services.DioReadChannel = refl
service_again services.DioFlipChannel = refl
service_again services.DioWriteChannel = refl
service_again services.DioReadPort = refl
service_again services.DioWritePort = refl
service_again services.DioReadChannelGroup = refl
service_again services.DioWriteChannelGroup = refl
service_again services.WdgInit = refl
service_again services.WdgSetMode = refl
service_again services.WdgSetTriggerCondition = refl

-- a place where `upto` may stop
pub stop_again : (s : Stop) → choice stop_text all_stops (stop_text s) ≡ Ok s
stop_again stops.Act = refl
stop_again stops.Mask = refl
stop_again stops.Unmask = refl
stop_again stops.Note = refl

-- what `show` prints
pub shown_again : (s : Shown) → choice shown_text all_shown (shown_text s) ≡ Ok s
shown_again shown.Pins = refl
shown_again shown.Wire = refl
shown_again shown.Buffers = refl
shown_again shown.Ram = refl

-- a name of a set
pub name_again : (set : NameSet) (n : ArgumentName) → IsOneOf (names_of set) n → name set (argument_text n) ≡ Ok (values.Name n)
name_again sets.Direction n (inl e) = rw e refl
name_again sets.Direction n (inr (inl e)) = rw e refl
name_again sets.Direction n (inr (inr none)) = absurd none
name_again sets.PinMode n (inl e) = rw e refl
name_again sets.PinMode n (inr (inl e)) = rw e refl
name_again sets.PinMode n (inr (inr (inl e))) = rw e refl
name_again sets.PinMode n (inr (inr (inr (inl e)))) = rw e refl
name_again sets.PinMode n (inr (inr (inr (inr (inl e))))) = rw e refl
name_again sets.PinMode n (inr (inr (inr (inr (inr (inl e)))))) = rw e refl
name_again sets.PinMode n (inr (inr (inr (inr (inr (inr none)))))) = absurd none
name_again sets.GptMode n (inl e) = rw e refl
name_again sets.GptMode n (inr (inl e)) = rw e refl
name_again sets.GptMode n (inr (inr (inl e))) = rw e refl
name_again sets.GptMode n (inr (inr (inr none))) = absurd none
name_again sets.PwmEdge n (inl e) = rw e refl
name_again sets.PwmEdge n (inr (inl e)) = rw e refl
name_again sets.PwmEdge n (inr (inr (inl e))) = rw e refl
name_again sets.PwmEdge n (inr (inr (inr none))) = absurd none
name_again sets.IcuEdge n (inl e) = rw e refl
name_again sets.IcuEdge n (inr (inl e)) = rw e refl
name_again sets.IcuEdge n (inr (inr (inl e))) = rw e refl
name_again sets.IcuEdge n (inr (inr (inr (inl e)))) = rw e refl
name_again sets.IcuEdge n (inr (inr (inr (inr none)))) = absurd none
name_again sets.Source n (inl e) = rw e refl
name_again sets.Source n (inr (inl e)) = rw e refl
name_again sets.Source n (inr (inr none)) = absurd none
name_again sets.Destination n (inl e) = rw e refl
name_again sets.Destination n (inr (inl e)) = rw e refl
name_again sets.Destination n (inr (inr none)) = absurd none
name_again sets.AsyncMode n (inl e) = rw e refl
name_again sets.AsyncMode n (inr (inl e)) = rw e refl
name_again sets.AsyncMode n (inr (inr none)) = absurd none
name_again sets.PinLevel n (inl e) = rw e refl
name_again sets.PinLevel n (inr (inl e)) = rw e refl
name_again sets.PinLevel n (inr (inr none)) = absurd none
name_again sets.WdgMode n (inl e) = rw e refl
name_again sets.WdgMode n (inr (inl e)) = rw e refl
name_again sets.WdgMode n (inr (inr (inl e))) = rw e refl
name_again sets.WdgMode n (inr (inr (inr (inl e)))) = rw e refl
name_again sets.WdgMode n (inr (inr (inr (inr none)))) = absurd none
