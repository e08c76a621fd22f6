-- What may stand for the arguments of each service.
use Rattle.std.specs.Prelude.{List, [], ◌∷◌}
use Rattle.mcal_base.specs.declared.service.Service.{Service}
use Rattle.mcal_base.specs.declared.service.Service.TheVariants as services
use Rattle.mcal_base.specs.declared.argument_name.ArgumentName.{ArgumentName}
use Rattle.mcal_base.specs.declared.argument_name.ArgumentName.TheVariants as names
use Rattle.bench_script.specs.declared.tables.Kind.{Kind}
use Rattle.bench_script.specs.declared.tables.Kind.TheVariants.{Number, Name, Buffer}
use Rattle.bench_script.specs.declared.tables.NameSet.{NameSet}
use Rattle.bench_script.specs.declared.tables.NameSet.TheVariants as sets

-- the names of a set
abbrev pub names_of : NameSet → List ArgumentName
names_of sets.Direction = names.PortPinIn ∷ names.PortPinOut ∷ []
names_of sets.PinMode = names.PortPinModeAdc ∷ names.PortPinModeDio ∷ names.PortPinModeIcu ∷ names.PortPinModePwm ∷ names.PortPinModeSpi ∷ names.Invalid ∷ []
names_of sets.GptMode = names.GptModeNormal ∷ names.GptModeSleep ∷ names.Invalid ∷ []
names_of sets.PwmEdge = names.PwmRisingEdge ∷ names.PwmFallingEdge ∷ names.PwmBothEdges ∷ []
names_of sets.IcuEdge = names.IcuRisingEdge ∷ names.IcuFallingEdge ∷ names.IcuBothEdges ∷ names.Invalid ∷ []
names_of sets.Source = names.Source ∷ names.Null ∷ []
names_of sets.Destination = names.Destination ∷ names.Null ∷ []
names_of sets.AsyncMode = names.SpiPollingMode ∷ names.SpiInterruptMode ∷ []
names_of sets.PinLevel = names.StdHigh ∷ names.StdLow ∷ []
names_of sets.WdgMode = names.WdgifOffMode ∷ names.WdgifSlowMode ∷ names.WdgifFastMode ∷ names.Invalid ∷ []

-- any number of the language
abbrev pub any : Kind
any = Number 4294967295

-- a number of 16 bits
abbrev pub half : Kind
half = Number 65535

-- a number of 8 bits
abbrev pub byte : Kind
byte = Number 255

-- what stands for the arguments of a service, in their order
abbrev pub arguments_of : Service → List Kind
arguments_of services.McuInit = []
arguments_of services.McuInitRamSection = any ∷ []
arguments_of services.McuInitClock = any ∷ []
arguments_of services.McuDistributePllClock = []
arguments_of services.McuGetPllStatus = []
arguments_of services.McuGetResetReason = []
arguments_of services.McuPerformReset = []
arguments_of services.McuSetMode = any ∷ []
arguments_of services.PortInit = []
arguments_of services.PortSetPinDirection = any ∷ Name sets.Direction ∷ []
arguments_of services.PortRefreshPortDirection = []
arguments_of services.PortSetPinMode = any ∷ Name sets.PinMode ∷ []
arguments_of services.GptInit = []
arguments_of services.GptDeInit = []
arguments_of services.GptGetTimeElapsed = any ∷ []
arguments_of services.GptGetTimeRemaining = any ∷ []
arguments_of services.GptStartTimer = any ∷ any ∷ []
arguments_of services.GptStopTimer = any ∷ []
arguments_of services.GptEnableNotification = any ∷ []
arguments_of services.GptDisableNotification = any ∷ []
arguments_of services.GptSetMode = Name sets.GptMode ∷ []
arguments_of services.GptEnableWakeup = any ∷ []
arguments_of services.GptDisableWakeup = any ∷ []
arguments_of services.GptCheckWakeup = any ∷ []
arguments_of services.PwmInit = []
arguments_of services.PwmDeInit = []
arguments_of services.PwmSetDutyCycle = any ∷ half ∷ []
arguments_of services.PwmSetPeriodAndDuty = any ∷ half ∷ half ∷ []
arguments_of services.PwmSetOutputToIdle = any ∷ []
arguments_of services.PwmGetOutputState = any ∷ []
arguments_of services.PwmEnableNotification = any ∷ Name sets.PwmEdge ∷ []
arguments_of services.PwmDisableNotification = any ∷ []
arguments_of services.IcuInit = []
arguments_of services.IcuDeInit = []
arguments_of services.IcuSetActivationCondition = any ∷ Name sets.IcuEdge ∷ []
arguments_of services.IcuEnableNotification = any ∷ []
arguments_of services.IcuDisableNotification = any ∷ []
arguments_of services.IcuGetInputState = any ∷ []
arguments_of services.IcuEnableEdgeDetection = any ∷ []
arguments_of services.IcuDisableEdgeDetection = any ∷ []
arguments_of services.IcuResetEdgeCount = any ∷ []
arguments_of services.IcuEnableEdgeCount = any ∷ []
arguments_of services.IcuDisableEdgeCount = any ∷ []
arguments_of services.IcuGetEdgeNumbers = any ∷ []
arguments_of services.IcuStartTimestamp = any ∷ any ∷ any ∷ []
arguments_of services.IcuStopTimestamp = any ∷ []
arguments_of services.IcuGetTimestampIndex = any ∷ []
arguments_of services.IcuStartSignalMeasurement = any ∷ []
arguments_of services.IcuStopSignalMeasurement = any ∷ []
arguments_of services.IcuGetTimeElapsed = any ∷ []
arguments_of services.IcuGetDutyCycleValues = any ∷ []
arguments_of services.AdcInit = []
arguments_of services.AdcDeInit = []
arguments_of services.AdcSetupResultBuffer = any ∷ Buffer ∷ []
arguments_of services.AdcStartGroupConversion = any ∷ []
arguments_of services.AdcStopGroupConversion = any ∷ []
arguments_of services.AdcReadGroup = any ∷ []
arguments_of services.AdcEnableHardwareTrigger = any ∷ []
arguments_of services.AdcDisableHardwareTrigger = any ∷ []
arguments_of services.AdcEnableGroupNotification = any ∷ []
arguments_of services.AdcDisableGroupNotification = any ∷ []
arguments_of services.AdcGetGroupStatus = any ∷ []
arguments_of services.AdcGetStreamLastPointer = any ∷ []
arguments_of services.SpiInit = []
arguments_of services.SpiDeInit = []
arguments_of services.SpiWriteIb = any ∷ Name sets.Source ∷ []
arguments_of services.SpiReadIb = any ∷ []
arguments_of services.SpiSetupEb = any ∷ Name sets.Source ∷ Name sets.Destination ∷ any ∷ []
arguments_of services.SpiAsyncTransmit = any ∷ []
arguments_of services.SpiCancel = any ∷ []
arguments_of services.SpiGetStatus = []
arguments_of services.SpiGetJobResult = any ∷ []
arguments_of services.SpiGetSequenceResult = any ∷ []
arguments_of services.SpiGetHwUnitStatus = any ∷ []
arguments_of services.SpiSetAsyncMode = Name sets.AsyncMode ∷ []
arguments_of services.SpiMainFunctionHandling = []
arguments_of services.SpiSyncTransmit = any ∷ []
arguments_of services.DioReadChannel = any ∷ []
arguments_of services.DioFlipChannel = any ∷ []
arguments_of services.DioWriteChannel = any ∷ Name sets.PinLevel ∷ []
arguments_of services.DioReadPort = any ∷ []
arguments_of services.DioWritePort = any ∷ byte ∷ []
arguments_of services.DioReadChannelGroup = any ∷ []
arguments_of services.DioWriteChannelGroup = any ∷ byte ∷ []
arguments_of services.WdgInit = []
arguments_of services.WdgSetMode = Name sets.WdgMode ∷ []
arguments_of services.WdgSetTriggerCondition = half ∷ []
