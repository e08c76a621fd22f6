-- How the names of services, modules, answers, arguments and notices are spelled.
use Rattle.std.specs.Prelude.{ℕ, List, codes}
use Rattle.mcal_base.specs.declared.service.Service.{Service}
use Rattle.mcal_base.specs.declared.service.Service.TheVariants as services
use Rattle.mcal_base.specs.declared.module_name.ModuleName.{ModuleName}
use Rattle.mcal_base.specs.declared.module_name.ModuleName.TheVariants as modules
use Rattle.mcal_base.specs.declared.answer_name.AnswerName.{AnswerName}
use Rattle.mcal_base.specs.declared.answer_name.AnswerName.TheVariants as answers
use Rattle.mcal_base.specs.declared.argument_name.ArgumentName.{ArgumentName}
use Rattle.mcal_base.specs.declared.argument_name.ArgumentName.TheVariants as arguments
use Rattle.mcal_base.specs.declared.notice.NoticeKind.{NoticeKind}
use Rattle.mcal_base.specs.declared.notice.NoticeKind.TheVariants as notices

-- a service, as the standard spells it
abbrev pub service_text : Service → List ℕ
service_text services.McuInit = codes "Mcu_Init"
service_text services.McuInitRamSection = codes "Mcu_InitRamSection"
service_text services.McuInitClock = codes "Mcu_InitClock"
service_text services.McuDistributePllClock = codes "Mcu_DistributePllClock"
service_text services.McuGetPllStatus = codes "Mcu_GetPllStatus"
service_text services.McuGetResetReason = codes "Mcu_GetResetReason"
service_text services.McuPerformReset = codes "Mcu_PerformReset"
service_text services.McuSetMode = codes "Mcu_SetMode"
service_text services.PortInit = codes "Port_Init"
service_text services.PortSetPinDirection = codes "Port_SetPinDirection"
service_text services.PortRefreshPortDirection = codes "Port_RefreshPortDirection"
service_text services.PortSetPinMode = codes "Port_SetPinMode"
service_text services.GptInit = codes "Gpt_Init"
service_text services.GptDeInit = codes "Gpt_DeInit"
service_text services.GptGetTimeElapsed = codes "Gpt_GetTimeElapsed"
service_text services.GptGetTimeRemaining = codes "Gpt_GetTimeRemaining"
service_text services.GptStartTimer = codes "Gpt_StartTimer"
service_text services.GptStopTimer = codes "Gpt_StopTimer"
service_text services.GptEnableNotification = codes "Gpt_EnableNotification"
service_text services.GptDisableNotification = codes "Gpt_DisableNotification"
service_text services.GptSetMode = codes "Gpt_SetMode"
service_text services.GptEnableWakeup = codes "Gpt_EnableWakeup"
service_text services.GptDisableWakeup = codes "Gpt_DisableWakeup"
service_text services.GptCheckWakeup = codes "Gpt_CheckWakeup"
service_text services.PwmInit = codes "Pwm_Init"
service_text services.PwmDeInit = codes "Pwm_DeInit"
service_text services.PwmSetDutyCycle = codes "Pwm_SetDutyCycle"
service_text services.PwmSetPeriodAndDuty = codes "Pwm_SetPeriodAndDuty"
service_text services.PwmSetOutputToIdle = codes "Pwm_SetOutputToIdle"
service_text services.PwmGetOutputState = codes "Pwm_GetOutputState"
service_text services.PwmEnableNotification = codes "Pwm_EnableNotification"
service_text services.PwmDisableNotification = codes "Pwm_DisableNotification"
service_text services.IcuInit = codes "Icu_Init"
service_text services.IcuDeInit = codes "Icu_DeInit"
service_text services.IcuSetActivationCondition = codes "Icu_SetActivationCondition"
service_text services.IcuEnableNotification = codes "Icu_EnableNotification"
service_text services.IcuDisableNotification = codes "Icu_DisableNotification"
service_text services.IcuGetInputState = codes "Icu_GetInputState"
service_text services.IcuEnableEdgeDetection = codes "Icu_EnableEdgeDetection"
service_text services.IcuDisableEdgeDetection = codes "Icu_DisableEdgeDetection"
service_text services.IcuResetEdgeCount = codes "Icu_ResetEdgeCount"
service_text services.IcuEnableEdgeCount = codes "Icu_EnableEdgeCount"
service_text services.IcuDisableEdgeCount = codes "Icu_DisableEdgeCount"
service_text services.IcuGetEdgeNumbers = codes "Icu_GetEdgeNumbers"
service_text services.IcuStartTimestamp = codes "Icu_StartTimestamp"
service_text services.IcuStopTimestamp = codes "Icu_StopTimestamp"
service_text services.IcuGetTimestampIndex = codes "Icu_GetTimestampIndex"
service_text services.IcuStartSignalMeasurement = codes "Icu_StartSignalMeasurement"
service_text services.IcuStopSignalMeasurement = codes "Icu_StopSignalMeasurement"
service_text services.IcuGetTimeElapsed = codes "Icu_GetTimeElapsed"
service_text services.IcuGetDutyCycleValues = codes "Icu_GetDutyCycleValues"
service_text services.AdcInit = codes "Adc_Init"
service_text services.AdcDeInit = codes "Adc_DeInit"
service_text services.AdcSetupResultBuffer = codes "Adc_SetupResultBuffer"
service_text services.AdcStartGroupConversion = codes "Adc_StartGroupConversion"
service_text services.AdcStopGroupConversion = codes "Adc_StopGroupConversion"
service_text services.AdcReadGroup = codes "Adc_ReadGroup"
service_text services.AdcEnableHardwareTrigger = codes "Adc_EnableHardwareTrigger"
service_text services.AdcDisableHardwareTrigger = codes "Adc_DisableHardwareTrigger"
service_text services.AdcEnableGroupNotification = codes "Adc_EnableGroupNotification"
service_text services.AdcDisableGroupNotification = codes "Adc_DisableGroupNotification"
service_text services.AdcGetGroupStatus = codes "Adc_GetGroupStatus"
service_text services.AdcGetStreamLastPointer = codes "Adc_GetStreamLastPointer"
service_text services.SpiInit = codes "Spi_Init"
service_text services.SpiDeInit = codes "Spi_DeInit"
service_text services.SpiWriteIb = codes "Spi_WriteIB"
service_text services.SpiReadIb = codes "Spi_ReadIB"
service_text services.SpiSetupEb = codes "Spi_SetupEB"
service_text services.SpiAsyncTransmit = codes "Spi_AsyncTransmit"
service_text services.SpiCancel = codes "Spi_Cancel"
service_text services.SpiGetStatus = codes "Spi_GetStatus"
service_text services.SpiGetJobResult = codes "Spi_GetJobResult"
service_text services.SpiGetSequenceResult = codes "Spi_GetSequenceResult"
service_text services.SpiGetHwUnitStatus = codes "Spi_GetHWUnitStatus"
service_text services.SpiSetAsyncMode = codes "Spi_SetAsyncMode"
service_text services.SpiMainFunctionHandling = codes "Spi_MainFunction_Handling"
service_text services.SpiSyncTransmit = codes "Spi_SyncTransmit"
service_text services.DioReadChannel = codes "Dio_ReadChannel"
service_text services.DioFlipChannel = codes "Dio_FlipChannel"
service_text services.DioWriteChannel = codes "Dio_WriteChannel"
service_text services.DioReadPort = codes "Dio_ReadPort"
service_text services.DioWritePort = codes "Dio_WritePort"
service_text services.DioReadChannelGroup = codes "Dio_ReadChannelGroup"
service_text services.DioWriteChannelGroup = codes "Dio_WriteChannelGroup"
service_text services.WdgInit = codes "Wdg_Init"
service_text services.WdgSetMode = codes "Wdg_SetMode"
service_text services.WdgSetTriggerCondition = codes "Wdg_SetTriggerCondition"

-- the module that offers a service
abbrev pub module_of : Service → ModuleName
module_of services.McuInit = modules.Mcu
module_of services.McuInitRamSection = modules.Mcu
module_of services.McuInitClock = modules.Mcu
module_of services.McuDistributePllClock = modules.Mcu
module_of services.McuGetPllStatus = modules.Mcu
module_of services.McuGetResetReason = modules.Mcu
module_of services.McuPerformReset = modules.Mcu
module_of services.McuSetMode = modules.Mcu
module_of services.PortInit = modules.Port
module_of services.PortSetPinDirection = modules.Port
module_of services.PortRefreshPortDirection = modules.Port
module_of services.PortSetPinMode = modules.Port
module_of services.GptInit = modules.Gpt
module_of services.GptDeInit = modules.Gpt
module_of services.GptGetTimeElapsed = modules.Gpt
module_of services.GptGetTimeRemaining = modules.Gpt
module_of services.GptStartTimer = modules.Gpt
module_of services.GptStopTimer = modules.Gpt
module_of services.GptEnableNotification = modules.Gpt
module_of services.GptDisableNotification = modules.Gpt
module_of services.GptSetMode = modules.Gpt
module_of services.GptEnableWakeup = modules.Gpt
module_of services.GptDisableWakeup = modules.Gpt
module_of services.GptCheckWakeup = modules.Gpt
module_of services.PwmInit = modules.Pwm
module_of services.PwmDeInit = modules.Pwm
module_of services.PwmSetDutyCycle = modules.Pwm
module_of services.PwmSetPeriodAndDuty = modules.Pwm
module_of services.PwmSetOutputToIdle = modules.Pwm
module_of services.PwmGetOutputState = modules.Pwm
module_of services.PwmEnableNotification = modules.Pwm
module_of services.PwmDisableNotification = modules.Pwm
module_of services.IcuInit = modules.Icu
module_of services.IcuDeInit = modules.Icu
module_of services.IcuSetActivationCondition = modules.Icu
module_of services.IcuEnableNotification = modules.Icu
module_of services.IcuDisableNotification = modules.Icu
module_of services.IcuGetInputState = modules.Icu
module_of services.IcuEnableEdgeDetection = modules.Icu
module_of services.IcuDisableEdgeDetection = modules.Icu
module_of services.IcuResetEdgeCount = modules.Icu
module_of services.IcuEnableEdgeCount = modules.Icu
module_of services.IcuDisableEdgeCount = modules.Icu
module_of services.IcuGetEdgeNumbers = modules.Icu
module_of services.IcuStartTimestamp = modules.Icu
module_of services.IcuStopTimestamp = modules.Icu
module_of services.IcuGetTimestampIndex = modules.Icu
module_of services.IcuStartSignalMeasurement = modules.Icu
module_of services.IcuStopSignalMeasurement = modules.Icu
module_of services.IcuGetTimeElapsed = modules.Icu
module_of services.IcuGetDutyCycleValues = modules.Icu
module_of services.AdcInit = modules.Adc
module_of services.AdcDeInit = modules.Adc
module_of services.AdcSetupResultBuffer = modules.Adc
module_of services.AdcStartGroupConversion = modules.Adc
module_of services.AdcStopGroupConversion = modules.Adc
module_of services.AdcReadGroup = modules.Adc
module_of services.AdcEnableHardwareTrigger = modules.Adc
module_of services.AdcDisableHardwareTrigger = modules.Adc
module_of services.AdcEnableGroupNotification = modules.Adc
module_of services.AdcDisableGroupNotification = modules.Adc
module_of services.AdcGetGroupStatus = modules.Adc
module_of services.AdcGetStreamLastPointer = modules.Adc
module_of services.SpiInit = modules.Spi
module_of services.SpiDeInit = modules.Spi
module_of services.SpiWriteIb = modules.Spi
module_of services.SpiReadIb = modules.Spi
module_of services.SpiSetupEb = modules.Spi
module_of services.SpiAsyncTransmit = modules.Spi
module_of services.SpiCancel = modules.Spi
module_of services.SpiGetStatus = modules.Spi
module_of services.SpiGetJobResult = modules.Spi
module_of services.SpiGetSequenceResult = modules.Spi
module_of services.SpiGetHwUnitStatus = modules.Spi
module_of services.SpiSetAsyncMode = modules.Spi
module_of services.SpiMainFunctionHandling = modules.Spi
module_of services.SpiSyncTransmit = modules.Spi
module_of services.DioReadChannel = modules.Dio
module_of services.DioFlipChannel = modules.Dio
module_of services.DioWriteChannel = modules.Dio
module_of services.DioReadPort = modules.Dio
module_of services.DioWritePort = modules.Dio
module_of services.DioReadChannelGroup = modules.Dio
module_of services.DioWriteChannelGroup = modules.Dio
module_of services.WdgInit = modules.Wdg
module_of services.WdgSetMode = modules.Wdg
module_of services.WdgSetTriggerCondition = modules.Wdg

-- a module, as a configuration names it
abbrev pub module_text : ModuleName → List ℕ
module_text modules.Mcu = codes "Mcu"
module_text modules.Port = codes "Port"
module_text modules.Gpt = codes "Gpt"
module_text modules.Pwm = codes "Pwm"
module_text modules.Icu = codes "Icu"
module_text modules.Adc = codes "Adc"
module_text modules.Spi = codes "Spi"
module_text modules.Dio = codes "Dio"
module_text modules.Wdg = codes "Wdg"

-- the number of a module, in the order of the configuration
abbrev pub module_number : ModuleName → ℕ
module_number modules.Mcu = 0
module_number modules.Port = 1
module_number modules.Gpt = 2
module_number modules.Pwm = 3
module_number modules.Icu = 4
module_number modules.Adc = 5
module_number modules.Spi = 6
module_number modules.Dio = 7
module_number modules.Wdg = 8

-- an answer, as the standard spells it
abbrev pub answer_text : AnswerName → List ℕ
answer_text answers.EOk = codes "E_OK"
answer_text answers.ENotOk = codes "E_NOT_OK"
answer_text answers.McuPllLocked = codes "MCU_PLL_LOCKED"
answer_text answers.McuPllUnlocked = codes "MCU_PLL_UNLOCKED"
answer_text answers.McuPllStatusUndefined = codes "MCU_PLL_STATUS_UNDEFINED"
answer_text answers.McuPowerOnReset = codes "MCU_POWER_ON_RESET"
answer_text answers.McuWatchdogReset = codes "MCU_WATCHDOG_RESET"
answer_text answers.McuSwReset = codes "MCU_SW_RESET"
answer_text answers.McuResetUndefined = codes "MCU_RESET_UNDEFINED"
answer_text answers.PwmHigh = codes "PWM_HIGH"
answer_text answers.PwmLow = codes "PWM_LOW"
answer_text answers.IcuActive = codes "ICU_ACTIVE"
answer_text answers.IcuIdle = codes "ICU_IDLE"
answer_text answers.AdcIdle = codes "ADC_IDLE"
answer_text answers.AdcBusy = codes "ADC_BUSY"
answer_text answers.AdcCompleted = codes "ADC_COMPLETED"
answer_text answers.AdcStreamCompleted = codes "ADC_STREAM_COMPLETED"
answer_text answers.SpiUninit = codes "SPI_UNINIT"
answer_text answers.SpiIdle = codes "SPI_IDLE"
answer_text answers.SpiBusy = codes "SPI_BUSY"
answer_text answers.SpiJobOk = codes "SPI_JOB_OK"
answer_text answers.SpiJobPending = codes "SPI_JOB_PENDING"
answer_text answers.SpiJobFailed = codes "SPI_JOB_FAILED"
answer_text answers.SpiJobQueued = codes "SPI_JOB_QUEUED"
answer_text answers.SpiSeqOk = codes "SPI_SEQ_OK"
answer_text answers.SpiSeqPending = codes "SPI_SEQ_PENDING"
answer_text answers.SpiSeqFailed = codes "SPI_SEQ_FAILED"
answer_text answers.SpiSeqCanceled = codes "SPI_SEQ_CANCELED"
answer_text answers.StdHigh = codes "STD_HIGH"
answer_text answers.StdLow = codes "STD_LOW"

-- an argument, as a script spells it
abbrev pub argument_text : ArgumentName → List ℕ
argument_text arguments.PortPinIn = codes "PORT_PIN_IN"
argument_text arguments.PortPinOut = codes "PORT_PIN_OUT"
argument_text arguments.PortPinModeAdc = codes "PORT_PIN_MODE_ADC"
argument_text arguments.PortPinModeDio = codes "PORT_PIN_MODE_DIO"
argument_text arguments.PortPinModeIcu = codes "PORT_PIN_MODE_ICU"
argument_text arguments.PortPinModePwm = codes "PORT_PIN_MODE_PWM"
argument_text arguments.PortPinModeSpi = codes "PORT_PIN_MODE_SPI"
argument_text arguments.GptModeNormal = codes "GPT_MODE_NORMAL"
argument_text arguments.GptModeSleep = codes "GPT_MODE_SLEEP"
argument_text arguments.PwmRisingEdge = codes "PWM_RISING_EDGE"
argument_text arguments.PwmFallingEdge = codes "PWM_FALLING_EDGE"
argument_text arguments.PwmBothEdges = codes "PWM_BOTH_EDGES"
argument_text arguments.IcuRisingEdge = codes "ICU_RISING_EDGE"
argument_text arguments.IcuFallingEdge = codes "ICU_FALLING_EDGE"
argument_text arguments.IcuBothEdges = codes "ICU_BOTH_EDGES"
argument_text arguments.SpiPollingMode = codes "SPI_POLLING_MODE"
argument_text arguments.SpiInterruptMode = codes "SPI_INTERRUPT_MODE"
argument_text arguments.StdHigh = codes "STD_HIGH"
argument_text arguments.StdLow = codes "STD_LOW"
argument_text arguments.WdgifOffMode = codes "WDGIF_OFF_MODE"
argument_text arguments.WdgifSlowMode = codes "WDGIF_SLOW_MODE"
argument_text arguments.WdgifFastMode = codes "WDGIF_FAST_MODE"
argument_text arguments.Source = codes "src"
argument_text arguments.Destination = codes "dst"
argument_text arguments.Null = codes "null"
argument_text arguments.Invalid = codes "INVALID"

-- a notice: the callback that is called
abbrev pub notice_text : NoticeKind → List ℕ
notice_text notices.GptNotification = codes "GptNotification"
notice_text notices.EcuMCheckWakeup = codes "EcuM_CheckWakeup"
notice_text notices.EcuMSetWakeupEvent = codes "EcuM_SetWakeupEvent"
notice_text notices.PwmNotification = codes "PwmNotification"
notice_text notices.IcuSignalNotification = codes "IcuSignalNotification"
notice_text notices.IcuTimestampNotification = codes "IcuTimestampNotification"
notice_text notices.AdcNotification = codes "AdcNotification"
notice_text notices.SpiJobEndNotification = codes "SpiJobEndNotification"
notice_text notices.SpiSeqEndNotification = codes "SpiSeqEndNotification"
