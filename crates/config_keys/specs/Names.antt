-- How keys and the values that are names are spelled.
use Rattle.std.specs.Prelude.{ℕ, List, Option, Some, None, codes, bytes_eq, if◌then◌else◌}
use Rattle.config_keys.specs.declared.key_name.KeyName.{KeyName}
use Rattle.config_keys.specs.declared.key_name.KeyName.TheVariants as keys
use Rattle.mcal_base.specs.declared.config.port.PortPinDirection.{PortPinDirection}
use Rattle.mcal_base.specs.declared.config.port.PortPinDirection.TheVariants as port_pin_direction
use Rattle.mcal_base.specs.declared.config.port.PortPinMode.{PortPinMode}
use Rattle.mcal_base.specs.declared.config.port.PortPinMode.TheVariants as port_pin_mode
use Rattle.config_keys.specs.declared.named.PinLevel.{PinLevel}
use Rattle.config_keys.specs.declared.named.PinLevel.TheVariants as pin_level
use Rattle.mcal_base.specs.declared.config.gpt.GptChannelMode.{GptChannelMode}
use Rattle.mcal_base.specs.declared.config.gpt.GptChannelMode.TheVariants as gpt_channel_mode
use Rattle.mcal_base.specs.declared.config.pwm.PwmChannelClass.{PwmChannelClass}
use Rattle.mcal_base.specs.declared.config.pwm.PwmChannelClass.TheVariants as pwm_channel_class
use Rattle.mcal_base.specs.declared.config.pwm.PwmOutputState.{PwmOutputState}
use Rattle.mcal_base.specs.declared.config.pwm.PwmOutputState.TheVariants as pwm_output_state
use Rattle.mcal_base.specs.declared.config.icu.IcuStartEdge.{IcuStartEdge}
use Rattle.mcal_base.specs.declared.config.icu.IcuStartEdge.TheVariants as icu_start_edge
use Rattle.mcal_base.specs.declared.config.icu.IcuMeasurementMode.{IcuMeasurementMode}
use Rattle.mcal_base.specs.declared.config.icu.IcuMeasurementMode.TheVariants as icu_measurement_mode
use Rattle.mcal_base.specs.declared.config.icu.IcuSignalMeasurementProperty.{IcuSignalMeasurementProperty}
use Rattle.mcal_base.specs.declared.config.icu.IcuSignalMeasurementProperty.TheVariants as icu_signal_measurement_property
use Rattle.mcal_base.specs.declared.config.icu.IcuTimestampMeasurementProperty.{IcuTimestampMeasurementProperty}
use Rattle.mcal_base.specs.declared.config.icu.IcuTimestampMeasurementProperty.TheVariants as icu_timestamp_measurement_property
use Rattle.mcal_base.specs.declared.config.adc.AdcPriorityImplementation.{AdcPriorityImplementation}
use Rattle.mcal_base.specs.declared.config.adc.AdcPriorityImplementation.TheVariants as adc_priority_implementation
use Rattle.mcal_base.specs.declared.config.adc.AdcAccessMode.{AdcAccessMode}
use Rattle.mcal_base.specs.declared.config.adc.AdcAccessMode.TheVariants as adc_access_mode
use Rattle.mcal_base.specs.declared.config.adc.AdcConversionMode.{AdcConversionMode}
use Rattle.mcal_base.specs.declared.config.adc.AdcConversionMode.TheVariants as adc_conversion_mode
use Rattle.mcal_base.specs.declared.config.adc.AdcGroupReplacement.{AdcGroupReplacement}
use Rattle.mcal_base.specs.declared.config.adc.AdcGroupReplacement.TheVariants as adc_group_replacement
use Rattle.mcal_base.specs.declared.config.adc.AdcTriggerSource.{AdcTriggerSource}
use Rattle.mcal_base.specs.declared.config.adc.AdcTriggerSource.TheVariants as adc_trigger_source
use Rattle.mcal_base.specs.declared.config.adc.AdcStreamBufferMode.{AdcStreamBufferMode}
use Rattle.mcal_base.specs.declared.config.adc.AdcStreamBufferMode.TheVariants as adc_stream_buffer_mode
use Rattle.config_keys.specs.declared.named.SpiBuffer.{SpiBuffer}
use Rattle.config_keys.specs.declared.named.SpiBuffer.TheVariants as spi_buffer
use Rattle.mcal_base.specs.declared.config.wdg.WdgMode.{WdgMode}
use Rattle.mcal_base.specs.declared.config.wdg.WdgMode.TheVariants as wdg_mode

abbrev pub key_text : KeyName → List ℕ
key_text keys.McuDevErrorDetect = codes "McuDevErrorDetect"
key_text keys.McuClockSettingConfig = codes "McuClockSettingConfig"
key_text keys.McuClockSettingId = codes "McuClockSettingId"
key_text keys.Multiplier = codes "Multiplier"
key_text keys.McuModeSettingConf = codes "McuModeSettingConf"
key_text keys.McuMode = codes "McuMode"
key_text keys.McuRamSectorSettingConf = codes "McuRamSectorSettingConf"
key_text keys.McuRamSectionBaseAddress = codes "McuRamSectionBaseAddress"
key_text keys.McuRamSectionSize = codes "McuRamSectionSize"
key_text keys.McuRamDefaultValue = codes "McuRamDefaultValue"
key_text keys.PortDevErrorDetect = codes "PortDevErrorDetect"
key_text keys.PortPin = codes "PortPin"
key_text keys.PortPinId = codes "PortPinId"
key_text keys.PortPinDirection = codes "PortPinDirection"
key_text keys.PortPinDirectionChangeable = codes "PortPinDirectionChangeable"
key_text keys.PortPinInitialMode = codes "PortPinInitialMode"
key_text keys.PortPinMode = codes "PortPinMode"
key_text keys.PortPinModeChangeable = codes "PortPinModeChangeable"
key_text keys.PortPinLevelValue = codes "PortPinLevelValue"
key_text keys.GptDevErrorDetect = codes "GptDevErrorDetect"
key_text keys.Classification = codes "Classification"
key_text keys.GptChannelConfiguration = codes "GptChannelConfiguration"
key_text keys.GptChannelId = codes "GptChannelId"
key_text keys.GptChannelMode = codes "GptChannelMode"
key_text keys.GptChannelTickValueMax = codes "GptChannelTickValueMax"
key_text keys.GptEnableWakeup = codes "GptEnableWakeup"
key_text keys.GptNotification = codes "GptNotification"
key_text keys.Prescaler = codes "Prescaler"
key_text keys.Level = codes "Level"
key_text keys.PwmDevErrorDetect = codes "PwmDevErrorDetect"
key_text keys.PwmChannel = codes "PwmChannel"
key_text keys.PwmChannelId = codes "PwmChannelId"
key_text keys.PwmChannelClass = codes "PwmChannelClass"
key_text keys.PwmDutycycleDefault = codes "PwmDutycycleDefault"
key_text keys.PwmIdleState = codes "PwmIdleState"
key_text keys.PwmPolarity = codes "PwmPolarity"
key_text keys.PwmNotification = codes "PwmNotification"
key_text keys.PeriodTicks = codes "PeriodTicks"
key_text keys.Pin = codes "Pin"
key_text keys.IcuDevErrorDetect = codes "IcuDevErrorDetect"
key_text keys.IcuChannel = codes "IcuChannel"
key_text keys.IcuChannelId = codes "IcuChannelId"
key_text keys.IcuDefaultStartEdge = codes "IcuDefaultStartEdge"
key_text keys.IcuMeasurementMode = codes "IcuMeasurementMode"
key_text keys.IcuSignalMeasurementProperty = codes "IcuSignalMeasurementProperty"
key_text keys.IcuTimestampMeasurementProperty = codes "IcuTimestampMeasurementProperty"
key_text keys.IcuSignalNotification = codes "IcuSignalNotification"
key_text keys.IcuTimestampNotification = codes "IcuTimestampNotification"
key_text keys.AdcDevErrorDetect = codes "AdcDevErrorDetect"
key_text keys.AdcPriorityImplementation = codes "AdcPriorityImplementation"
key_text keys.AdcEnableQueuing = codes "AdcEnableQueuing"
key_text keys.AdcHwUnit = codes "AdcHwUnit"
key_text keys.AdcHwUnitId = codes "AdcHwUnitId"
key_text keys.AdcGroup = codes "AdcGroup"
key_text keys.AdcGroupId = codes "AdcGroupId"
key_text keys.Unit = codes "Unit"
key_text keys.AdcGroupDefinition = codes "AdcGroupDefinition"
key_text keys.AdcGroupAccessMode = codes "AdcGroupAccessMode"
key_text keys.AdcGroupConversionMode = codes "AdcGroupConversionMode"
key_text keys.AdcGroupPriority = codes "AdcGroupPriority"
key_text keys.AdcGroupReplacement = codes "AdcGroupReplacement"
key_text keys.AdcGroupTriggSrc = codes "AdcGroupTriggSrc"
key_text keys.AdcStreamingBufferMode = codes "AdcStreamingBufferMode"
key_text keys.AdcStreamingNumSamples = codes "AdcStreamingNumSamples"
key_text keys.AdcNotification = codes "AdcNotification"
key_text keys.TriggerInput = codes "TriggerInput"
key_text keys.SpiDevErrorDetect = codes "SpiDevErrorDetect"
key_text keys.Levels = codes "Levels"
key_text keys.SyncUnits = codes "SyncUnits"
key_text keys.SpiChannel = codes "SpiChannel"
key_text keys.SpiChannelId = codes "SpiChannelId"
key_text keys.SpiChannelType = codes "SpiChannelType"
key_text keys.SpiDataWidth = codes "SpiDataWidth"
key_text keys.SpiDefaultData = codes "SpiDefaultData"
key_text keys.SpiIbNBuffers = codes "SpiIbNBuffers"
key_text keys.SpiEbMaxLength = codes "SpiEbMaxLength"
key_text keys.SpiJob = codes "SpiJob"
key_text keys.SpiJobId = codes "SpiJobId"
key_text keys.SpiJobPriority = codes "SpiJobPriority"
key_text keys.SpiJobEndNotification = codes "SpiJobEndNotification"
key_text keys.SpiChannelList = codes "SpiChannelList"
key_text keys.Select = codes "Select"
key_text keys.SpiSequence = codes "SpiSequence"
key_text keys.SpiSequenceId = codes "SpiSequenceId"
key_text keys.SpiInterruptibleSequence = codes "SpiInterruptibleSequence"
key_text keys.SpiJobAssignment = codes "SpiJobAssignment"
key_text keys.SpiSeqEndNotification = codes "SpiSeqEndNotification"
key_text keys.DioDevErrorDetect = codes "DioDevErrorDetect"
key_text keys.DioChannelGroup = codes "DioChannelGroup"
key_text keys.DioChannelGroupId = codes "DioChannelGroupId"
key_text keys.Port = codes "Port"
key_text keys.DioPortOffset = codes "DioPortOffset"
key_text keys.DioPortMask = codes "DioPortMask"
key_text keys.WdgDevErrorDetect = codes "WdgDevErrorDetect"
key_text keys.WdgDefaultMode = codes "WdgDefaultMode"
key_text keys.WdgDisableAllowed = codes "WdgDisableAllowed"
key_text keys.InitialTicks = codes "InitialTicks"
key_text keys.MaxTicks = codes "MaxTicks"

abbrev pub direction_named : List ℕ → Option PortPinDirection
direction_named text = if bytes_eq text (codes "PORT_PIN_IN") then Some port_pin_direction.In else if bytes_eq text (codes "PORT_PIN_OUT") then Some port_pin_direction.Out else None

abbrev pub pin_mode_named : List ℕ → Option PortPinMode
pin_mode_named text = if bytes_eq text (codes "PORT_PIN_MODE_ADC") then Some port_pin_mode.Adc else if bytes_eq text (codes "PORT_PIN_MODE_DIO") then Some port_pin_mode.Dio else if bytes_eq text (codes "PORT_PIN_MODE_ICU") then Some port_pin_mode.Icu else if bytes_eq text (codes "PORT_PIN_MODE_PWM") then Some port_pin_mode.Pwm else if bytes_eq text (codes "PORT_PIN_MODE_SPI") then Some port_pin_mode.Spi else None

abbrev pub pin_level_named : List ℕ → Option PinLevel
pin_level_named text = if bytes_eq text (codes "PORT_PIN_LEVEL_HIGH") then Some pin_level.High else if bytes_eq text (codes "PORT_PIN_LEVEL_LOW") then Some pin_level.Low else None

abbrev pub channel_mode_named : List ℕ → Option GptChannelMode
channel_mode_named text = if bytes_eq text (codes "GPT_CH_MODE_CONTINUOUS") then Some gpt_channel_mode.Continuous else if bytes_eq text (codes "GPT_CH_MODE_ONESHOT") then Some gpt_channel_mode.OneShot else None

abbrev pub class_named : List ℕ → Option PwmChannelClass
class_named text = if bytes_eq text (codes "PWM_FIXED_PERIOD") then Some pwm_channel_class.FixedPeriod else if bytes_eq text (codes "PWM_FIXED_PERIOD_SHIFTED") then Some pwm_channel_class.FixedPeriodShifted else if bytes_eq text (codes "PWM_VARIABLE_PERIOD") then Some pwm_channel_class.VariablePeriod else None

abbrev pub output_state_named : List ℕ → Option PwmOutputState
output_state_named text = if bytes_eq text (codes "PWM_HIGH") then Some pwm_output_state.High else if bytes_eq text (codes "PWM_LOW") then Some pwm_output_state.Low else None

abbrev pub start_edge_named : List ℕ → Option IcuStartEdge
start_edge_named text = if bytes_eq text (codes "ICU_RISING_EDGE") then Some icu_start_edge.Rising else if bytes_eq text (codes "ICU_FALLING_EDGE") then Some icu_start_edge.Falling else if bytes_eq text (codes "ICU_BOTH_EDGES") then Some icu_start_edge.Both else None

abbrev pub measurement_mode_named : List ℕ → Option IcuMeasurementMode
measurement_mode_named text = if bytes_eq text (codes "ICU_MODE_SIGNAL_EDGE_DETECT") then Some icu_measurement_mode.SignalEdgeDetect else if bytes_eq text (codes "ICU_MODE_EDGE_COUNTER") then Some icu_measurement_mode.EdgeCounter else if bytes_eq text (codes "ICU_MODE_TIMESTAMP") then Some icu_measurement_mode.Timestamp else if bytes_eq text (codes "ICU_MODE_SIGNAL_MEASUREMENT") then Some icu_measurement_mode.SignalMeasurement else None

abbrev pub signal_property_named : List ℕ → Option IcuSignalMeasurementProperty
signal_property_named text = if bytes_eq text (codes "ICU_LOW_TIME") then Some icu_signal_measurement_property.LowTime else if bytes_eq text (codes "ICU_HIGH_TIME") then Some icu_signal_measurement_property.HighTime else if bytes_eq text (codes "ICU_PERIOD_TIME") then Some icu_signal_measurement_property.PeriodTime else if bytes_eq text (codes "ICU_DUTY_CYCLE") then Some icu_signal_measurement_property.DutyCycle else None

abbrev pub timestamp_property_named : List ℕ → Option IcuTimestampMeasurementProperty
timestamp_property_named text = if bytes_eq text (codes "ICU_LINEAR_BUFFER") then Some icu_timestamp_measurement_property.LinearBuffer else if bytes_eq text (codes "ICU_CIRCULAR_BUFFER") then Some icu_timestamp_measurement_property.CircularBuffer else None

abbrev pub priority_implementation_named : List ℕ → Option AdcPriorityImplementation
priority_implementation_named text = if bytes_eq text (codes "ADC_PRIORITY_NONE") then Some adc_priority_implementation.None else if bytes_eq text (codes "ADC_PRIORITY_HW_SW") then Some adc_priority_implementation.HwSw else None

abbrev pub access_mode_named : List ℕ → Option AdcAccessMode
access_mode_named text = if bytes_eq text (codes "ADC_ACCESS_MODE_SINGLE") then Some adc_access_mode.Single else if bytes_eq text (codes "ADC_ACCESS_MODE_STREAMING") then Some adc_access_mode.Streaming else None

abbrev pub conversion_mode_named : List ℕ → Option AdcConversionMode
conversion_mode_named text = if bytes_eq text (codes "ADC_CONV_MODE_ONESHOT") then Some adc_conversion_mode.OneShot else if bytes_eq text (codes "ADC_CONV_MODE_CONTINUOUS") then Some adc_conversion_mode.Continuous else None

abbrev pub replacement_named : List ℕ → Option AdcGroupReplacement
replacement_named text = if bytes_eq text (codes "ADC_GROUP_REPL_ABORT_RESTART") then Some adc_group_replacement.AbortRestart else if bytes_eq text (codes "ADC_GROUP_REPL_SUSPEND_RESUME") then Some adc_group_replacement.SuspendResume else None

abbrev pub trigger_source_named : List ℕ → Option AdcTriggerSource
trigger_source_named text = if bytes_eq text (codes "ADC_TRIGG_SRC_SW") then Some adc_trigger_source.Software else if bytes_eq text (codes "ADC_TRIGG_SRC_HW") then Some adc_trigger_source.Hardware else None

abbrev pub stream_buffer_mode_named : List ℕ → Option AdcStreamBufferMode
stream_buffer_mode_named text = if bytes_eq text (codes "ADC_STREAM_BUFFER_LINEAR") then Some adc_stream_buffer_mode.Linear else if bytes_eq text (codes "ADC_STREAM_BUFFER_CIRCULAR") then Some adc_stream_buffer_mode.Circular else None

abbrev pub buffer_named : List ℕ → Option SpiBuffer
buffer_named text = if bytes_eq text (codes "IB") then Some spi_buffer.Internal else if bytes_eq text (codes "EB") then Some spi_buffer.External else None

abbrev pub wdg_mode_named : List ℕ → Option WdgMode
wdg_mode_named text = if bytes_eq text (codes "WDGIF_OFF_MODE") then Some wdg_mode.Off else if bytes_eq text (codes "WDGIF_SLOW_MODE") then Some wdg_mode.Slow else if bytes_eq text (codes "WDGIF_FAST_MODE") then Some wdg_mode.Fast else None
