-- What a configuration that was read meets: ranges, lengths, ids, references and rules.
use Rattle.std.specs.Prelude.{◌≡◌, ℕ, ◌≤◌, true, false, List, length, Option, Some, None, IsSome, IfSome, All}
use Rattle.mcal_base.specs.declared.config.mcu.McuClockSetting.{McuClockSetting}
use Rattle.mcal_base.specs.declared.config.mcu.McuModeSetting.{McuModeSetting}
use Rattle.mcal_base.specs.declared.config.mcu.McuRamSection.{McuRamSection}
use Rattle.mcal_base.specs.declared.config.mcu.McuConfig.{McuConfig}
use Rattle.mcal_base.specs.declared.config.port.PortPin.{PortPin}
use Rattle.mcal_base.specs.declared.config.port.PortConfig.{PortConfig}
use Rattle.mcal_base.specs.declared.config.gpt.GptChannel.{GptChannel}
use Rattle.mcal_base.specs.declared.config.gpt.GptConfig.{GptConfig}
use Rattle.mcal_base.specs.declared.config.pwm.PwmChannel.{PwmChannel}
use Rattle.mcal_base.specs.declared.config.pwm.PwmConfig.{PwmConfig}
use Rattle.mcal_base.specs.declared.config.icu.IcuMeasurementMode.TheVariants.{Timestamp, SignalMeasurement}
use Rattle.mcal_base.specs.declared.config.icu.IcuChannel.{IcuChannel}
use Rattle.mcal_base.specs.declared.config.icu.IcuConfig.{IcuConfig}
use Rattle.mcal_base.specs.declared.config.adc.AdcTriggerSource.TheVariants.{Hardware}
use Rattle.mcal_base.specs.declared.config.adc.AdcHwUnit.{AdcHwUnit}
use Rattle.mcal_base.specs.declared.config.adc.AdcGroup.{AdcGroup}
use Rattle.mcal_base.specs.declared.config.adc.AdcConfig.{AdcConfig}
use Rattle.mcal_base.specs.declared.config.spi.SpiChannelType.{SpiChannelType}
use Rattle.mcal_base.specs.declared.config.spi.SpiChannelType.TheVariants.{Internal, External}
use Rattle.mcal_base.specs.declared.config.spi.SpiChannel.{SpiChannel}
use Rattle.mcal_base.specs.declared.config.spi.SpiJob.{SpiJob}
use Rattle.mcal_base.specs.declared.config.spi.SpiSequence.{SpiSequence}
use Rattle.mcal_base.specs.declared.config.spi.SpiConfig.{SpiConfig}
use Rattle.mcal_base.specs.declared.config.dio.DioChannelGroup.{DioChannelGroup}
use Rattle.mcal_base.specs.declared.config.dio.DioConfig.{DioConfig}
use Rattle.mcal_base.specs.declared.config.wdg.WdgConfig.{WdgConfig}
use Rattle.mcal_base.specs.declared.config.whole.Config.{Config}
use Rattle.config_facts.specs.Ids.{InRange, IsList, IsTable, has_id, Refer, Keeps}
use Rattle.config_facts.specs.Rules.{ends_past, overlaps, initial_not_allowed, shares_pin, hardware_continuous, shares_trigger, single_with_samples, streaming_once, names_channel_twice, names_job_twice, mixes_units, shares_channel, has_port, mask_off_offset, initial_above_most}

-- the ids of elements; a RAM section has none
abbrev pub clock_setting_id : McuClockSetting → Option ℕ
clock_setting_id c = Some c.id

abbrev pub mode_id : McuModeSetting → Option ℕ
mode_id m = Some m.mode

abbrev pub no_id : McuRamSection → Option ℕ
no_id s = None

abbrev pub pin_id : PortPin → Option ℕ
pin_id p = Some p.id

abbrev pub timer_id : GptChannel → Option ℕ
timer_id c = Some c.id

abbrev pub pulse_id : PwmChannel → Option ℕ
pulse_id c = Some c.id

abbrev pub input_id : IcuChannel → Option ℕ
input_id c = Some c.id

abbrev pub unit_id : AdcHwUnit → Option ℕ
unit_id u = Some u.id

abbrev pub group_id : AdcGroup → Option ℕ
group_id g = Some g.id

abbrev pub channel_id : SpiChannel → Option ℕ
channel_id c = Some c.id

abbrev pub job_id : SpiJob → Option ℕ
job_id j = Some j.id

abbrev pub sequence_id : SpiSequence → Option ℕ
sequence_id s = Some s.id

abbrev pub pin_group_id : DioChannelGroup → Option ℕ
pin_group_id g = Some g.id

-- the module Mcu
pub record IsClockSetting (c : McuClockSetting) : Type 0 where
  pub id : InRange 0 7 c.id
  pub multiplier : InRange 1 16 c.multiplier

pub record IsMode (m : McuModeSetting) : Type 0 where
  pub mode : InRange 0 7 m.mode

pub record IsRamSection (s : McuRamSection) : Type 0 where
  pub base_address : InRange 0 511 s.base_address
  pub size : InRange 1 64 s.size
  pub default_value : InRange 0 255 s.default_value

pub record HasMcuTables (mcu : McuConfig) : Type 0 where
  pub clock_settings : IsTable IsClockSetting clock_setting_id 8 mcu.clock_settings
  pub modes : IsTable IsMode mode_id 8 mcu.modes
  pub ram_sections : IsTable IsRamSection no_id 8 mcu.ram_sections

pub record KeepsMcuRules (mcu : McuConfig) : Type 0 where
  pub ends : Keeps ends_past mcu.ram_sections
  pub apart : Keeps overlaps mcu.ram_sections

pub record IsMcu (mcu : McuConfig) : Type 0 where
  pub tables : HasMcuTables mcu
  pub rules : KeepsMcuRules mcu

-- the module Port
pub record IsPin (p : PortPin) : Type 0 where
  pub id : InRange 0 63 p.id
  pub some_mode : 1 ≤ length p.modes
  pub few_modes : length p.modes ≤ 5

pub record HasPortTables (port : PortConfig) : Type 0 where
  pub pins : IsTable IsPin pin_id 64 port.pins

pub record KeepsPortRules (port : PortConfig) : Type 0 where
  pub initial : Keeps initial_not_allowed port.pins

pub record IsPort (port : PortConfig) : Type 0 where
  pub tables : HasPortTables port
  pub rules : KeepsPortRules port

-- the module Gpt
pub record IsTimer (c : GptChannel) : Type 0 where
  pub id : InRange 0 7 c.id
  pub tick_value_max : InRange 1 4294967295 c.tick_value_max
  pub prescaler : InRange 1 65535 c.prescaler
  pub level : InRange 1 7 c.level

pub record IsGpt (gpt : GptConfig) : Type 0 where
  pub classification : InRange 1 2 gpt.classification
  pub channels : IsTable IsTimer timer_id 8 gpt.channels

-- the module Pwm
pub record IsPulse (c : PwmChannel) : Type 0 where
  pub id : InRange 0 7 c.id
  pub duty_cycle_default : InRange 0 32768 c.duty_cycle_default
  pub period_ticks : InRange 0 65535 c.period_ticks
  pub pin : IfSome c.pin (InRange 0 63)
  pub level : InRange 1 7 c.level

pub record HasPwmTables (pwm : PwmConfig) : Type 0 where
  pub channels : IsTable IsPulse pulse_id 8 pwm.channels

pub record KeepsPwmRules (pwm : PwmConfig) : Type 0 where
  pub pins : Keeps shares_pin pwm.channels

pub record IsPwm (pwm : PwmConfig) : Type 0 where
  pub tables : HasPwmTables pwm
  pub rules : KeepsPwmRules pwm

-- the module Icu
pub record IsInput (c : IcuChannel) : Type 0 where
  pub id : InRange 0 7 c.id
  pub measured : c.measurement_mode ≡ SignalMeasurement → IsSome c.signal_measurement_property
  pub stamped : c.measurement_mode ≡ Timestamp → IsSome c.timestamp_measurement_property
  pub pin : InRange 0 63 c.pin
  pub level : InRange 1 7 c.level

pub record IsIcu (icu : IcuConfig) : Type 0 where
  pub classification : InRange 1 2 icu.classification
  pub channels : IsTable IsInput input_id 8 icu.channels

-- the module Adc
pub record IsUnit (u : AdcHwUnit) : Type 0 where
  pub id : InRange 0 1 u.id
  pub level : InRange 1 7 u.level

pub record IsGroup (g : AdcGroup) : Type 0 where
  pub id : InRange 0 15 g.id
  pub unit : InRange 0 1 g.unit
  pub definition : IsList 1 32 0 31 g.definition
  pub priority : InRange 0 255 g.priority
  pub streaming_num_samples : InRange 1 64 g.streaming_num_samples
  pub triggered : g.trigger_source ≡ Hardware → IsSome g.trigger_input
  pub trigger_input : IfSome g.trigger_input (InRange 0 3)
  pub level : InRange 1 7 g.level

pub record HasAdcTables (adc : AdcConfig) : Type 0 where
  pub classification : InRange 1 2 adc.classification
  pub units : IsTable IsUnit unit_id 2 adc.units
  pub groups : IsTable IsGroup group_id 16 adc.groups

-- each group's unit is there
abbrev pub ReferToUnits : List AdcHwUnit → List AdcGroup → Type 0
ReferToUnits units groups = All (λ (g : AdcGroup). has_id unit_id units g.unit ≡ true) groups

pub record KeepsAdcRules (adc : AdcConfig) : Type 0 where
  pub hardware : Keeps hardware_continuous adc.groups
  pub triggers : Keeps shares_trigger adc.groups
  pub single : Keeps single_with_samples adc.groups
  pub streaming : Keeps streaming_once adc.groups

pub record IsAdc (adc : AdcConfig) : Type 0 where
  pub tables : HasAdcTables adc
  pub units : ReferToUnits adc.units adc.groups
  pub rules : KeepsAdcRules adc

-- the module Spi
abbrev pub IsChannelType : SpiChannelType → Type 0
IsChannelType (Internal words) = InRange 1 64 words
IsChannelType (External words) = InRange 1 64 words

pub record IsChannel (c : SpiChannel) : Type 0 where
  pub id : InRange 0 15 c.id
  pub channel_type : IsChannelType c.channel_type
  pub data_width : InRange 1 16 c.data_width
  pub default_data : InRange 0 65535 c.default_data

pub record IsJob (j : SpiJob) : Type 0 where
  pub id : InRange 0 15 j.id
  pub priority : InRange 0 3 j.priority
  pub channel_list : IsList 1 4 0 15 j.channel_list
  pub unit : InRange 0 1 j.unit
  pub select : IfSome j.select (InRange 0 7)

pub record IsSequence (s : SpiSequence) : Type 0 where
  pub id : InRange 0 7 s.id
  pub job_assignment : IsList 1 16 0 15 s.job_assignment

pub record HasSpiTables (spi : SpiConfig) : Type 0 where
  pub classification : InRange 1 2 spi.classification
  pub levels : IsList 2 2 1 7 spi.levels
  pub sync_units : IsList 0 2 0 1 spi.sync_units
  pub channels : IsTable IsChannel channel_id 16 spi.channels
  pub jobs : IsTable IsJob job_id 16 spi.jobs
  pub sequences : IsTable IsSequence sequence_id 8 spi.sequences

-- each channel of a job is there, and each job of a sequence
abbrev pub ReferToChannels : List SpiChannel → List SpiJob → Type 0
ReferToChannels channels jobs = All (λ (j : SpiJob). Refer channel_id channels j.channel_list) jobs

abbrev pub ReferToJobs : List SpiJob → List SpiSequence → Type 0
ReferToJobs jobs sequences = All (λ (s : SpiSequence). Refer job_id jobs s.job_assignment) sequences

pub record RefersInSpi (spi : SpiConfig) : Type 0 where
  pub channels : ReferToChannels spi.channels spi.jobs
  pub jobs : ReferToJobs spi.jobs spi.sequences

pub record KeepsSpiRules (spi : SpiConfig) : Type 0 where
  pub channels_once : Keeps names_channel_twice spi.jobs
  pub jobs_once : Keeps names_job_twice spi.sequences
  pub one_unit : Keeps (mixes_units spi.jobs) spi.sequences
  pub shared : Keeps shares_channel spi.jobs

pub record IsSpi (spi : SpiConfig) : Type 0 where
  pub tables : HasSpiTables spi
  pub references : RefersInSpi spi
  pub rules : KeepsSpiRules spi

-- the module Dio
pub record IsPinGroup (g : DioChannelGroup) : Type 0 where
  pub id : InRange 0 7 g.id
  pub port : InRange 0 7 g.port
  pub offset : InRange 0 7 g.offset
  pub mask : InRange 1 255 g.mask

pub record HasDioTables (dio : DioConfig) : Type 0 where
  pub groups : IsTable IsPinGroup pin_group_id 8 dio.groups

-- each group's port is there
abbrev pub ReferToPorts : List PortPin → List DioChannelGroup → Type 0
ReferToPorts pins groups = All (λ (g : DioChannelGroup). has_port pins g.port ≡ true) groups

pub record KeepsDioRules (dio : DioConfig) : Type 0 where
  pub masks : Keeps mask_off_offset dio.groups

pub record IsDio (port : PortConfig) (dio : DioConfig) : Type 0 where
  pub tables : HasDioTables dio
  pub ports : ReferToPorts port.pins dio.groups
  pub rules : KeepsDioRules dio

-- the module Wdg
pub record HasWdgTables (wdg : WdgConfig) : Type 0 where
  pub initial_ticks : InRange 1 65535 wdg.initial_ticks
  pub max_ticks : InRange 1 65535 wdg.max_ticks

pub record IsWdg (wdg : WdgConfig) : Type 0 where
  pub tables : HasWdgTables wdg
  pub initial : initial_above_most wdg ≡ false

-- a configuration that meets the tables
pub record IsValid (c : Config) : Type 0 where
  pub mcu : IsMcu c.mcu
  pub port : IsPort c.port
  pub gpt : IsGpt c.gpt
  pub pwm : IsPwm c.pwm
  pub icu : IsIcu c.icu
  pub adc : IsAdc c.adc
  pub spi : IsSpi c.spi
  pub dio : IsDio c.port c.dio
  pub wdg : IsWdg c.wdg
