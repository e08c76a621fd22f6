-- The rules on the elements of arrays: whether an element breaks one, after those before it.
use Rattle.std.specs.Prelude.{ℕ, ◌+◌, ◌/◌, ◌==◌, nat_lt, ◌&&◌, ◌||◌, Bool, true, false, not, List, [], ◌∷◌, Option, Some}
use Rattle.std.specs.Int.{trailing_zeros, w32}
use Rattle.std.specs.List.{list_any}
use Rattle.config_facts.specs.Ids.{same_id}
use Rattle.mcal_base.specs.declared.config.mcu.McuRamSection.{McuRamSection}
use Rattle.mcal_base.specs.declared.config.port.PortPinMode.{PortPinMode}
use Rattle.mcal_base.specs.declared.config.port.PortPinMode.TheVariants.{Adc, Dio, Icu, Pwm, Spi}
use Rattle.mcal_base.specs.declared.config.port.PortPin.{PortPin}
use Rattle.mcal_base.specs.declared.config.pwm.PwmChannel.{PwmChannel}
use Rattle.mcal_base.specs.declared.config.adc.AdcAccessMode.{AdcAccessMode}
use Rattle.mcal_base.specs.declared.config.adc.AdcAccessMode.TheVariants.{Single, Streaming}
use Rattle.mcal_base.specs.declared.config.adc.AdcConversionMode.{AdcConversionMode}
use Rattle.mcal_base.specs.declared.config.adc.AdcConversionMode.TheVariants.{OneShot, Continuous}
use Rattle.mcal_base.specs.declared.config.adc.AdcTriggerSource.{AdcTriggerSource}
use Rattle.mcal_base.specs.declared.config.adc.AdcTriggerSource.TheVariants.{Hardware}
use Rattle.mcal_base.specs.declared.config.adc.AdcGroup.{AdcGroup}
use Rattle.mcal_base.specs.declared.config.dio.DioChannelGroup.{DioChannelGroup}
use Rattle.mcal_base.specs.declared.config.spi.SpiJob.{SpiJob}
use Rattle.mcal_base.specs.declared.config.spi.SpiSequence.{SpiSequence}
use Rattle.mcal_base.specs.declared.config.wdg.WdgConfig.{WdgConfig}

-- rule 1: a RAM section ends past word 512
abbrev pub ends_past : List McuRamSection → McuRamSection → Bool
ends_past earlier s = nat_lt 512 (s.base_address + s.size)

-- rule 2: a RAM section overlaps an earlier one
abbrev pub overlaps : List McuRamSection → McuRamSection → Bool
overlaps earlier s = list_any (λ (e : McuRamSection). nat_lt e.base_address (s.base_address + s.size) && nat_lt s.base_address (e.base_address + e.size)) earlier

-- whether two modes are one
abbrev pub same_mode : PortPinMode → PortPinMode → Bool
same_mode Adc Adc = true
same_mode Dio Dio = true
same_mode Icu Icu = true
same_mode Pwm Pwm = true
same_mode Spi Spi = true
same_mode _ _ = false

-- rule 3: a pin's initial mode isn't among its modes
abbrev pub initial_not_allowed : List PortPin → PortPin → Bool
initial_not_allowed earlier p = not (list_any (λ (m : PortPinMode). same_mode m p.initial_mode) p.modes)

-- rule 4: two channels name one pin
abbrev pub shares_pin : List PwmChannel → PwmChannel → Bool
shares_pin earlier c = list_any (λ (e : PwmChannel). same_id e.pin c.pin) earlier

-- whether a trigger source is there, and is a hardware one
abbrev pub is_hardware : Option AdcTriggerSource → Bool
is_hardware (Some Hardware) = true
is_hardware _ = false

-- what a group is
abbrev pub is_continuous : AdcConversionMode → Bool
is_continuous Continuous = true
is_continuous OneShot = false

abbrev pub is_single : AdcAccessMode → Bool
is_single Single = true
is_single Streaming = false

abbrev pub is_triggered_by : AdcGroup → Option ℕ → Bool
is_triggered_by g input = is_hardware (Some g.trigger_source) && same_id g.trigger_input input

-- rule 5: a hardware-triggered group is continuous
abbrev pub hardware_continuous : List AdcGroup → AdcGroup → Bool
hardware_continuous earlier g = is_hardware (Some g.trigger_source) && is_continuous g.conversion_mode

-- rule 6: two hardware-triggered groups name one trigger input
abbrev pub shares_trigger : List AdcGroup → AdcGroup → Bool
shares_trigger earlier g = is_hardware (Some g.trigger_source) && list_any (λ (e : AdcGroup). is_triggered_by e g.trigger_input) earlier

-- rule 7: a single-access group has more than one sample
abbrev pub single_with_samples : List AdcGroup → AdcGroup → Bool
single_with_samples earlier g = is_single g.access_mode && nat_lt 1 g.streaming_num_samples

-- rule 8: a streaming software group is one-shot
abbrev pub streaming_once : List AdcGroup → AdcGroup → Bool
streaming_once earlier g = not (is_single g.access_mode) && not (is_hardware (Some g.trigger_source)) && not (is_continuous g.conversion_mode)

-- an id is among these
abbrev pub is_among : ℕ → List ℕ → Bool
is_among n ids = list_any (λ m. m == n) ids

-- an id stands twice
abbrev pub repeats : List ℕ → Bool
repeats [] = false
repeats (n ∷ ns) = is_among n ns || repeats ns

-- rule 9: a job names a channel twice
abbrev pub names_channel_twice : List SpiJob → SpiJob → Bool
names_channel_twice earlier j = repeats j.channel_list

-- rule 10: a sequence names a job twice
abbrev pub names_job_twice : List SpiSequence → SpiSequence → Bool
names_job_twice earlier s = repeats s.job_assignment

-- rule 11: the jobs of a sequence have different units
abbrev pub has_other_unit : List ℕ → ℕ → List SpiJob → Bool
has_other_unit ids unit jobs = list_any (λ (k : SpiJob). is_among k.id ids && not (k.unit == unit)) jobs

abbrev pub mixes_units : List SpiJob → List SpiSequence → SpiSequence → Bool
mixes_units jobs earlier s = list_any (λ (j : SpiJob). is_among j.id s.job_assignment && has_other_unit s.job_assignment j.unit jobs) jobs

-- rule 12: two jobs that share a channel have different units
abbrev pub share_channel : List ℕ → List ℕ → Bool
share_channel one other = list_any (λ n. is_among n other) one

abbrev pub shares_channel : List SpiJob → SpiJob → Bool
shares_channel earlier j = list_any (λ (e : SpiJob). not (e.unit == j.unit) && share_channel e.channel_list j.channel_list) earlier

-- a port is there where one of its eight pins is
abbrev pub has_port : List PortPin → ℕ → Bool
has_port pins q = list_any (λ (p : PortPin). p.id / 8 == q) pins

-- rule 13: the lowest one of a group's mask isn't at its offset
abbrev pub mask_off_offset : List DioChannelGroup → DioChannelGroup → Bool
mask_off_offset earlier g = not (trailing_zeros w32 g.mask == g.offset)

-- rule 14: the watchdog's first timeout is above its largest
abbrev pub initial_above_most : WdgConfig → Bool
initial_above_most g = nat_lt g.max_ticks g.initial_ticks
