-- A configuration that meets the tables is within the limits of the chip, and its timers are sound.
use Rattle.std.proofs.Common.{◌<◌, ◌≤◌, arith}
use Rattle.std.specs.Prelude.{All, length}
use Rattle.mcal_base.specs.Layout.{WithinLimits, words_of}
use Rattle.mcal_base.specs.declared.config.adc.AdcGroup.{AdcGroup}
use Rattle.mcal_base.specs.declared.config.gpt.GptConfig.{GptConfig}
use Rattle.mcal_base.specs.declared.config.icu.IcuChannel.{IcuChannel}
use Rattle.mcal_base.specs.declared.config.spi.SpiChannel.{SpiChannel}
use Rattle.mcal_base.specs.declared.config.spi.SpiChannelType.{SpiChannelType}
use Rattle.mcal_base.specs.declared.config.spi.SpiChannelType.TheVariants.{Internal, External}
use Rattle.mcal_base.specs.declared.config.whole.Config.{Config}
use Rattle.config_facts.specs.Valid.{IsValid, IsGpt, IsInput, IsGroup, IsChannel, IsChannelType}
use Rattle.gpt_driver.specs.Fits.{IsSound}

few_words : (t : SpiChannelType) → IsChannelType t → words_of t ≤ 64
few_words (Internal n) h = h.most
few_words (External n) h = h.most

input_within : (x : IcuChannel) → IsInput x → x.id < 8
input_within x h = omega (arith, h.id.most)

group_within : (g : AdcGroup) → IsGroup g → (g.id < 16) × (length g.definition ≤ 32) × (g.streaming_num_samples ≤ 64)
group_within g h = (omega (arith, h.id.most), h.definition.few, h.streaming_num_samples.most)

channel_within : (x : SpiChannel) → IsChannel x → (x.id < 16) × (words_of x.channel_type ≤ 64)
channel_within x h = (omega (arith, h.id.most), few_words x.channel_type h.channel_type)

pub within_limits : (c : Config) → IsValid c → WithinLimits c
within_limits c h = record {
  clock_settings = h.mcu.tables.clock_settings.few;
  modes = h.mcu.tables.modes.few;
  ram_sections = h.mcu.tables.ram_sections.few;
  pins = h.port.tables.pins.few;
  timers = h.gpt.channels.few;
  pulses = h.pwm.tables.channels.few;
  captures = (h.icu.channels.few, λ k d lt. input_within _ (h.icu.channels.each k d lt));
  units = h.adc.tables.units.few;
  groups = (h.adc.tables.groups.few, λ k d lt. group_within _ (h.adc.tables.groups.each k d lt));
  channels = (h.spi.tables.channels.few, λ k d lt. channel_within _ (h.spi.tables.channels.each k d lt));
  jobs = h.spi.tables.jobs.few;
  sequences = h.spi.tables.sequences.few;
  pin_groups = h.dio.tables.groups.few;
}

pub sound_timers : (g : GptConfig) → IsGpt g → All IsSound g.channels
sound_timers g h = λ k d lt.
    let v = h.channels.each k d lt in
    record { prescaler = omega (arith, v.prescaler.least); small = omega (arith, v.tick_value_max.most) }
