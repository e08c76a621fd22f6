-- The board of generated scripts: one timer, and one converter unit with one group. All else is as where a configuration doesn't name it.
use Rattle.std.specs.Prelude.{[], ◌∷◌, true, false, None}
use Rattle.mcal_base.specs.declared.config.adc.AdcAccessMode.TheVariants.{Single}
use Rattle.mcal_base.specs.declared.config.adc.AdcConfig.{AdcConfig}
use Rattle.mcal_base.specs.declared.config.adc.AdcConversionMode.TheVariants.{OneShot}
use Rattle.mcal_base.specs.declared.config.adc.AdcGroup.{AdcGroup}
use Rattle.mcal_base.specs.declared.config.adc.AdcGroupReplacement.TheVariants.{AbortRestart}
use Rattle.mcal_base.specs.declared.config.adc.AdcHwUnit.{AdcHwUnit}
use Rattle.mcal_base.specs.declared.config.adc.AdcPriorityImplementation.TheVariants as priorities
use Rattle.mcal_base.specs.declared.config.adc.AdcStreamBufferMode.TheVariants.{Linear}
use Rattle.mcal_base.specs.declared.config.adc.AdcTriggerSource.TheVariants.{Software}
use Rattle.mcal_base.specs.declared.config.gpt.GptChannel.{GptChannel}
use Rattle.mcal_base.specs.declared.config.gpt.GptChannelMode.TheVariants.{Continuous}
use Rattle.mcal_base.specs.declared.config.gpt.GptConfig.{GptConfig}
use Rattle.mcal_base.specs.declared.config.mcu.McuConfig.{McuConfig}
use Rattle.mcal_base.specs.declared.config.spi.SpiConfig.{SpiConfig}
use Rattle.mcal_base.specs.declared.config.wdg.WdgMode.TheVariants.{Off}
use Rattle.mcal_base.specs.declared.config.wdg.WdgConfig.{WdgConfig}
use Rattle.mcal_base.specs.declared.config.whole.Config.{Config}

-- timer 0: continuous, with a notification
abbrev pub the_timer : GptChannel
the_timer = record { id = 0; mode = Continuous; tick_value_max = 4294967295; enable_wakeup = false; notification = true; prescaler = 1; level = 1 }

abbrev pub timers : GptConfig
timers = record { dev_error_detect = true; classification = 1; channels = the_timer ∷ [] }

-- unit 0
abbrev pub the_unit : AdcHwUnit
the_unit = record { id = 0; level = 1 }

-- group 0 of unit 0: input 0 alone, single access, one-shot, started by software, with a notification
abbrev pub the_group : AdcGroup
the_group = record {
  id = 0;
  unit = 0;
  definition = 0 ∷ [];
  access_mode = Single;
  conversion_mode = OneShot;
  priority = 0;
  replacement = AbortRestart;
  trigger_source = Software;
  streaming_buffer_mode = Linear;
  streaming_num_samples = 1;
  notification = true;
  trigger_input = None;
  level = 1;
}

abbrev pub converters : AdcConfig
converters = record { dev_error_detect = true; classification = 1; priority_implementation = priorities.None; enable_queuing = false; units = the_unit ∷ []; groups = the_group ∷ [] }

-- no clock setting, mode or RAM section
abbrev pub no_clock : McuConfig
no_clock = record { dev_error_detect = true; clock_settings = []; modes = []; ram_sections = [] }

-- no channel, job or sequence; the lines of both units at level 1
abbrev pub no_serial : SpiConfig
no_serial = record { dev_error_detect = true; classification = 1; levels = 1 ∷ 1 ∷ []; sync_units = []; channels = []; jobs = []; sequences = [] }

-- the watchdog with its defaults, off
abbrev pub watchdog_off : WdgConfig
watchdog_off = record { dev_error_detect = true; default_mode = Off; disable_allowed = true; initial_ticks = 1000; max_ticks = 65535 }

unfoldable pub board : Config
board = record {
  mcu = no_clock;
  port = record { dev_error_detect = true; pins = [] };
  gpt = timers;
  pwm = record { dev_error_detect = true; channels = [] };
  icu = record { dev_error_detect = true; classification = 1; channels = [] };
  adc = converters;
  spi = no_serial;
  dio = record { dev_error_detect = true; groups = [] };
  wdg = watchdog_off;
}
