-- The configuration that a text is.
use Rattle.std.specs.Prelude.{ℕ, List, [], ◌∷◌, Bool, true, false, Option, Some, None, if◌then◌else◌}
use Rattle.std.specs.Str.{is_utf8}
use Rattle.toml.specs.Data.{Members, no_members, member}
use Rattle.toml.specs.Parse.{parse_document}
use Rattle.config_keys.specs.Checks.{Checks, passes, fails, ◌⨾◌, first}
use Rattle.config_keys.specs.Kinds.{◌>>=◌}
use Rattle.config_tables.specs.rows.Modules.{module_checks, module_value, given}
use Rattle.config_keys.specs.declared.fault.ConfigFault.{ConfigFault}
use Rattle.config_keys.specs.declared.fault.ConfigFault.TheVariants.{NotToml}
use Rattle.mcal_base.specs.declared.config.gpt.GptChannelMode.TheVariants.{OneShot}
use Rattle.mcal_base.specs.declared.config.adc.AdcPriorityImplementation.TheVariants as priorities
use Rattle.mcal_base.specs.declared.config.mcu.McuConfig.{McuConfig}
use Rattle.mcal_base.specs.declared.config.gpt.GptConfig.{GptConfig}
use Rattle.mcal_base.specs.declared.config.adc.AdcConfig.{AdcConfig}
use Rattle.mcal_base.specs.declared.config.spi.SpiConfig.{SpiConfig}
use Rattle.mcal_base.specs.declared.config.wdg.WdgMode.TheVariants.{Off}
use Rattle.mcal_base.specs.declared.config.wdg.WdgConfig.{WdgConfig}
use Rattle.mcal_base.specs.declared.config.whole.Config.{Config}
use Rattle.config_tables.specs.Mcu as mcu_table
use Rattle.config_tables.specs.Port as port_table
use Rattle.config_tables.specs.Gpt as gpt_table
use Rattle.config_tables.specs.Pwm as pwm_table
use Rattle.config_tables.specs.Icu as icu_table
use Rattle.config_tables.specs.Adc as adc_table
use Rattle.config_tables.specs.Spi as spi_table
use Rattle.config_tables.specs.Dio as dio_table
use Rattle.config_tables.specs.Wdg as wdg_table

-- the tree of a text, where it is TOML
abbrev pub tree_of : List ℕ → Option Members
tree_of text = if is_utf8 text then parse_document text else None

-- no key at all
abbrev pub is_bare : Members → Bool
is_bare no_members = true
is_bare (member k d ms) = false

-- the board of a tree without keys: one timer channel
abbrev pub one_timer : GptConfig
one_timer = record { dev_error_detect = true; classification = 1; channels = record { id = 0; mode = OneShot; tick_value_max = 4294967295; enable_wakeup = false; notification = false; prescaler = 1; level = 1 } ∷ [] }

abbrev pub no_clock : McuConfig
no_clock = record { dev_error_detect = true; clock_settings = []; modes = []; ram_sections = [] }

abbrev pub no_converter : AdcConfig
no_converter = record { dev_error_detect = true; classification = 1; priority_implementation = priorities.None; enable_queuing = false; units = []; groups = [] }

abbrev pub no_serial : SpiConfig
no_serial = record { dev_error_detect = true; classification = 1; levels = 1 ∷ 1 ∷ []; sync_units = []; channels = []; jobs = []; sequences = [] }

abbrev pub watchdog_off : WdgConfig
watchdog_off = record { dev_error_detect = true; default_mode = Off; disable_allowed = true; initial_ticks = 1000; max_ticks = 65535 }

unfoldable pub default_board : Config
default_board = record {
  mcu = no_clock;
  port = record { dev_error_detect = true; pins = [] };
  gpt = one_timer;
  pwm = record { dev_error_detect = true; channels = [] };
  icu = record { dev_error_detect = true; classification = 1; channels = [] };
  adc = no_converter;
  spi = no_serial;
  dio = record { dev_error_detect = true; groups = [] };
  wdg = watchdog_off;
}

-- the modules, in the order of the walk; what Dio refers to is the pins' of Port
unfoldable pub modules_checks : Members → Checks
modules_checks ms =
    module_checks mcu_table.part ms
    ⨾ module_checks port_table.part ms
    ⨾ module_checks gpt_table.part ms
    ⨾ module_checks pwm_table.part ms
    ⨾ module_checks icu_table.part ms
    ⨾ module_checks adc_table.part ms
    ⨾ module_checks spi_table.part ms
    ⨾ module_checks dio_table.part ms
    ⨾ given (module_value port_table.part ms) (λ port. given (module_value dio_table.part ms) (dio_table.across port))
    ⨾ module_checks wdg_table.part ms

unfoldable pub modules_value : Members → Option Config
modules_value ms = do
  mcu ← module_value mcu_table.part ms
  port ← module_value port_table.part ms
  gpt ← module_value gpt_table.part ms
  pwm ← module_value pwm_table.part ms
  icu ← module_value icu_table.part ms
  adc ← module_value adc_table.part ms
  spi ← module_value spi_table.part ms
  dio ← module_value dio_table.part ms
  wdg ← module_value wdg_table.part ms
  Some (record { mcu = mcu; port = port; gpt = gpt; pwm = pwm; icu = icu; adc = adc; spi = spi; dio = dio; wdg = wdg })

-- a tree: the default board where it is bare, and else the modules
abbrev pub tree_checks : Members → Checks
tree_checks ms = if is_bare ms then passes else modules_checks ms

abbrev pub tree_value : Members → Option Config
tree_value ms = if is_bare ms then Some default_board else modules_value ms

-- all checks of a text, and its record
abbrev pub config_checks : Option Members → Checks
config_checks None = fails NotToml
config_checks (Some ms) = tree_checks ms

abbrev pub config_of : Option Members → Option Config
config_of tree = tree >>= tree_value

-- the fault of a text, if it has one, and else its record
abbrev pub fault_of : List ℕ → Option ConfigFault
fault_of text = first (config_checks (tree_of text))

abbrev pub record_of : List ℕ → Option Config
record_of text = config_of (tree_of text)
