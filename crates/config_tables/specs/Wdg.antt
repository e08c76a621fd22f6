-- The table of the module Wdg, in the order of the walk.
use Rattle.std.specs.Prelude.{true, Option, Some}
use Rattle.toml.specs.Data.{Members}
use Rattle.config_keys.specs.Checks.{Checks, ◌⨾◌}
use Rattle.config_keys.specs.Kinds.{◌>>=◌, whole, truth, name}
use Rattle.config_keys.specs.Keys.{of_module, allowed, read_or}
use Rattle.config_keys.specs.Names.{wdg_mode_named}
use Rattle.config_tables.specs.rows.Rules.{kept_unless}
use Rattle.config_tables.specs.rows.Modules.{Part, given}
use Rattle.config_keys.specs.declared.fault.Path.{Path}
use Rattle.config_keys.specs.declared.key_name.KeyName.TheVariants as keys
use Rattle.mcal_base.specs.declared.module_name.ModuleName.TheVariants as modules
use Rattle.mcal_base.specs.declared.config.wdg.WdgMode.TheVariants.{Off}
use Rattle.mcal_base.specs.declared.config.wdg.WdgConfig.{WdgConfig}
pub use Rattle.config_facts.specs.Rules.{initial_above_most}

-- the place of the module's table
abbrev pub at : Path
at = of_module modules.Wdg

-- the module, which has no arrays
unfoldable pub key_checks : Members → Checks
key_checks ms =
    allowed at keys.WdgDevErrorDetect truth ms
    ⨾ allowed at keys.WdgDefaultMode (name wdg_mode_named) ms
    ⨾ allowed at keys.WdgDisableAllowed truth ms
    ⨾ allowed at keys.InitialTicks (whole 1 65535) ms
    ⨾ allowed at keys.MaxTicks (whole 1 65535) ms

unfoldable pub value_of : Members → Option WdgConfig
value_of ms = do
  detect ← read_or true keys.WdgDevErrorDetect truth ms
  mode ← read_or Off keys.WdgDefaultMode (name wdg_mode_named) ms
  disable ← read_or true keys.WdgDisableAllowed truth ms
  initial ← read_or 1000 keys.InitialTicks (whole 1 65535) ms
  most ← read_or 65535 keys.MaxTicks (whole 1 65535) ms
  Some (record { dev_error_detect = detect; default_mode = mode; disable_allowed = disable; initial_ticks = initial; max_ticks = most })

-- its rule is one on the whole table
unfoldable pub across : WdgConfig → Checks
across wdg = kept_unless (initial_above_most wdg) 14 at

unfoldable pub checks : Members → Checks
checks ms = key_checks ms ⨾ given (value_of ms) across

abbrev pub part : Part WdgConfig
part = record { name = modules.Wdg; checks = checks; value = value_of }
