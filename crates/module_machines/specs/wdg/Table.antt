-- What the driver keeps of a configuration.
use Rattle.std.specs.Prelude.{◌<◌, Bool, true}
use Rattle.mcal_base.specs.declared.config.wdg.WdgConfig.{WdgConfig}
use Rattle.mcal_base.specs.declared.config.wdg.WdgMode.{WdgMode}
use Rattle.mcal_base.specs.declared.config.wdg.WdgMode.TheVariants.{Off, Slow, Fast}
use Rattle.module_machines.specs.wdg.Numbers.{narrow}
use Rattle.module_machines.specs.declared.wdg.table.WdgTable.{WdgTable}

-- what is kept of a configuration
abbrev pub table_of : WdgConfig → WdgTable
table_of g = record {
  detect = g.dev_error_detect;
  initial = record { mode = g.default_mode; timeout = narrow g.initial_ticks };
  disable_allowed = g.disable_allowed;
  max_ticks = narrow g.max_ticks;
}

-- the mode may be set: each but the off mode, and that one where the configuration allows it
abbrev pub allows : WdgTable → WdgMode → Bool
allows d Off = d.disable_allowed
allows d Slow = true
allows d Fast = true

-- what the driver has to be: timeouts have 16 bits
pub record FitsWdg (d : WdgTable) : Type 0 where
  pub initial : d.initial.timeout < 65536
  pub most : d.max_ticks < 65536
