-- What the program of the watchdog keeps.
use Rattle.module_machines.specs.wdg.Machine.{WdgState}
use Rattle.module_machines.specs.declared.wdg.table.WdgTable.{WdgTable}

-- The watchdog's machine under a configuration.
pub record WatchdogKept : Type 0 where
  pub driver : WdgTable
  pub state : WdgState
