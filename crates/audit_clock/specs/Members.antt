-- The machines that the programs are. No object of theirs uses a line.
use Rattle.std.specs.Prelude.{false}
use Rattle.audit_base.specs.Deeds.{Member}
use Rattle.module_machines.specs.mcu.Machine.{McuState, mcu_machine}
use Rattle.module_machines.specs.declared.mcu.call.Call as clock_calls
use Rattle.module_machines.specs.declared.mcu.table.McuTable.{McuTable}
use Rattle.module_machines.specs.port.Machine.{PortState, port_machine}
use Rattle.module_machines.specs.declared.port.call.Call as pin_calls
use Rattle.module_machines.specs.declared.port.table.PortTable.{PortTable}
use Rattle.module_machines.specs.wdg.Machine.{WdgState, wdg_machine}
use Rattle.module_machines.specs.declared.wdg.call.Call as watchdog_calls
use Rattle.module_machines.specs.declared.wdg.table.WdgTable.{WdgTable}

abbrev pub clock_member : McuTable → Member McuState clock_calls.Call
clock_member d = record { machine = mcu_machine d; lines = λ l. false }

abbrev pub pins_member : PortTable → Member PortState pin_calls.Call
pins_member d = record { machine = port_machine d; lines = λ l. false }

abbrev pub watchdog_member : WdgTable → Member WdgState watchdog_calls.Call
watchdog_member d = record { machine = wdg_machine d; lines = λ l. false }
