-- The machine that the program is, with the lines of configured channels.
use Rattle.std.specs.Prelude.{is_some}
use Rattle.audit_base.specs.Deeds.{Member}
use Rattle.module_machines.specs.icu.Machine.{IcuState, icu_machine}
use Rattle.module_machines.specs.icu.Table.{channel_of_line}
use Rattle.module_machines.specs.declared.icu.call.Call.{Call}
use Rattle.module_machines.specs.declared.icu.table.IcuTable.{IcuTable}

abbrev pub member_of : IcuTable → Member IcuState Call
member_of d = record { machine = icu_machine d; lines = λ l. is_some (channel_of_line d l) }
