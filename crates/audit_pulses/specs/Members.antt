-- The machine that the program is, with the lines of configured channels.
use Rattle.std.specs.Prelude.{is_some}
use Rattle.audit_base.specs.Deeds.{Member}
use Rattle.module_machines.specs.pwm.Machine.{PwmState, pwm_machine}
use Rattle.module_machines.specs.pwm.Table.{channel_of_line}
use Rattle.module_machines.specs.declared.pwm.call.Call.{Call}
use Rattle.module_machines.specs.declared.pwm.table.PwmTable.{PwmTable}

abbrev pub member_of : PwmTable → Member PwmState Call
member_of d = record { machine = pwm_machine d; lines = λ l. is_some (channel_of_line d l) }
