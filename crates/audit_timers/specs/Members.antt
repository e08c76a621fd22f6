-- The machine that the program is, with the lines of configured channels.
use Rattle.std.specs.Prelude.{is_some}
use Rattle.audit_base.specs.Deeds.{Member}
use Rattle.module_machines.specs.gpt.Machine.{GptState, gpt_machine}
use Rattle.module_machines.specs.gpt.Table.{channel_of}
use Rattle.module_machines.specs.declared.gpt.call.Call.{Call}
use Rattle.module_machines.specs.declared.gpt.table.GptTable.{GptTable}

abbrev pub member_of : GptTable → Member GptState Call
member_of d = record { machine = gpt_machine d; lines = λ l. is_some (channel_of d l) }
