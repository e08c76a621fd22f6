-- The machine that the program is, with the lines of configured units and groups.
use Rattle.adc_machine.specs.Bounds.{is_used}
use Rattle.adc_machine.specs.Machine.{adc_machine}
use Rattle.adc_machine.specs.Turns.{AdcState}
use Rattle.adc_machine.specs.declared.call.Call.{Call}
use Rattle.adc_machine.specs.declared.table.AdcTable.{AdcTable}
use Rattle.audit_base.specs.Deeds.{Member}

abbrev pub member_of : AdcTable → Member AdcState Call
member_of d = record { machine = adc_machine d; lines = is_used d }
