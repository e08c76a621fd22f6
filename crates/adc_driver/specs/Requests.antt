-- The calls that the requests of a script ask for.
use Rattle.std.specs.Prelude.{Option, Some, None}
use Rattle.mcal_base.specs.declared.directive.Request.{Request}
use Rattle.adc_machine.specs.Requests.{call_of}
use Rattle.adc_machine.specs.declared.call.Call.{Call}
use Rattle.adc_machine.specs.declared.call.Call.TheVariants.{Init}

-- and Init where a request asks for none: nobody makes such a request of this driver
abbrev pub call_or : Option Call → Call
call_or None = Init
call_or (Some call) = call

abbrev pub asked_call : Request → Call
asked_call r = call_or (call_of r)
