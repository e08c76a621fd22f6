-- The calls that the requests of a script ask for.
use Rattle.std.specs.Prelude.{ℕ, Bool, true, false, Option, Some, None, slice_get}
use Rattle.mcal_base.specs.Names.{module_of}
use Rattle.mcal_base.specs.declared.module_name.ModuleName.{ModuleName}
use Rattle.mcal_base.specs.declared.module_name.ModuleName.TheVariants.{Spi}
use Rattle.mcal_base.specs.declared.argument_name.ArgumentName.TheVariants as names
use Rattle.mcal_base.specs.declared.directive.Argument.{Argument}
use Rattle.mcal_base.specs.declared.directive.Argument.TheVariants.{Number, Name}
use Rattle.mcal_base.specs.declared.directive.Request.{Request}
use Rattle.mcal_base.specs.declared.service.Service.{Service}
use Rattle.mcal_base.specs.declared.service.Service.TheVariants as services
use Rattle.spi_machine.specs.declared.call.AsyncMode.{AsyncMode}
use Rattle.spi_machine.specs.declared.call.AsyncMode.TheVariants.{Polling, Interrupt}
use Rattle.spi_machine.specs.declared.call.Call.{Call}
use Rattle.spi_machine.specs.declared.call.Call.TheVariants.{Init, DeInit, SetAsyncMode, MainFunctionHandling, Channel, Sequence, Get}
use Rattle.spi_machine.specs.declared.call.ChannelCall.{ChannelCall}
use Rattle.spi_machine.specs.declared.call.ChannelCall.TheVariants.{WriteIb, ReadIb, SetupEb}
use Rattle.spi_machine.specs.declared.call.Pointer.{Pointer}
use Rattle.spi_machine.specs.declared.call.Pointer.TheVariants.{Users, Null}
use Rattle.spi_machine.specs.declared.call.SequenceCall.{SequenceCall}
use Rattle.spi_machine.specs.declared.call.SequenceCall.TheVariants.{AsyncTransmit, Cancel, SyncTransmit}
use Rattle.spi_machine.specs.declared.call.Query.TheVariants.{Status, JobResult, SequenceResult, HwUnitStatus}

-- a number that is asked with, 0 where there is none
abbrev pub number_of : Option Argument → ℕ
number_of (Some (Number n)) = n
number_of _ = 0

-- a buffer that is asked with: the user's array by its name, and else none
abbrev pub pointer_of : Option Argument → Pointer
pointer_of (Some (Name names.Source)) = Users
pointer_of (Some (Name names.Destination)) = Users
pointer_of _ = Null

-- the mode that is asked for
abbrev pub mode_of : Option Argument → AsyncMode
mode_of (Some (Name names.SpiInterruptMode)) = Interrupt
mode_of _ = Polling

abbrev pub on_channel : Option Argument → ChannelCall → Call
on_channel a call = Channel (number_of a) call

abbrev pub on_sequence : Option Argument → SequenceCall → Call
on_sequence a call = Sequence (number_of a) call

-- the call of a service with its arguments; one of another module has none
abbrev pub call_by : Service → (first second third fourth : Option Argument) → Option Call
call_by services.SpiInit a b c e = Some Init
call_by services.SpiDeInit a b c e = Some DeInit
call_by services.SpiWriteIb a b c e = Some (on_channel a (WriteIb (pointer_of b)))
call_by services.SpiReadIb a b c e = Some (on_channel a ReadIb)
call_by services.SpiSetupEb a b c e = Some (on_channel a (SetupEb (pointer_of b) (pointer_of c) (number_of e)))
call_by services.SpiAsyncTransmit a b c e = Some (on_sequence a AsyncTransmit)
call_by services.SpiCancel a b c e = Some (on_sequence a Cancel)
call_by services.SpiSyncTransmit a b c e = Some (on_sequence a SyncTransmit)
call_by services.SpiGetStatus a b c e = Some (Get Status)
call_by services.SpiGetJobResult a b c e = Some (Get (JobResult (number_of a)))
call_by services.SpiGetSequenceResult a b c e = Some (Get (SequenceResult (number_of a)))
call_by services.SpiGetHwUnitStatus a b c e = Some (Get (HwUnitStatus (number_of a)))
call_by services.SpiSetAsyncMode a b c e = Some (SetAsyncMode (mode_of a))
call_by services.SpiMainFunctionHandling a b c e = Some MainFunctionHandling
call_by _ a b c e = None

abbrev pub call_of : Request → Option Call
call_of r = call_by r.service (slice_get r.arguments 0) (slice_get r.arguments 1) (slice_get r.arguments 2) (slice_get r.arguments 3)

abbrev pub is_spi : ModuleName → Bool
is_spi Spi = true
is_spi _ = false

-- the services that requests may ask for
abbrev pub has_service : Service → Bool
has_service s = is_spi (module_of s)
