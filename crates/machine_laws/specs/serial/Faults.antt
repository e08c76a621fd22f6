-- Faults of serial wires in a history.
use Rattle.std.specs.Prelude.{◌≡◌, ℕ, ◌+◌, ◌<◌, ◌==◌, Bool, true, false, not, List, Contains, Option, Some, None}
use Rattle.mcal_base.specs.declared.directive.Order.TheVariants.{SpiFault}
use Rattle.run_model.specs.Machine.{Happening, Acts, Serves, Starts, Moves, Restarts, Begun}
use Rattle.spi_machine.specs.Machine.{number_of, unit_of}
use Rattle.spi_machine.specs.Promised.{is_init}
use Rattle.spi_machine.specs.Runs.{Occurrence}
use Rattle.spi_machine.specs.State.{Carrying}
use Rattle.spi_machine.specs.Transfers.{Run}
use Rattle.spi_machine.specs.declared.call.Call.{Call}

-- A word that began on a unit at this time is met by a fault of the unit's wire before it is done.
pub record MeetsFault (unit began : ℕ) (history : List Occurrence) : Type 0 where
  pub fault : Occurrence
  pub among : Contains history fault
  pub is : fault.what ≡ Moves (SpiFault unit)
  pub soon : fault.world.now < began + 8

-- the job that a unit runs for a call of Spi_SyncTransmit
abbrev pub run_carried : Option Carrying → Option Run
run_carried None = None
run_carried (Some x) = Some x.run

-- the word begins on this unit
abbrev pub begins_on : (unit : ℕ) → Option Begun → Bool
begins_on u None = false
begins_on u (Some b) = b.unit == u

abbrev pub is_unit : (unit : ℕ) → Option ℕ → Bool
is_unit u None = false
is_unit u (Some k) = k == u

-- the happening neither takes a unit's word nor begins one there, and is no initialisation and no reset
abbrev pub leaves_word : (unit : ℕ) → Happening Call → Bool
leaves_word u (Acts call times) = not (is_init call)
leaves_word u (Serves line received) = not (is_unit u (unit_of line))
leaves_word u (Starts unit made_by received) = not (is_unit u (number_of unit))
leaves_word u (Restarts reason) = false
leaves_word u _ = true
