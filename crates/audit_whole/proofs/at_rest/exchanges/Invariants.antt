use Rattle.std.proofs.Common.{◌≡◌, take}
use Rattle.shown_rows.specs.Wires.{pairs}
use Rattle.spi_machine.specs.State.{wire_at}
use Rattle.audit_serial.specs.Stands.{state_of}
use Rattle.audit_whole.proofs.at_rest.exchanges.Given as goal

abbrev pub invariant-loop-place : goal.invariant-loop-place
invariant-loop-place l = pairs l.words.items ≡ take l.place (wire_at (state_of l.serials) l.unit)
