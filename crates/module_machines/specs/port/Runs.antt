-- Runs of the machine: what comes of a happening, and of several.
use Rattle.std.specs.Prelude.{Bool, true, false, List, [], ◌∷◌}
use Rattle.run_model.specs.World.{World}
use Rattle.run_model.specs.Machine.{Happening, Acts, Restarts}
use Rattle.run_model.specs.Frame.{state_by}
use Rattle.module_machines.specs.port.Machine.{PortState, port_machine}
use Rattle.module_machines.specs.declared.port.call.Call.{Call}
use Rattle.module_machines.specs.declared.port.call.Call.TheVariants.{Init}
use Rattle.module_machines.specs.declared.port.table.PortTable.{PortTable}

-- the state after a happening
abbrev pub state_after : PortTable → World → PortState → Happening Call → PortState
state_after d w s h = state_by s ((port_machine d).happens w s h)

-- a happening, with the outside at its time
pub record Occurrence : Type 0 where
  pub world : World
  pub what : Happening Call

-- the state after several
abbrev pub after_all : PortTable → PortState → List Occurrence → PortState
after_all d s [] = s
after_all d s (x ∷ xs) = after_all d (state_after d x.world s x.what) xs

-- neither `Port_Init` nor a reset
abbrev pub leaves_latches : Happening Call → Bool
leaves_latches (Acts Init times) = false
leaves_latches (Restarts reason) = false
leaves_latches _ = true

-- `Port_Init`
abbrev pub is_init : Call → Bool
is_init Init = true
is_init _ = false
