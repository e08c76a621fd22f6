-- Runs of the machine: several happenings, each with the outside at its time.
use Rattle.std.specs.Prelude.{List, [], ◌∷◌}
use Rattle.run_model.specs.World.{World}
use Rattle.run_model.specs.Machine.{Happening}
use Rattle.run_model.specs.Frame.{state_by}
use Rattle.spi_machine.specs.Machine.{spi_machine}
use Rattle.spi_machine.specs.State.{SpiState}
use Rattle.spi_machine.specs.declared.call.Call.{Call}
use Rattle.spi_machine.specs.declared.table.SpiTable.{SpiTable}

-- the state after a happening; one that isn't allowed changes nothing
abbrev pub state_after : SpiTable → World → SpiState → Happening Call → SpiState
state_after d w s h = state_by s ((spi_machine d).happens w s h)

-- a happening, with the outside at its time
pub record Occurrence : Type 0 where
  pub world : World
  pub what : Happening Call

-- the state after several
abbrev pub after_all : SpiTable → SpiState → List Occurrence → SpiState
after_all d s [] = s
after_all d s (x ∷ xs) = after_all d (state_after d x.world s x.what) xs
