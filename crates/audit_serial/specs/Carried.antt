-- What is kept of the units.
use Rattle.std.specs.Prelude.{ℕ, Bool, not, ◌&&◌, List, [], ◌∷◌, ◌++◌, Option, slice_index_or}
use Rattle.spi_machine.specs.Machine.{sends_on}
use Rattle.spi_machine.specs.Numbered.{with_item}
use Rattle.spi_machine.specs.Pending.{is_of}
use Rattle.spi_machine.specs.State.{Carrying}
use Rattle.spi_machine.specs.Transfers.{JobWord, Run, is_done, on_wire}
use Rattle.spi_machine.specs.declared.table.SpiTable.{SpiTable}

-- What each runs, what each carries out for a call, and its wire.
pub record UnitsKept : Type 0 where
  pub runs : List (Option Run)
  pub carried : List (Option Carrying)
  pub wires : List (List (ℕ × ℕ))

-- the wires with one more word on a unit
abbrev pub shown_on : List (List (ℕ × ℕ)) → (number received : ℕ) → JobWord → List (List (ℕ × ℕ))
shown_on wires u received x = with_item [] wires u (slice_index_or wires u [] ++ on_wire received x ∷ [])

-- a word of a sequence may go on, and its call may end, by the time
abbrev pub may_go_on_at : SpiTable → (now : ℕ) → Carrying → (sequence : ℕ) → Bool
may_go_on_at d now x q = is_of q x.entry && is_done now x.run.transfer && sends_on d x

abbrev pub may_end_at : SpiTable → (now : ℕ) → Carrying → Bool
may_end_at d now x = is_done now x.run.transfer && not (sends_on d x)
