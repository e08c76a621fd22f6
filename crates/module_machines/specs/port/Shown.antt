-- The levels of pins, which users see.
use Rattle.std.specs.Prelude.{ℕ, Bool, List, map, Option, is_some}
use Rattle.std.specs.List.{filter, range_with_len}
use Rattle.run_model.specs.World.{World}
use Rattle.module_machines.specs.port.Machine.{PortState, level_at}
use Rattle.module_machines.specs.port.Table.{pin_of}
use Rattle.module_machines.specs.declared.port.table.PortTable.{PortTable}

-- the levels that are shown: of the configured pins by number, with the outputs of the pulse channels that name them
abbrev pub shown_levels : PortTable → World → PortState → (pulses : ℕ → Option Bool) → List (ℕ × Bool)
shown_levels d w s pulses = map (λ p. (p, level_at w s p (pulses p))) (filter (λ p. is_some (pin_of d p)) (range_with_len 0 64))
