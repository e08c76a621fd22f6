-- How many serial units have a word in transfer.
use Rattle.std.specs.Prelude.{ℕ, ◌+◌, cond, List, slice_index_or}
use Rattle.chip_blocks.specs.units.Serials.{is_busy, idle}
use Rattle.chip_blocks.specs.declared.units.serial.Serial.{Serial}
use Rattle.chip_model.specs.Chip.{Chip}

-- 1 where the unit has one
abbrev pub busy_at : (now : ℕ) → Serial → ℕ
busy_at now s = cond (is_busy s now) 1 0

-- of the two units
abbrev pub busies_of : (now : ℕ) → List Serial → ℕ
busies_of now units = busy_at now (slice_index_or units 0 idle) + busy_at now (slice_index_or units 1 idle)

abbrev pub busies : Chip → ℕ
busies c = busies_of c.serials.time c.serials.units
