-- The words of RAM sections, which users see.
use Rattle.std.specs.Prelude.{ℕ, List, [], map, Option, Some, None, is_some}
use Rattle.std.specs.List.{filter, range_with_len}
use Rattle.module_machines.specs.mcu.Machine.{McuState, ram_at}
use Rattle.module_machines.specs.mcu.Table.{section_of}
use Rattle.module_machines.specs.declared.mcu.table.McuTable.{McuTable}
use Rattle.module_machines.specs.declared.mcu.table.Section.{Section}

-- the words of a section, in their order
abbrev pub section_words : Option Section → McuState → List ℕ
section_words None s = []
section_words (Some x) s = map (ram_at s) (range_with_len x.base x.size)

-- the words that are shown: of the configured sections by number
abbrev pub shown_words : McuTable → McuState → List (ℕ × List ℕ)
shown_words d s = map (λ n. (n, section_words (section_of d n) s)) (filter (λ n. is_some (section_of d n)) (range_with_len 0 8))
