-- What is asked of a configuration.
use Rattle.std.specs.Prelude.{◌≡◌, ◌≤◌, ℕ, Some}
use Rattle.module_machines.specs.mcu.Table.{section_of}
use Rattle.module_machines.specs.declared.mcu.table.McuTable.{McuTable}
use Rattle.module_machines.specs.declared.mcu.table.Section.{Section}

-- no RAM section has more than 64 words
abbrev pub AreShort : McuTable → Type 0
AreShort d = (n : ℕ) (x : Section) → section_of d n ≡ Some x → x.size ≤ 64
