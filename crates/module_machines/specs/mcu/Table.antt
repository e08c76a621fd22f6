-- The configured clock settings, modes and RAM sections.
use Rattle.std.specs.Prelude.{◌≡◌, ◌≢◌, ◌≤◌, ◌<◌, true, ℕ, ◌+◌, ◌==◌, nat_lt, Bool, false, ◌&&◌, ◌||◌, not, if◌then◌else◌, List, [], ◌∷◌, Option, Some, None, slice_get, slice_index_or}
use Rattle.mcal_base.specs.declared.config.mcu.McuClockSetting.{McuClockSetting}
use Rattle.mcal_base.specs.declared.config.mcu.McuModeSetting.{McuModeSetting}
use Rattle.mcal_base.specs.declared.config.mcu.McuRamSection.{McuRamSection}
use Rattle.mcal_base.specs.declared.config.mcu.McuConfig.{McuConfig}
use Rattle.module_machines.specs.declared.mcu.table.McuTable.{McuTable}
use Rattle.module_machines.specs.declared.mcu.table.Section.{Section}

-- the multiplier of the first clock setting with this number
abbrev pub multiplier_in : List McuClockSetting → ℕ → Option ℕ
multiplier_in [] n = None
multiplier_in (x ∷ xs) n = if x.id == n then Some x.multiplier else multiplier_in xs n

-- a mode of this number is configured
abbrev pub has_mode_in : List McuModeSetting → ℕ → Bool
has_mode_in [] m = false
has_mode_in (x ∷ xs) m = x.mode == m || has_mode_in xs m

-- what the driver keeps of a RAM section
abbrev pub taken : McuRamSection → Section
taken x = record { base = x.base_address; size = x.size; default_value = x.default_value }

abbrev pub taken_if : Option McuRamSection → Option Section
taken_if None = None
taken_if (Some x) = Some (taken x)

-- the section at this place, which is its number
abbrev pub section_in : List McuRamSection → ℕ → Option Section
section_in xs n = taken_if (slice_get xs n)

-- what is kept of a configuration
abbrev pub table_of : McuConfig → McuTable
table_of g = record {
  detect = g.dev_error_detect;
  multipliers = multiplier_in g.clock_settings 0 ∷ multiplier_in g.clock_settings 1 ∷ multiplier_in g.clock_settings 2 ∷ multiplier_in g.clock_settings 3 ∷ multiplier_in g.clock_settings 4 ∷ multiplier_in g.clock_settings 5 ∷ multiplier_in g.clock_settings 6 ∷ multiplier_in g.clock_settings 7 ∷ [];
  modes = has_mode_in g.modes 0 ∷ has_mode_in g.modes 1 ∷ has_mode_in g.modes 2 ∷ has_mode_in g.modes 3 ∷ has_mode_in g.modes 4 ∷ has_mode_in g.modes 5 ∷ has_mode_in g.modes 6 ∷ has_mode_in g.modes 7 ∷ [];
  sections = section_in g.ram_sections 0 ∷ section_in g.ram_sections 1 ∷ section_in g.ram_sections 2 ∷ section_in g.ram_sections 3 ∷ section_in g.ram_sections 4 ∷ section_in g.ram_sections 5 ∷ section_in g.ram_sections 6 ∷ section_in g.ram_sections 7 ∷ [];
}

-- the multiplier of a clock setting, where it is configured
abbrev pub multiplier_of : McuTable → ℕ → Option ℕ
multiplier_of d n = if nat_lt n 8 then slice_index_or d.multipliers n None else None

-- the mode is configured
abbrev pub has_mode : McuTable → ℕ → Bool
has_mode d m = nat_lt m 8 && slice_index_or d.modes m false

-- the RAM section of a number, where it is configured
abbrev pub section_of : McuTable → ℕ → Option Section
section_of d n = if nat_lt n 8 then slice_index_or d.sections n None else None

-- the word is one of the section
abbrev pub is_within : Section → ℕ → Bool
is_within x k = not (nat_lt k x.base) && nat_lt k (x.base + x.size)

-- what the configuration has to be: multipliers are from 1 to 16, and sections lie within RAM and apart, have at most 64 words, and fill them with a byte
pub record FitsMcu (d : McuTable) : Type 0 where
  pub multiplier : (n k : ℕ) → multiplier_of d n ≡ Some k → (0 < k) × (k ≤ 16)
  pub inside : (n : ℕ) (x : Section) → section_of d n ≡ Some x → x.base + x.size ≤ 512
  pub few : (n : ℕ) (x : Section) → section_of d n ≡ Some x → x.size ≤ 64
  pub small : (n : ℕ) (x : Section) → section_of d n ≡ Some x → x.default_value < 256
  pub apart : (m n k : ℕ) (x y : Section) → section_of d m ≡ Some x → section_of d n ≡ Some y → m ≢ n → is_within x k ≡ true → is_within y k ≡ false
