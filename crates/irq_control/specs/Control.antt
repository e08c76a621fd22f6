-- The interrupt controller: its enable bits and the mask.
use Rattle.std.specs.Prelude.{ℕ, Bool, false, ◌&&◌, bit_or}
use Rattle.mcal_base.specs.Bits.{has_bit, without}

-- Which lines are enabled, and whether the mask is closed.
pub record Control : Type 0 where
  pub enabled : ℕ
  pub masked : Bool

-- after a reset no line is enabled, and the mask is open
abbrev pub control_fresh : Control
control_fresh = record { enabled = 0; masked = false }

-- a write to IE.SET enables the lines whose bits are ones
abbrev pub enabling : Control → ℕ → Control
enabling c bits = record c { enabled = bit_or c.enabled bits }

-- a write to IE.CLR disables them
abbrev pub disabling : Control → ℕ → Control
disabling c bits = record c { enabled = without c.enabled bits }

-- the mask is closed, or opened
abbrev pub masking : Control → Bool → Control
masking c is_masked = record c { masked = is_masked }

-- a line is pending while its flag and its enable bit are set
abbrev pub is_pending_line : Control → (line flags : ℕ) → Bool
is_pending_line c line flags = has_bit flags line && has_bit c.enabled line
