-- How what the program keeps stands for the machine of clock, RAM and resets, which keeps what was filled.
use Rattle.std.specs.Prelude.{◌≡◌, ℕ, ◌<◌, ◌&&◌, not, nat_lt, List, Bool, Option, slice_index_or}
use Rattle.mcal_base.specs.declared.directive.Reason.{Reason}
use Rattle.module_machines.specs.mcu.Machine as machine
use Rattle.module_machines.specs.mcu.Machine.{McuState, ram_at}
use Rattle.module_machines.specs.declared.mcu.table.McuTable.{McuTable}
use Rattle.audit_clock.specs.declared.clock.Pll as code

-- What is kept: the table, the module's state, and each RAM word as it is.
pub record ClockKept : Type 0 where
  pub driver : McuTable
  pub initialised : Bool
  pub rate : ℕ
  pub pll : Option machine.Pll
  pub reason : Reason
  pub mode : Option ℕ
  pub ram : List ℕ

-- It stands for a state of the machine.
pub record StandsFor (kept : ClockKept) (s : McuState) : Type 0 where
  pub initialised : kept.initialised ≡ s.initialised
  pub rate : kept.rate ≡ s.rate
  pub pll : kept.pll ≡ s.pll
  pub reason : kept.reason ≡ s.reason
  pub mode : kept.mode ≡ s.mode
  pub ram : (k : ℕ) → k < 512 → slice_index_or kept.ram k 0 ≡ ram_at s k

-- a PLL that was started
abbrev pub pll_of : code.Pll → machine.Pll
pll_of p = record { multiplier = p.multiplier; started = p.started }

-- the place is one from the first on and before the second
abbrev pub is_between : (start end : ℕ) → ℕ → Bool
is_between start end k = not (nat_lt k start) && nat_lt k end
