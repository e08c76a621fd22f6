use Rattle.std.proofs.Common.{◌≡◌, ℕ, ◌<◌, slice_index}
use Rattle.module_machines.specs.mcu.Machine.{McuState, ram_at}
use Rattle.audit_clock.specs.ClockStands.{StandsFor}
use Rattle.audit_modules.proofs.ram.ram_agrees.Given as goal

-- the words so far are the machine's
abbrev pub invariant-loop-number : goal.invariant-loop-number
invariant-loop-number l = (s : McuState) → StandsFor l.clock s → (k : ℕ) → k < l.number → slice_index l.bus.ram k ≡ ram_at s k
