use Rattle.std.proofs.Common.{◌≡◌, ℕ, ◌<◌, length}
use Rattle.module_machines.specs.port.Bounds.{PinAgrees}
use Rattle.module_machines.specs.port.Machine.{PortState, pin_at}
use Rattle.audit_clock.specs.PinStands.{StandsFor}
use Rattle.audit_modules.proofs.pins.pins_agree.Given as goal

-- the pins so far are the machine's
abbrev pub invariant-loop-number : goal.invariant-loop-number
invariant-loop-number l = record {
  agree : (s : PortState) → StandsFor l.pins s → (p : ℕ) → p < l.number → PinAgrees l.block p (pin_at s p);
  halves : 0 < l.number → length l.block.latches ≡ 2;
}
