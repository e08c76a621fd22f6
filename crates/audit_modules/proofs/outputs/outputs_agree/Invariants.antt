use Rattle.std.proofs.Common.{◌≡◌, ℕ, ◌<◌}
use Rattle.chip_blocks.specs.pulses.Pulses as chip
use Rattle.module_machines.specs.pwm.Machine as machine
use Rattle.run_model.specs.World.{World}
use Rattle.audit_modules.proofs.outputs.outputs_agree.Given as goal

-- the outputs of the units so far are the machine's
abbrev pub invariant-loop-unit : goal.invariant-loop-unit
invariant-loop-unit l = (w : World) → w.now ≡ l.now → (k : ℕ) → k < l.unit → chip.level_at l.bus.pulses k ≡ machine.level_at l.pulses.driver w l.pulses.state k
