use Rattle.std.proofs.Common.{◌≡◌}
use Rattle.chip_blocks.specs.pulses.Pulses as chip
use Rattle.module_machines.specs.pwm.Machine as machine
use Rattle.audit_modules.proofs.Below.{one_more, one_fails, all_pass}
use Rattle.audit_modules.proofs.outputs.outputs_agree.Goals as goal

pub loop-unit-preserved : goal.loop-unit-preserved
loop-unit-preserved c w e = one_more (λ k. chip.level_at c.args.bus.now.pulses k ≡ machine.level_at c.args.pulses.now.driver w c.args.pulses.now.state k) c.loop-unit.unit c.has_output.result (c.loop-unit.invariant w e) (c.has_output.ensures w e) c.if-not-has_output.false

pub returns-then-not-has_output : goal.returns-then-not-has_output
returns-then-not-has_output c w e = one_fails (λ k. chip.level_at c.args.bus.now.pulses k ≡ machine.level_at c.args.pulses.now.driver w c.args.pulses.now.state k) c.loop-unit.unit 8 c.has_output.result c.loop-unit-test.true (c.has_output.ensures w e) c.if-not-has_output.true

pub returns : goal.returns
returns c w e = all_pass (λ k. chip.level_at c.args.bus.now.pulses k ≡ machine.level_at c.args.pulses.now.driver w c.args.pulses.now.state k) c.loop-unit.unit 8 c.loop-unit-test.false (c.loop-unit.invariant w e)
