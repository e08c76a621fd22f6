use Rattle.std.proofs.Common.{◌≡◌, slice_index}
use Rattle.module_machines.specs.mcu.Machine.{ram_at}
use Rattle.audit_modules.proofs.Below.{one_more, one_fails, all_pass}
use Rattle.audit_modules.proofs.ram.ram_agrees.Goals as goal

pub loop-number-preserved : goal.loop-number-preserved
loop-number-preserved c s h = one_more (λ k. slice_index c.args.bus.now.ram k ≡ ram_at s k) c.loop-number.number c.has_word.result (c.loop-number.invariant s h) (c.has_word.ensures s h) c.if-not-has_word.false

pub returns-then-not-has_word : goal.returns-then-not-has_word
returns-then-not-has_word c s h = one_fails (λ k. slice_index c.args.bus.now.ram k ≡ ram_at s k) c.loop-number.number 512 c.has_word.result c.loop-number-test.true (c.has_word.ensures s h) c.if-not-has_word.true

pub returns : goal.returns
returns c s h = all_pass (λ k. slice_index c.args.bus.now.ram k ≡ ram_at s k) c.loop-number.number 512 c.loop-number-test.false (c.loop-number.invariant s h)
