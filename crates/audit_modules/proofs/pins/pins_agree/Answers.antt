use Rattle.std.proofs.Common.{arith}
use Rattle.module_machines.specs.port.Bounds.{PinAgrees}
use Rattle.module_machines.specs.port.Machine.{pin_at}
use Rattle.audit_modules.proofs.Below.{one_more, one_fails, all_pass}
use Rattle.audit_modules.proofs.pins.pins_agree.Goals as goal

pub loop-number-init : goal.loop-number-init
loop-number-init c = record { agree = λ s h p lt. absurd (omega (arith, lt)); halves = λ lt. absurd (omega (arith, lt)) }

pub loop-number-preserved : goal.loop-number-preserved
loop-number-preserved c = record {
  agree = λ s h. one_more (λ p. PinAgrees c.args.block.now p (pin_at s p)) c.loop-number.number c.has_pin.result (c.loop-number.invariant.agree s h) (c.has_pin.ensures.is s h) c.if-not-has_pin.false;
  halves = λ lt. c.has_pin.ensures.halves;
}

pub returns-then-not-has_pin-clause-agree : goal.returns-then-not-has_pin-clause-agree
returns-then-not-has_pin-clause-agree c s h = one_fails (λ p. PinAgrees c.args.block.now p (pin_at s p)) c.loop-number.number 64 c.has_pin.result c.loop-number-test.true (c.has_pin.ensures.is s h) c.if-not-has_pin.true

pub returns-clause-agree : goal.returns-clause-agree
returns-clause-agree c s h = all_pass (λ p. PinAgrees c.args.block.now p (pin_at s p)) c.loop-number.number 64 c.loop-number-test.false (c.loop-number.invariant.agree s h)

pub returns-clause-halves : goal.returns-clause-halves
returns-clause-halves c = c.loop-number.invariant.halves (omega (arith, c.loop-number-test.false))
