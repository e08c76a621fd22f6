-- Those below the number are counted.
use Rattle.std.proofs.Common.{◌≡◌, ◌+◌, sym, ◌∙◌, ap, arith}
use Rattle.mcal_base.specs.Bits.{bit_of}
use Rattle.port_driver.specs.Writes as spec
use Rattle.port_driver.specs.laws.Ranks.{counted-zero, counted-next, counted-le, bit_small}
use Rattle.port_driver.proofs.driver.PortDriver.configured.Goals as goal

pub loop-number-init : goal.loop-number-init
loop-number-init c = sym (counted-zero (spec.is_configured c.args.self.now))

pub overflow_add-seen : goal.overflow_add-seen
overflow_add-seen c =
    let seen : c.loop-number.seen ≡ spec.counted (spec.is_configured c.args.self.now) c.loop-number.number = c.loop-number.invariant in
    let few = counted-le (spec.is_configured c.args.self.now) c.loop-number.number in
    let small = bit_small c.is_configured.result in
    omega (arith, seen, few, small)

pub loop-number-preserved : goal.loop-number-preserved
loop-number-preserved c =
    let seen : c.loop-number.seen ≡ spec.counted (spec.is_configured c.args.self.now) c.loop-number.number = c.loop-number.invariant in
    let next = counted-next (spec.is_configured c.args.self.now) c.loop-number.number in
    let here : c.counted-seen.result ≡ bit_of (spec.is_configured c.args.self.now c.loop-number.number) = c.counted-seen.ensures ∙ ap (λ b. bit_of b) c.is_configured.ensures in
    let is : c.loop-number.seen + c.counted-seen.result ≡ spec.counted (spec.is_configured c.args.self.now) (c.loop-number.number + 1) = omega (arith, seen, next, here) in
    is

pub returns-clause-count : goal.returns-clause-count
returns-clause-count c = let all : c.loop-number.number ≡ 64 = omega arith in c.loop-number.invariant ∙ ap (λ n. spec.counted (spec.is_configured c.args.self.now) n) all

pub returns-clause-few : goal.returns-clause-few
returns-clause-few c =
    let seen : c.loop-number.seen ≡ spec.counted (spec.is_configured c.args.self.now) c.loop-number.number = c.loop-number.invariant in
    let few = counted-le (spec.is_configured c.args.self.now) c.loop-number.number in
    omega (arith, seen, few)
