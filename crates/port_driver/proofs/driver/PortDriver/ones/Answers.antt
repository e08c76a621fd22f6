-- The bits below the place are those of the pins that ask for it.
use Rattle.std.proofs.Common.{◌≡◌, ℕ, ◌+◌, ◌*◌, ◌/◌, ◌%◌, ◌<◌, Bool, sym, ◌∙◌, ap, arith, nat_eq}
use Rattle.mcal_base.specs.Bits.{bits_of}
use Rattle.mcal_base.proofs.BitLaws.{bits_of-zero, bits_of-marked, bits_of-left}
use Rattle.port_driver.specs.Writes as spec
use Rattle.port_driver.proofs.driver.PortDriver.ones.Goals as goal
use Rattle.port_driver.proofs.driver.PortDriver.ones.Goals.{then-asks, else-asks}

pub loop-place-init : goal.loop-place-init
loop-place-init c = sym (bits_of-zero (λ k. spec.asks (spec.sets c.args.write) (spec.wants c.args.self.now c.args.side (32 * (c.args.write / 2) + k))))

pub loop-place-preserved : goal.loop-place-preserved
loop-place-preserved c =
    let k = c.loop-place.place in
    let test : ℕ → Bool = λ k. spec.asks (spec.sets c.args.write) (spec.wants c.args.self.now c.args.side (32 * (c.args.write / 2) + k)) in
    let below : k < 32 = omega arith in
    let is : c.asks.result ≡ test k = c.asks.ensures ∙ ap (λ w. spec.asks (nat_eq (c.args.write % 2) 0) w) (c.wants.ensures ∙ ap (λ n. spec.wants c.args.self.now c.args.side (32 * n + k)) c.from-first.ensures) in
    elim c.if-asks.branch [
      | then-asks w ↦ w.bits-is ∙ bits_of-marked test k c.loop-place.bits below (sym is ∙ w.if-asks.true) c.loop-place.invariant
      | else-asks w ↦ w.bits-is ∙ bits_of-left test k c.loop-place.bits (sym is ∙ w.if-asks.false) c.loop-place.invariant
    ]

pub returns : goal.returns
returns c = let all : c.loop-place.place ≡ 32 = omega arith in c.loop-place.invariant ∙ ap (λ n. bits_of (λ k. spec.asks (spec.sets c.args.write) (spec.wants c.args.self.now c.args.side (32 * (c.args.write / 2) + k))) n) all
