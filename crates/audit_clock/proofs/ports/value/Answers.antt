-- The bits below the place are those of the pins that are high.
use Rattle.std.proofs.Common.{◌≡◌, ℕ, ◌+◌, ◌*◌, ◌<◌, Bool, sym, ◌∙◌, ap, arith}
use Rattle.mcal_base.specs.Bits.{bits_of}
use Rattle.mcal_base.proofs.BitLaws.{bits_of-zero, bits_of-marked, bits_of-left}
use Rattle.audit_clock.specs.PortPins.{kept_level}
use Rattle.audit_clock.proofs.ports.value.Goals as goal
use Rattle.audit_clock.proofs.ports.value.Goals.{then-level, else-level}

pub loop-place-init : goal.loop-place-init
loop-place-init c = sym (bits_of-zero (λ k. kept_level c.args.pins.now c.args.around.now (8 * c.args.port + k)))

pub loop-place-preserved : goal.loop-place-preserved
loop-place-preserved c =
    let k = c.loop-place.place in
    let test : ℕ → Bool = λ k. kept_level c.args.pins.now c.args.around.now (8 * c.args.port + k) in
    let below : k < 32 = omega arith in
    elim c.if-level.branch [
      | then-level w ↦ w.bits-is ∙ bits_of-marked test k c.loop-place.bits below (sym c.level.ensures ∙ w.if-level.true) c.loop-place.invariant
      | else-level w ↦ w.bits-is ∙ bits_of-left test k c.loop-place.bits (sym c.level.ensures ∙ w.if-level.false) c.loop-place.invariant
    ]

pub returns : goal.returns
returns c = let all : c.loop-place.place ≡ 8 = omega arith in c.loop-place.invariant ∙ ap (λ n. bits_of (λ k. kept_level c.args.pins.now c.args.around.now (8 * c.args.port + k)) n) all
