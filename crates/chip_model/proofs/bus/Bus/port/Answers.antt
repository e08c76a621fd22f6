-- The bits below the place are the levels of their pins.
use Rattle.std.proofs.Common.{ℕ, ◌+◌, ◌*◌, ◌<◌, Bool, sym, ◌∙◌, arith}
use Rattle.mcal_base.proofs.BitLaws.{bits_of-zero, bits_of-marked, bits_of-left}
use Rattle.chip_model.specs.Chip.{pin_of}
use Rattle.chip_model.proofs.bus.Bus.port.Goals as goal
use Rattle.chip_model.proofs.bus.Bus.port.Goals.{then-pin, else-pin}

pub loop-place-init : goal.loop-place-init
loop-place-init c = sym (bits_of-zero (λ k. pin_of c.args.self.now (8 * c.args.port + k)))

pub loop-place-preserved : goal.loop-place-preserved
loop-place-preserved c =
    let k = c.loop-place.place in
    let test : ℕ → Bool = λ k. pin_of c.args.self.now (8 * c.args.port + k) in
    let below : k < 32 = omega arith in
    elim c.if-pin.branch [
      | then-pin w ↦ w.bits-is ∙ bits_of-marked test k c.loop-place.bits below (sym c.pin.ensures ∙ w.if-pin.true) c.loop-place.invariant
      | else-pin w ↦ w.bits-is ∙ bits_of-left test k c.loop-place.bits (sym c.pin.ensures ∙ w.if-pin.false) c.loop-place.invariant
    ]
