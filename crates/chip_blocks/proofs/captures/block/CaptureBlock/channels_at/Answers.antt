-- The bits below the channel are marked.
use Rattle.std.proofs.Common.{ℕ, ◌<◌, Bool, sym, ◌∙◌, arith}
use Rattle.mcal_base.proofs.BitLaws.{bits_of-zero, bits_of-marked, bits_of-left}
use Rattle.chip_blocks.specs.captures.Captures.{is_pin, pin_of}
use Rattle.chip_blocks.proofs.captures.block.CaptureBlock.channels_at.Goals as goal
use Rattle.chip_blocks.proofs.captures.block.CaptureBlock.channels_at.Goals.{then-has_pin, else-has_pin}

pub loop-channel-init : goal.loop-channel-init
loop-channel-init c = sym (bits_of-zero (λ k. is_pin (pin_of c.args.self.now k) c.args.pin))

pub loop-channel-preserved : goal.loop-channel-preserved
loop-channel-preserved c =
    let k = c.loop-channel.channel in
    let test : ℕ → Bool = λ k. is_pin (pin_of c.args.self.now k) c.args.pin in
    let below : k < 32 = omega arith in
    elim c.if-has_pin.branch [
      | then-has_pin w ↦ w.bits-is ∙ bits_of-marked test k c.loop-channel.bits below (sym c.has_pin.ensures ∙ w.if-has_pin.true) c.loop-channel.invariant
      | else-has_pin w ↦ w.bits-is ∙ bits_of-left test k c.loop-channel.bits (sym c.has_pin.ensures ∙ w.if-has_pin.false) c.loop-channel.invariant
    ]
