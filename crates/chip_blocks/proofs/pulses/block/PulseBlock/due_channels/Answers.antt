-- The bits below the channel are marked.
use Rattle.std.proofs.Common.{ℕ, ◌<◌, Bool, sym, ◌∙◌, arith}
use Rattle.mcal_base.proofs.BitLaws.{bits_of-zero, bits_of-marked, bits_of-left}
use Rattle.chip_blocks.specs.pulses.Pulses.{is_due}
use Rattle.chip_blocks.proofs.pulses.block.PulseBlock.due_channels.Goals as goal
use Rattle.chip_blocks.proofs.pulses.block.PulseBlock.due_channels.Goals.{then-due, else-due}

pub loop-channel-init : goal.loop-channel-init
loop-channel-init c = sym (bits_of-zero (λ k. is_due c.args.self.now k))

pub loop-channel-preserved : goal.loop-channel-preserved
loop-channel-preserved c =
    let k = c.loop-channel.channel in
    let test : ℕ → Bool = λ k. is_due c.args.self.now k in
    let below : k < 32 = omega arith in
    elim c.if-due.branch [
      | then-due w ↦ w.bits-is ∙ bits_of-marked test k c.loop-channel.bits below (sym c.due.ensures ∙ w.if-due.true) c.loop-channel.invariant
      | else-due w ↦ w.bits-is ∙ bits_of-left test k c.loop-channel.bits (sym c.due.ensures ∙ w.if-due.false) c.loop-channel.invariant
    ]
