-- The bits below the channel are marked.
use Rattle.std.proofs.Common.{ℕ, ◌<◌, Bool, sym, ◌∙◌, arith}
use Rattle.mcal_base.proofs.BitLaws.{bits_of-zero, bits_of-marked, bits_of-left}
use Rattle.chip_blocks.specs.captures.Captures.{capture_at, is_waiting}
use Rattle.chip_blocks.proofs.captures.block.CaptureBlock.waiting_channels.Goals as goal
use Rattle.chip_blocks.proofs.captures.block.CaptureBlock.waiting_channels.Goals.{then-is_waiting, else-is_waiting}

pub loop-channel-init : goal.loop-channel-init
loop-channel-init c = sym (bits_of-zero (λ k. is_waiting (capture_at c.args.self.now k)))

pub loop-channel-preserved : goal.loop-channel-preserved
loop-channel-preserved c =
    let k = c.loop-channel.channel in
    let test : ℕ → Bool = λ k. is_waiting (capture_at c.args.self.now k) in
    let below : k < 32 = omega arith in
    elim c.if-is_waiting.branch [
      | then-is_waiting w ↦ w.bits-is ∙ bits_of-marked test k c.loop-channel.bits below (sym c.is_waiting.ensures ∙ w.if-is_waiting.true) c.loop-channel.invariant
      | else-is_waiting w ↦ w.bits-is ∙ bits_of-left test k c.loop-channel.bits (sym c.is_waiting.ensures ∙ w.if-is_waiting.false) c.loop-channel.invariant
    ]
