-- The bits below the channel are marked.
use Rattle.std.proofs.Common.{ℕ, ◌<◌, Bool, sym, ◌∙◌, arith}
use Rattle.mcal_base.proofs.BitLaws.{bits_of-zero, bits_of-marked, bits_of-left}
use Rattle.chip_blocks.specs.timers.Timers.{timer_at, is_flagged}
use Rattle.chip_blocks.proofs.timers.block.TimerBlock.flags.Goals as goal
use Rattle.chip_blocks.proofs.timers.block.TimerBlock.flags.Goals.{then-flagged, else-flagged}

pub loop-channel-init : goal.loop-channel-init
loop-channel-init c = sym (bits_of-zero (λ k. is_flagged (timer_at c.args.self.now k) c.args.self.now.time))

pub loop-channel-preserved : goal.loop-channel-preserved
loop-channel-preserved c =
    let k = c.loop-channel.channel in
    let test : ℕ → Bool = λ k. is_flagged (timer_at c.args.self.now k) c.args.self.now.time in
    let below : k < 32 = omega arith in
    elim c.if-flagged.branch [
      | then-flagged w ↦ w.bits-is ∙ bits_of-marked test k c.loop-channel.bits below (sym c.flagged.ensures ∙ w.if-flagged.true) c.loop-channel.invariant
      | else-flagged w ↦ w.bits-is ∙ bits_of-left test k c.loop-channel.bits (sym c.flagged.ensures ∙ w.if-flagged.false) c.loop-channel.invariant
    ]
