-- When all channels are done, the list is the one that the bits make.
use Rattle.std.proofs.Common.{◌≡◌, length, sym, ◌∙◌, ap, arith}
use Rattle.mcal_base.specs.Bits.{has_bit, at_bits}
use Rattle.mcal_base.proofs.BitLaws.{DoneBelow-all}
use Rattle.chip_blocks.specs.timers.Timers.{acting, acted}
use Rattle.chip_blocks.proofs.timers.block.TimerBlock.act.Goals as goal

pub returns : goal.returns
returns c =
    let old = c.self.inside in
    let new = c.loop-channel.self-inside in
    let at : c.loop-channel.channel ≡ 8 = omega arith in
    let size : length old.timers ≡ c.loop-channel.channel = c.self.invariant ∙ sym at in
    let all : new.timers ≡ at_bits (λ k. acting c.args.act (has_bit old.one_shot k) old.time) c.args.bits old.timers = DoneBelow-all _ c.args.bits _ _ old.timers new.timers size c.loop-channel.invariant.done in
    ap (λ b. Rattle.chip_blocks.specs.contracts.timers.block.TimerBlock.the_view b) (c.loop-channel.invariant.others ∙ ap (λ xs. record old { timers = xs }) all)
    ∙ ap (λ b. acted c.args.act b c.args.bits) c.self.view_is
