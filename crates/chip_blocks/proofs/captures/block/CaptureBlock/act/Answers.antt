-- When all channels are done, the list is the one that the bits make.
use Rattle.std.proofs.Common.{◌≡◌, length, sym, ◌∙◌, ap, arith}
use Rattle.mcal_base.specs.Bits.{at_bits}
use Rattle.mcal_base.proofs.BitLaws.{DoneBelow-all}
use Rattle.chip_blocks.specs.captures.Captures as spec
use Rattle.chip_blocks.proofs.captures.block.CaptureBlock.act.Goals as goal

pub returns : goal.returns
returns c =
    let old = c.self.inside in
    let new = c.loop-channel.self-inside in
    let at : c.loop-channel.channel ≡ 8 = omega arith in
    let size : length old.captures ≡ c.loop-channel.channel = c.self.invariant.1 ∙ sym at in
    let all : new.captures ≡ at_bits (λ _. spec.acting c.args.act old.time) c.args.bits old.captures = DoneBelow-all _ c.args.bits _ _ old.captures new.captures size c.loop-channel.invariant.done in
    ap (λ b. Rattle.chip_blocks.specs.contracts.captures.block.CaptureBlock.the_view b) (c.loop-channel.invariant.others ∙ ap (λ xs. record old { captures = xs }) all)
    ∙ ap (λ b. spec.acted c.args.act b c.args.bits) c.self.view_is
