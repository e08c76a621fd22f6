-- When all channels are done, the list is the one that the bits make.
use Rattle.std.proofs.Common.{◌≡◌, length, sym, ◌∙◌, ap, arith}
use Rattle.mcal_base.specs.Bits.{at_bits}
use Rattle.mcal_base.proofs.BitLaws.{DoneBelow-all}
use Rattle.chip_blocks.specs.pulses.Pulses as spec
use Rattle.chip_blocks.proofs.pulses.block.PulseBlock.clear.Goals as goal

pub returns : goal.returns
returns c =
    let old = c.self.inside in
    let new = c.loop-channel.self-inside in
    let at : c.loop-channel.channel ≡ 8 = omega arith in
    let size : length old.pulses ≡ c.loop-channel.channel = c.self.invariant ∙ sym at in
    let all : new.pulses ≡ at_bits (λ _. spec.flag_clear c.args.to old.time) c.args.bits old.pulses = DoneBelow-all _ c.args.bits _ _ old.pulses new.pulses size c.loop-channel.invariant.done in
    ap (λ b. Rattle.chip_blocks.specs.contracts.pulses.block.PulseBlock.the_view b) (c.loop-channel.invariant.others ∙ ap (λ xs. record old { pulses = xs }) all)
    ∙ ap (λ b. spec.cleared c.args.to b c.args.bits) c.self.view_is
