-- The bits below the channel are marked.
use Rattle.std.proofs.Common.{ℕ, ◌<◌, Bool, sym, ◌∙◌, ap, arith}
use Rattle.std.specs.Prelude.{bit_or}
use Rattle.mcal_base.proofs.BitLaws.{bits_of-zero, bits_of-marked, bits_of-left}
use Rattle.module_machines.specs.gpt.Table as spec
use Rattle.gpt_driver.specs.laws.Parts.{bit_shifted}
use Rattle.gpt_driver.proofs.driver.GptDriver.one_shot_bits.Goals as goal
use Rattle.gpt_driver.proofs.driver.GptDriver.one_shot_bits.Goals.{then-is_one_shot, else-is_one_shot}

pub loop-number-init : goal.loop-number-init
loop-number-init c = sym (bits_of-zero (λ k. spec.is_one_shot c.args.self.now k))

pub loop-number-preserved : goal.loop-number-preserved
loop-number-preserved c =
    let k = c.loop-number.number in
    let test : ℕ → Bool = λ k. spec.is_one_shot c.args.self.now k in
    let few : k < 8 = omega arith in
    let below : k < 32 = omega arith in
    elim c.if-is_one_shot.branch [
      | then-is_one_shot w ↦ w.bits-is ∙ ap (λ b. bit_or c.loop-number.bits b) (w.bit-bits.ensures ∙ bit_shifted k few) ∙ bits_of-marked test k c.loop-number.bits below (sym c.is_one_shot.ensures ∙ w.if-is_one_shot.true) c.loop-number.invariant
      | else-is_one_shot w ↦ w.bits-is ∙ bits_of-left test k c.loop-number.bits (sym c.is_one_shot.ensures ∙ w.if-is_one_shot.false) c.loop-number.invariant
    ]
