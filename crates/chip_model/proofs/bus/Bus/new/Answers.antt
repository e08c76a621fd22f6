-- A bus that was made is the chip at power on.
use Rattle.std.proofs.Common.{refl, ◌∙◌}
use Rattle.mcal_base.specs.declared.TheConstants.{WORDS}
use Rattle.chip_model.proofs.ResetLaws.{is_power_on, wires}
use Rattle.chip_model.proofs.WordLaws.{length-zeros, blank-zeros}
use Rattle.chip_model.proofs.bus.Bus.new.Goals as goal

pub invariant_of-result : goal.invariant_of-result
invariant_of-result c =
    let wired = wires c.args.config.now c.of.result c.of.ensures in (
      rw c.in_ok-words.ensures (length-zeros WORDS),
      refl,
      refl,
      wired.0,
      wired.1,
      rw (c.new-3.ensures, c.new-2.ensures) refl,
      rw (c.new-4.ensures, c.new-2.ensures) refl,
      rw (c.new-5.ensures, c.new-2.ensures) refl,
      rw (c.new-6.ensures, c.new-2.ensures) refl,
    )

pub returns : goal.returns
returns c =
    is_power_on c.args.config.now c.args.waiting
    c.new.result c.new-2.result c.new-3.result c.new-4.result c.new-5.result c.new-6.result c.new-7.result c.new-8.result c.new-9.result c.in_ok-words.words.items c.in-Ok-Ok.first c.in-Ok-Ok.second c.of.result c.new-10.result
    c.new.ensures c.new-2.ensures c.new-3.ensures c.new-4.ensures c.new-5.ensures c.new-6.ensures c.new-7.ensures c.new-8.ensures c.new-9.ensures
    (c.in_ok-words.ensures ∙ blank-zeros WORDS refl) c.in-Ok-Ok.ensures c.in-Ok-Ok.ensures' c.of.ensures c.new-10.ensures
