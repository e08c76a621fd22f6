use Rattle.std.proofs.Common.{◌∙◌, sym, subst}
use Rattle.std.proofs.lemmas.List.{length-set}
use Rattle.chip_blocks.specs.units.Serials.{HasBegun}
use Rattle.chip_blocks.proofs.of_units.BegunLaws.{begun-set}
use Rattle.chip_blocks.proofs.units.serials.SerialBlock.set_unit.Goals as goal

pub invariant_of-self : goal.invariant_of-self
invariant_of-self c = (length-set c.self.inside.units c.args.unit c.args.changed ∙ c.self.invariant.0, begun-set c.self.inside.time c.self.inside.units c.args.unit c.args.changed c.self.invariant.1 (subst (λ b. HasBegun b.time c.args.changed.word) (sym c.self.view_is) c.requires))
