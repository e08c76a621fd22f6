-- A word that begins comes from the selected device, or else from those that wait.
use Rattle.std.proofs.Common.{◌≡◌, ◌≤◌, ◌∙◌, sym, subst}
use Rattle.std.specs.Prelude.{MatchBool}
use Rattle.chip_blocks.specs.units.Serials.{unit_at}
use Rattle.chip_model.specs.Chip.{next_word}
use Rattle.chip_model.proofs.DeviceLaws.{masked-fits, next_in}
use Rattle.chip_model.proofs.bus.Bus.begin_word.Goals as goal
use Rattle.chip_model.proofs.bus.Bus.begin_word.Goals.{then-has_device, else-has_device}

pub overflow_cast-word : goal.overflow_cast-word
overflow_cast-word g c = rw c.outgoing-word.ensures (record { fits = masked-fits (unit_at c.self.inside.serials c.args.unit).width c.args.sent })

pub returns-clause-word : goal.returns-clause-word
returns-clause-word g c =
    elim c.if-has_device.branch [
      | then-has_device w ↦ subst (λ b. MatchBool b (c.if-has_device.received ≤ 65536) (c.if-has_device.received ≡ next_word c.args.self.now c.args.unit)) (sym w.if-has_device.true ∙ c.has_device.ensures) (rw w.received-is w.call-received.ensures.most)
      | else-has_device w ↦ subst (λ b. MatchBool b (c.if-has_device.received ≤ 65536) (c.if-has_device.received ≡ next_word c.args.self.now c.args.unit)) (sym w.if-has_device.false ∙ c.has_device.ensures)
          (rw (w.received-is, ← c.self.view_is) (next_in c.self.inside.incoming c.args.unit w.index-self-unit.result _ c.self.invariant.2 c.requires.there w.take-received.ensures.word))
    ]
