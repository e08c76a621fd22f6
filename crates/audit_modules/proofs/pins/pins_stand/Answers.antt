use Rattle.std.proofs.Common.{sym, ◌∙◌}
use Rattle.mcal_base.specs.facts.Truths.{on_off}
use Rattle.audit_frames.proofs.Deciding.{yes}
use Rattle.audit_modules.proofs.Joining.{unless}
use Rattle.audit_modules.proofs.pins.pins_stand.Goals as goal

pub returns-then-busy : goal.returns-then-busy
returns-then-busy c s h = yes (λ e. on_off (sym c.if-busy.true ∙ e))

pub returns : goal.returns
returns c s h = unless c.args.busy c.args.block.now s c.pins_agree.result c.if-busy.false c.pins_agree.ensures.halves (c.pins_agree.ensures.agree s h)
