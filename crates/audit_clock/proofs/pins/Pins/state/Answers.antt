use Rattle.std.proofs.Common.{◌∙◌}
use Rattle.audit_clock.proofs.pins.Pins.state.Goals as goal

pub returns : goal.returns
returns c s h = c.at.ensures ∙ h.pins c.args.number c.requires
