use Rattle.std.proofs.Common.{◌∙◌, ap}
use Rattle.shown_rows.specs.Shows.{level_at}
use Rattle.audit_whole.specs.Resting.{Resting}
use Rattle.audit_whole.proofs.AtRestLaws.{pin_same}
use Rattle.audit_whole.proofs.at_rest.AtRestAllModulesShownBoard.pin.Goals as goal

pub returns : goal.returns
returns c w s h =
    let k = rw (← c.self.view_is) at h in
    pin_same c.self.inside.config.now c.self.invariant.0 _ k.2 w s c.args.pin c.pin.result (c.pin.ensures w s k.0 k.1)
    ∙ ap (λ (r : Resting _). level_at r.config w s c.args.pin) c.self.view_is
