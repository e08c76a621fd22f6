use Rattle.std.proofs.Common.{◌≡◌, ◌∙◌, subst, sym}
use Rattle.mcal_drivers.specs.Setting.{SystemState}
use Rattle.mcal_drivers.specs.Shows.{level_at}
use Rattle.run_model.specs.World.{World}
use Rattle.mcal_system.proofs.Resting.{pin_there}
use Rattle.mcal_system.proofs.at_rest.AtRestShownBoard.pin.Goals as goal

pub returns : goal.returns
returns c w s h =
    subst (λ (p : World × SystemState). c.pin.result ≡ level_at c.args.self.now.config p.0 p.1 c.args.pin) (sym h)
    (c.pin.ensures ∙ pin_there c.self.invariant.0 c.self.view_is c.args.pin c.requires.there)
