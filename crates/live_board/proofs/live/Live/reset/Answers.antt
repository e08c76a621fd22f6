use Rattle.live_board.proofs.Keeping.{live_reset}
use Rattle.live_board.proofs.live.Live.reset.Goals as goal

pub invariant_of-self : goal.invariant_of-self
invariant_of-self g c = live_reset (g.M.Module.spec c.self.inside.driver) c.self.inside.bus c.self.inside.stack c.self.inside.left c.self.inside.room c.self.inside.devices c.self.invariant c.reset.new.bus c.reset.new.stack c.args.reason c.reset.ensures.chip c.reset.ensures.stack
    (c.reset.ensures.stands c.self.inside.driver c.self.invariant.first c.self.invariant.deeds c.self.invariant.fits c.self.invariant.stands)
