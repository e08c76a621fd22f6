use Rattle.live_board.proofs.Keeping.{live_begun}
use Rattle.live_board.proofs.live.Live.begin.Goals as goal

pub invariant_of-self : goal.invariant_of-self
invariant_of-self g c = live_begun (g.M.Module.spec c.self.inside.driver) c.self.inside.bus c.self.inside.stack c.self.inside.left c.self.inside.room c.self.inside.devices c.self.invariant c.begin.new.stack c.begin.result _ c.call-call.result c.args.level c.begin.ensures.stack
    (c.begin.ensures.stands c.self.invariant.first c.self.invariant.deeds c.self.invariant.fits c.call-call.ensures.can c.self.invariant.stands)
