use Rattle.std.proofs.Common.{◌++◌, List, subst}
use Rattle.chip_model.specs.Chip.{Chip}
use Rattle.run_model.specs.Moment.{Transition, Enters}
use Rattle.step_runner.specs.Stands.{Stands, done}
use Rattle.live_board.proofs.Keeping.{live_entered}
use Rattle.live_board.proofs.live.Live.enter.Goals as goal

pub invariant_of-self : goal.invariant_of-self
invariant_of-self g c = live_entered (g.M.Module.spec c.self.inside.driver) c.self.inside.bus c.self.inside.stack c.self.inside.left c.self.inside.room c.self.inside.devices c.self.invariant c.enter.new.stack c.enter.result _ _ c.args.line c.enter.ensures.stack
    (c.enter.ensures.stands c.self.invariant.first c.self.invariant.deeds c.self.invariant.fits c.self.invariant.stands)

pub returns-clause-goes : goal.returns-clause-goes
returns-clause-goes g c = subst (λ v. (first : Chip) (h : List (Transition g.row.M-Call.Denot)) → Stands (g.M.Module.spec v.driver) first v.chip v.kept.frames h → Stands (g.M.Module.spec v.driver) first c.self.inside.bus c.enter.new.stack.frames (h ++ done c.enter.result (Enters c.args.line))) c.self.view_is
    (λ first h st. c.enter.ensures.stands first h c.self.invariant.fits st)
