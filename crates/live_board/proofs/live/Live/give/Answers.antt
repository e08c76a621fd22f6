use Rattle.std.proofs.Common.{◌++◌, ◌∷◌, ◌-◌, List, [], subst, arith}
use Rattle.chip_model.specs.Chip.{Chip}
use Rattle.run_model.specs.Moment.{Transition, Happens}
use Rattle.script_runner.proofs.Events.{is_early}
use Rattle.step_runner.specs.Stands.{Stands}
use Rattle.live_board.proofs.Counts.{gift_is}
use Rattle.live_board.proofs.Keeping.{event_free, live_event}
use Rattle.live_board.proofs.live.Live.give.Goals as goal

pub hardware-requires : goal.hardware-requires
hardware-requires g c = (gift_is c.args.happening.now.order c.requires.gives).3 c.self.inside.bus c.self.inside.left c.self.inside.room (omega (arith, c.requires.words)) c.self.invariant.counted

pub invariant_of-self : goal.invariant_of-self
invariant_of-self g c =
    let s = gift_is c.args.happening.now.order c.requires.gives in
    live_event (g.M.Module.spec c.self.inside.driver) c.self.inside.bus c.self.inside.stack c.self.inside.left c.self.inside.room c.self.inside.devices c.self.invariant c.hardware.new.bus (c.self.inside.room - c.args.words) c.self.inside.devices c.args.happening.now.order s.0 c.hardware.ensures.chip (omega (arith, c.requires.words)) (s.2 c.self.inside.devices)
    (c.hardware.ensures.stands c.self.inside.driver c.self.invariant.first c.self.invariant.deeds c.self.invariant.fits (event_free (g.M.Module.spec c.self.inside.driver) c.self.invariant.first c.self.invariant.deeds c.args.happening.now.order s.1) (is_early c.args.happening.now.order _ s.0) c.self.invariant.stands)

pub returns-clause-goes : goal.returns-clause-goes
returns-clause-goes g c =
    let s = gift_is c.args.happening.now.order c.requires.gives in
    subst (λ v. (first : Chip) (h : List (Transition g.row.M-Call.Denot)) → Stands (g.M.Module.spec v.driver) first v.chip v.kept.frames h → Stands (g.M.Module.spec v.driver) first c.hardware.new.bus c.self.inside.stack.frames (h ++ Happens c.args.happening.now.order ∷ [])) c.self.view_is
    (λ first h st. c.hardware.ensures.stands c.self.inside.driver first h c.self.invariant.fits (event_free (g.M.Module.spec c.self.inside.driver) first h c.args.happening.now.order s.1) (is_early c.args.happening.now.order _ s.0) st)
