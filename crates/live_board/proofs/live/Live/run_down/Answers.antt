use Rattle.std.proofs.Common.{◌++◌, ◌∷◌, List, [], ◌∙◌, ap, subst, arith}
use Rattle.chip_model.specs.Chip.{Chip, expiry_of}
use Rattle.mcal_base.specs.declared.directive.Order.TheVariants.{Tick}
use Rattle.mcal_base.specs.declared.directive.Reason.TheVariants.{Watchdog}
use Rattle.run_model.specs.Moment.{Transition, Happens, Resets}
use Rattle.step_runner.specs.Stands.{Stands}
use Rattle.live_board.proofs.Counts.{can_tick}
use Rattle.live_board.proofs.Keeping.{live_down, slow_chip}
use Rattle.live_board.proofs.live.Live.run_down.Goals as goal

pub run_out-dropped-requires-clause-can : goal.run_out-dropped-requires-clause-can
run_out-dropped-requires-clause-can g c = can_tick c.args.ticks c.self.inside.left c.self.inside.room c.self.inside.bus (omega (arith, c.requires.time, ap (λ v. v.left) c.self.view_is)) (slow_chip (g.M.Module.spec c.self.inside.driver) c.self.inside.bus c.self.inside.stack c.self.inside.left c.self.inside.room c.self.inside.devices (λ chip w ps s r. g.met.M.Caller.slow c.self.inside.driver chip w ps s c.self.invariant.fits r) c.self.invariant) c.self.invariant.counted

pub run_out-dropped-requires-clause-ends : goal.run_out-dropped-requires-clause-ends
run_out-dropped-requires-clause-ends g c = ap (λ v. expiry_of v.chip) c.self.view_is ∙ c.requires.ends

pub invariant_of-self : goal.invariant_of-self
invariant_of-self g c = live_down (g.M.Module.spec c.self.inside.driver) c.self.inside.bus c.self.inside.stack c.self.inside.left c.self.inside.room c.self.inside.devices c.self.invariant c.run_out-dropped.new.bus c.run_out-dropped.new.stack c.args.ticks (omega (arith, c.requires.time, ap (λ v. v.left) c.self.view_is)) (slow_chip (g.M.Module.spec c.self.inside.driver) c.self.inside.bus c.self.inside.stack c.self.inside.left c.self.inside.room c.self.inside.devices (λ chip w ps s r. g.met.M.Caller.slow c.self.inside.driver chip w ps s c.self.invariant.fits r) c.self.invariant) c.run_out-dropped.ensures.chip c.run_out-dropped.ensures.stack
    (c.run_out-dropped.ensures.stands c.self.inside.driver c.self.invariant.first c.self.invariant.deeds c.self.invariant.fits c.self.invariant.stands)

pub returns-clause-goes : goal.returns-clause-goes
returns-clause-goes g c = subst (λ v. (first : Chip) (h : List (Transition g.row.M-Call.Denot)) → Stands (g.M.Module.spec v.driver) first v.chip v.kept.frames h → Stands (g.M.Module.spec v.driver) first c.run_out-dropped.new.bus c.run_out-dropped.new.stack.frames (h ++ Happens (Tick c.args.ticks) ∷ Resets Watchdog ∷ [])) c.self.view_is
    (λ first h st. c.run_out-dropped.ensures.stands c.self.inside.driver first h c.self.invariant.fits st)
