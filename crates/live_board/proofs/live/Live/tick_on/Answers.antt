use Rattle.std.proofs.Common.{◌++◌, ◌∷◌, List, [], refl, sym, ap, subst, arith}
use Rattle.chip_model.specs.Chip.{Chip, expiry_of}
use Rattle.mcal_base.specs.declared.directive.Order.TheVariants.{Tick}
use Rattle.run_model.specs.Moment.{Transition, Happens}
use Rattle.step_runner.specs.Driver.{EndsBefore}
use Rattle.step_runner.specs.Stands.{Stands}
use Rattle.live_board.proofs.Counts.{can_tick}
use Rattle.live_board.proofs.Keeping.{live_ticked, slow_chip}
use Rattle.live_board.proofs.live.Live.tick_on.Goals as goal

pub hardware-requires : goal.hardware-requires
hardware-requires g c = can_tick c.args.ticks c.self.inside.left c.self.inside.room c.self.inside.bus (omega (arith, c.requires.time, ap (λ v. v.left) c.self.view_is)) (slow_chip (g.M.Module.spec c.self.inside.driver) c.self.inside.bus c.self.inside.stack c.self.inside.left c.self.inside.room c.self.inside.devices (λ chip w ps s r. g.met.M.Caller.slow c.self.inside.driver chip w ps s c.self.invariant.fits r) c.self.invariant) c.self.invariant.counted

pub invariant_of-self : goal.invariant_of-self
invariant_of-self g c = live_ticked (g.M.Module.spec c.self.inside.driver) c.self.inside.bus c.self.inside.stack c.self.inside.left c.self.inside.room c.self.inside.devices c.self.invariant c.hardware.new.bus c.args.ticks (omega (arith, c.requires.time, ap (λ v. v.left) c.self.view_is)) (slow_chip (g.M.Module.spec c.self.inside.driver) c.self.inside.bus c.self.inside.stack c.self.inside.left c.self.inside.room c.self.inside.devices (λ chip w ps s r. g.met.M.Caller.slow c.self.inside.driver chip w ps s c.self.invariant.fits r) c.self.invariant) c.hardware.ensures.chip
    (c.hardware.ensures.stands c.self.inside.driver c.self.invariant.first c.self.invariant.deeds c.self.invariant.fits refl (subst (λ v. EndsBefore (Tick c.args.ticks) (expiry_of v.chip)) (sym c.self.view_is) c.requires.early) c.self.invariant.stands)

pub returns-clause-goes : goal.returns-clause-goes
returns-clause-goes g c = subst (λ v. (first : Chip) (h : List (Transition g.row.M-Call.Denot)) → Stands (g.M.Module.spec v.driver) first v.chip v.kept.frames h → Stands (g.M.Module.spec v.driver) first c.hardware.new.bus c.self.inside.stack.frames (h ++ Happens (Tick c.args.ticks) ∷ [])) c.self.view_is
    (λ first h st. c.hardware.ensures.stands c.self.inside.driver first h c.self.invariant.fits refl (subst (λ v. EndsBefore (Tick c.args.ticks) (expiry_of v.chip)) (sym c.self.view_is) c.requires.early) st)
