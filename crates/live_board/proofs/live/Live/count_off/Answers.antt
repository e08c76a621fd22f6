use Rattle.std.proofs.Common.{◌++◌, ◌∷◌, ◌-◌, List, [], refl, ap, subst, arith}
use Rattle.chip_model.specs.Chip.{Chip}
use Rattle.mcal_base.specs.declared.directive.Order.TheVariants.{Detach}
use Rattle.run_model.specs.Moment.{Transition, Happens}
use Rattle.step_runner.specs.Stands.{Stands}
use Rattle.live_board.proofs.Keeping.{drop_free, live_event}
use Rattle.live_board.proofs.live.Live.count_off.Goals as goal

pub invariant_of-self : goal.invariant_of-self
invariant_of-self g c = live_event (g.M.Module.spec c.self.inside.driver) c.self.inside.bus c.self.inside.stack c.self.inside.left c.self.inside.room c.self.inside.devices c.self.invariant c.hardware.new.bus c.self.inside.room (c.self.inside.devices - 1) Detach refl c.hardware.ensures.chip (omega arith) refl
    (c.hardware.ensures.stands c.self.inside.driver c.self.invariant.first c.self.invariant.deeds c.self.invariant.fits (drop_free (g.M.Module.spec c.self.inside.driver) c.self.invariant.first c.self.inside.bus c.self.inside.stack.frames c.self.invariant.deeds c.self.invariant.stands (omega (arith, c.requires, c.self.invariant.hung, ap (λ v. v.devices) c.self.view_is))) tt c.self.invariant.stands)

pub returns-clause-goes : goal.returns-clause-goes
returns-clause-goes g c = subst (λ v. (first : Chip) (h : List (Transition g.row.M-Call.Denot)) → Stands (g.M.Module.spec v.driver) first v.chip v.kept.frames h → Stands (g.M.Module.spec v.driver) first c.hardware.new.bus c.self.inside.stack.frames (h ++ Happens Detach ∷ [])) c.self.view_is
    (λ first h st. c.hardware.ensures.stands c.self.inside.driver first h c.self.invariant.fits (drop_free (g.M.Module.spec c.self.inside.driver) first c.self.inside.bus c.self.inside.stack.frames h st (omega (arith, c.requires, c.self.invariant.hung, ap (λ v. v.devices) c.self.view_is))) tt st)
