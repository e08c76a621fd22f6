use Rattle.std.proofs.Common.{◌≡◌, ◌++◌, ◌∷◌, List, [], None, Some, sym, ◌∙◌, ap, subst}
use Rattle.chip_model.specs.Chip.{Chip, CanHappen}
use Rattle.run_model.specs.Legal.{hardware_held}
use Rattle.run_model.specs.Moment.{Transition, Happens, after_all, start_moment}
use Rattle.script_runner.specs.Standing.{is_hardware}
use Rattle.script_runner.proofs.Events.{fill_is, is_early}
use Rattle.step_runner.specs.Stands.{Stands}
use Rattle.live_board.proofs.Keeping.{live_filled}
use Rattle.live_board.proofs.live.Live.fill.Goals as goal

pub hardware-requires : goal.hardware-requires
hardware-requires g c =
    let f = fill_is c.args.happening.now.order c.args.channel c.requires.fill in
    subst (λ o. CanHappen c.self.inside.bus o) (sym f.1) (c.fill_held.ensures.free c.self.invariant.first c.self.invariant.deeds f.0 c.self.invariant.fits c.self.invariant.stands c.in-None.is)

pub invariant_of-self : goal.invariant_of-self
invariant_of-self g c =
    let f = fill_is c.args.happening.now.order c.args.channel c.requires.fill in
    live_filled (g.M.Module.spec c.self.inside.driver) c.self.inside.bus c.self.inside.stack c.self.inside.left c.self.inside.room c.self.inside.devices c.self.invariant c.hardware.new.bus c.args.happening.now.order c.args.channel f.0 f.1 c.hardware.ensures.chip
    (c.hardware.ensures.stands c.self.inside.driver c.self.invariant.first c.self.invariant.deeds c.self.invariant.fits (ap (hardware_held (g.M.Module.spec c.self.inside.driver).setting (after_all (g.M.Module.spec c.self.inside.driver).setting (start_moment (g.M.Module.spec c.self.inside.driver).setting c.self.invariant.first) c.self.invariant.deeds)) f.1 ∙ (sym (c.fill_held.ensures.cause c.self.invariant.first c.self.invariant.deeds f.0 c.self.invariant.fits c.self.invariant.stands) ∙ c.in-None.is)) (is_early c.args.happening.now.order _ (ap is_hardware f.1)) c.self.invariant.stands)

pub returns-in-None-clause-goes : goal.returns-in-None-clause-goes
returns-in-None-clause-goes g c =
    let f = fill_is c.args.happening.now.order c.args.channel c.requires.fill in
    subst (λ v. (first : Chip) (h : List (Transition g.row.M-Call.Denot)) → Stands (g.M.Module.spec v.driver) first v.chip v.kept.frames h → Stands (g.M.Module.spec v.driver) first c.hardware.new.bus c.self.inside.stack.frames (h ++ Happens c.args.happening.now.order ∷ [])) c.self.view_is
    (λ first h st. c.hardware.ensures.stands c.self.inside.driver first h c.self.invariant.fits (ap (hardware_held (g.M.Module.spec c.self.inside.driver).setting (after_all (g.M.Module.spec c.self.inside.driver).setting (start_moment (g.M.Module.spec c.self.inside.driver).setting first) h)) f.1 ∙ (sym (c.fill_held.ensures.cause first h f.0 c.self.invariant.fits st) ∙ c.in-None.is)) (is_early c.args.happening.now.order _ (ap is_hardware f.1)) st)

pub returns-in-Some-clause-cause : goal.returns-in-Some-clause-cause
returns-in-Some-clause-cause g c =
    let f = fill_is c.args.happening.now.order c.args.channel c.requires.fill in
    subst (λ v. (first : Chip) (h : List (Transition g.row.M-Call.Denot)) → Stands (g.M.Module.spec v.driver) first v.chip v.kept.frames h → hardware_held (g.M.Module.spec v.driver).setting (after_all (g.M.Module.spec v.driver).setting (start_moment (g.M.Module.spec v.driver).setting first) h) c.args.happening.now.order ≡ Some c.in-Some.cause) c.self.view_is
    (λ first h st. ap (hardware_held (g.M.Module.spec c.self.inside.driver).setting (after_all (g.M.Module.spec c.self.inside.driver).setting (start_moment (g.M.Module.spec c.self.inside.driver).setting first) h)) f.1 ∙ (sym (c.fill_held.ensures.cause first h f.0 c.self.invariant.fits st) ∙ c.in-Some.is))

pub returns-in-None-clause-cause : goal.returns-in-None-clause-cause
returns-in-None-clause-cause g c =
    let f = fill_is c.args.happening.now.order c.args.channel c.requires.fill in
    subst (λ v. (first : Chip) (h : List (Transition g.row.M-Call.Denot)) → Stands (g.M.Module.spec v.driver) first v.chip v.kept.frames h → hardware_held (g.M.Module.spec v.driver).setting (after_all (g.M.Module.spec v.driver).setting (start_moment (g.M.Module.spec v.driver).setting first) h) c.args.happening.now.order ≡ None) c.self.view_is
    (λ first h st. ap (hardware_held (g.M.Module.spec c.self.inside.driver).setting (after_all (g.M.Module.spec c.self.inside.driver).setting (start_moment (g.M.Module.spec c.self.inside.driver).setting first) h)) f.1 ∙ (sym (c.fill_held.ensures.cause first h f.0 c.self.invariant.fits st) ∙ c.in-None.is))
