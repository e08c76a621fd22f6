use Rattle.std.proofs.Common.{◌<◌, ◌++◌, ◌∷◌, List, [], Ok, sym, subst, arith, vec_len}
use Rattle.chip_model.specs.Chip.{Chip}
use Rattle.run_model.specs.Moment.{Transition, Steps, after_all, start_moment}
use Rattle.step_runner.proofs.Hung.{calls-same, takes-same}
use Rattle.step_runner.proofs.Runs.{can-step}
use Rattle.step_runner.specs.Kept.{IsLooked, IsStill, TakesStep}
use Rattle.step_runner.specs.Stands.{Stands}
use Rattle.live_board.proofs.Keeping.{calls_seen, live_stepped}
use Rattle.live_board.proofs.live.Live.step_on.Goals as goal

pub step_into-requires-clause-there : goal.step_into-requires-clause-there
step_into-requires-clause-there g c = can-step (g.M.Module.spec c.self.inside.driver) g.M.Frame.Routine.move_of g.M.Frame.Routine.left g.M.Frame.Routine.gave (g.met.M.Module.laws c.self.inside.driver c.self.invariant.fits) c.self.invariant.first c.self.invariant.deeds c.self.inside.bus c.self.inside.stack.frames c.self.invariant.stands

pub step_into-requires-clause-still : goal.step_into-requires-clause-still
step_into-requires-clause-still g c = subst (λ v. IsStill g.M.Frame.Routine.move_of v.kept.frames v.chip) (sym c.self.view_is) c.requires.still

pub step_into-requires-clause-looked : goal.step_into-requires-clause-looked
step_into-requires-clause-looked g c = subst (λ v. IsLooked g.M.Frame.Routine.move_of v.kept.frames c.args.stepped.now.made) (sym c.self.view_is) c.requires.looked

pub invariant_of-self : goal.invariant_of-self
invariant_of-self g c = live_stepped (g.M.Module.spec c.self.inside.driver) c.self.inside.bus c.self.inside.stack c.self.inside.left c.self.inside.room c.self.inside.devices c.self.invariant g.M.Frame.Routine.move_of g.M.Frame.Routine.left g.M.Frame.Routine.gave c.step_into.new.bus c.step_into.new.stack c.step_into.new.stepped (takes-same g.M.Frame.Routine.move_of g.M.Frame.Routine.left g.M.Frame.Routine.gave c.self.inside.stack.frames c.self.inside.stack.steps (vec_len c.args.rack.now) c.self.inside.bus c.step_into.new.stack c.step_into.new.bus (Ok c.step_into.new.stepped) (omega (arith, c.self.invariant.hung)) c.in-Ok.ensures.step)
    (c.in-Ok.ensures.stands c.self.inside.driver c.self.invariant.first c.self.invariant.deeds (omega (arith, c.self.invariant.hung)) c.self.invariant.fits (omega (arith, c.self.invariant.steps)) c.self.invariant.stands)

pub returns-clause-step : goal.returns-clause-step
returns-clause-step g c = subst (λ v. TakesStep g.M.Frame.Routine.move_of g.M.Frame.Routine.left g.M.Frame.Routine.gave v.kept.frames v.kept.steps v.chip c.step_into.new.stack c.step_into.new.bus (Ok c.step_into.new.stepped)) c.self.view_is (takes-same g.M.Frame.Routine.move_of g.M.Frame.Routine.left g.M.Frame.Routine.gave c.self.inside.stack.frames c.self.inside.stack.steps (vec_len c.args.rack.now) c.self.inside.bus c.step_into.new.stack c.step_into.new.bus (Ok c.step_into.new.stepped) (omega (arith, c.self.invariant.hung)) c.in-Ok.ensures.step)

pub returns-clause-calls : goal.returns-clause-calls
returns-clause-calls g c = calls_seen _ _ c.step_into.new.stepped _ _ c.self.view_is (calls-same (vec_len c.args.rack.now) c.self.inside.bus c.step_into.new.stepped _ _ (omega (arith, c.self.invariant.hung)) c.in-Ok.ensures.calls)

pub returns-clause-goes : goal.returns-clause-goes
returns-clause-goes g c = subst (λ v. (first : Chip) (h : List (Transition g.row.M-Call.Denot)) → (after_all (g.M.Module.spec v.driver).setting (start_moment (g.M.Module.spec v.driver).setting first) h).steps < 4294967295 → Stands (g.M.Module.spec v.driver) first v.chip v.kept.frames h → Stands (g.M.Module.spec v.driver) first c.step_into.new.bus c.step_into.new.stack.frames (h ++ Steps c.step_into.new.stepped ∷ [])) c.self.view_is
    (λ first h few st. c.in-Ok.ensures.stands c.self.inside.driver first h (omega (arith, c.self.invariant.hung)) c.self.invariant.fits few st)
