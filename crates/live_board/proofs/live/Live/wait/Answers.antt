use Rattle.std.proofs.Common.{◌≡◌, ap, sym, ◌∙◌, subst, arith}
use Rattle.chip_model.specs.Chip.{expiry_of, ticked}
use Rattle.script_runner.specs.Standing.{left_within}
use Rattle.script_runner.proofs.Waits.{left-early, left-few, left-is-some}
use Rattle.step_runner.specs.Kept.{IsLooked, IsStill}
use Rattle.live_board.specs.Lives.{GoesOn, wait_by, wait_of}
use Rattle.live_board.proofs.Keeping.{goes_nowhere, still_at_once, wait_alone, wait_through}
use Rattle.live_board.proofs.live.Live.wait.Goals as goal

pub returns-then-ticks-eq0-clause-still : goal.returns-then-ticks-eq0-clause-still
returns-then-ticks-eq0-clause-still g c = still_at_once g.M.Frame.Routine.move_of c.args.self.now.kept.frames c.args.self.now.chip (omega (arith, c.due-ticks.ensures.wait))

pub returns-then-ticks-eq0-clause-looked : goal.returns-then-ticks-eq0-clause-looked
returns-then-ticks-eq0-clause-looked g c = c.due-ticks.ensures.looked

pub returns-then-ticks-eq0-clause-goes : goal.returns-then-ticks-eq0-clause-goes
returns-then-ticks-eq0-clause-goes g c =
    let none : wait_of g.M.Frame.Routine.move_of c.args.self.now.kept.frames c.args.self.now.chip ≡ 0 = omega (arith, c.due-ticks.ensures.wait) in
    subst (λ n. GoesOn (g.M.Module.spec c.args.self.now.driver) c.args.self.now c.args.self.now (wait_by n (left_within n (expiry_of c.args.self.now.chip)))) (sym none) (goes_nowhere (g.M.Module.spec c.args.self.now.driver) c.args.self.now)

pub run_down-requires-clause-time : goal.run_down-requires-clause-time
run_down-requires-clause-time g c = omega (arith, left-few c.due-ticks.result (expiry_of c.args.self.now.chip) c.in-Some.left (sym c.left_of.ensures ∙ c.in-Some.is), ap (λ v. v.left) c.self.view_is)

pub run_down-requires-clause-ends : goal.run_down-requires-clause-ends
run_down-requires-clause-ends g c = (left-is-some c.due-ticks.result (expiry_of c.args.self.now.chip) c.in-Some.left (sym c.left_of.ensures ∙ c.in-Some.is)).0

pub tick_on-requires-clause-early : goal.tick_on-requires-clause-early
tick_on-requires-clause-early g c = left-early c.due-ticks.result (expiry_of c.args.self.now.chip) (sym c.left_of.ensures ∙ c.in-None.is)

pub tick_on-requires-clause-time : goal.tick_on-requires-clause-time
tick_on-requires-clause-time g c = omega (arith, ap (λ v. v.left) c.self.view_is)

pub returns-in-Some-clause-still : goal.returns-in-Some-clause-still
returns-in-Some-clause-still g c = subst (λ us. IsStill g.M.Frame.Routine.move_of us c.run_down.new.self.chip) (sym c.run_down.ensures.frames) tt

pub returns-in-Some-clause-looked : goal.returns-in-Some-clause-looked
returns-in-Some-clause-looked g c = subst (λ us. IsLooked g.M.Frame.Routine.move_of us c.due-ticks.new.stepped.made) (sym c.run_down.ensures.frames) tt

pub returns-in-Some-clause-goes : goal.returns-in-Some-clause-goes
returns-in-Some-clause-goes g c =
    subst (λ n. GoesOn (g.M.Module.spec c.args.self.now.driver) c.args.self.now c.run_down.new.self (wait_by n (left_within n (expiry_of c.args.self.now.chip)))) c.due-ticks.ensures.wait
    (subst (λ t. GoesOn (g.M.Module.spec c.args.self.now.driver) c.args.self.now c.run_down.new.self (wait_by c.due-ticks.result t)) (sym (sym c.left_of.ensures ∙ c.in-Some.is))
    (subst (λ ds. GoesOn (g.M.Module.spec c.args.self.now.driver) c.args.self.now c.run_down.new.self ds) (sym (wait_through c.due-ticks.result c.in-Some.left (omega arith))) c.run_down.ensures.goes))

pub returns-in-None-clause-still : goal.returns-in-None-clause-still
returns-in-None-clause-still g c =
    subst (λ x. IsStill g.M.Frame.Routine.move_of c.tick_on.new.self.kept.frames x) (sym c.tick_on.ensures.chip)
    (subst (λ k. IsStill g.M.Frame.Routine.move_of k.frames (ticked c.args.self.now.chip c.due-ticks.result)) (sym c.tick_on.ensures.kept) c.due-ticks.ensures.over)

pub returns-in-None-clause-looked : goal.returns-in-None-clause-looked
returns-in-None-clause-looked g c = subst (λ k. IsLooked g.M.Frame.Routine.move_of k.frames c.due-ticks.new.stepped.made) (sym c.tick_on.ensures.kept) c.due-ticks.ensures.looked

pub returns-in-None-clause-goes : goal.returns-in-None-clause-goes
returns-in-None-clause-goes g c =
    subst (λ n. GoesOn (g.M.Module.spec c.args.self.now.driver) c.args.self.now c.tick_on.new.self (wait_by n (left_within n (expiry_of c.args.self.now.chip)))) c.due-ticks.ensures.wait
    (subst (λ t. GoesOn (g.M.Module.spec c.args.self.now.driver) c.args.self.now c.tick_on.new.self (wait_by c.due-ticks.result t)) (sym (sym c.left_of.ensures ∙ c.in-None.is))
    (subst (λ ds. GoesOn (g.M.Module.spec c.args.self.now.driver) c.args.self.now c.tick_on.new.self ds) (sym (wait_alone c.due-ticks.result (omega arith))) c.tick_on.ensures.goes))
