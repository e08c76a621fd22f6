use Rattle.std.proofs.Common.{◌≡◌, None, Some, sym, ◌∙◌, ap, subst, arith}
use Rattle.chip_model.specs.Chip.{stall_of, ticked}
use Rattle.step_runner.specs.Kept.{IsLooked, upcoming_of}
use Rattle.live_board.proofs.Keeping.{looked_is, looked_none, none_upcoming, still_some, wait_none, wait_some}
use Rattle.live_board.proofs.live.Live.due.Goals as goal

pub returns-then-depth-eq0-clause-wait : goal.returns-then-depth-eq0-clause-wait
returns-then-depth-eq0-clause-wait g c =
    let none : upcoming_of g.M.Frame.Routine.move_of c.args.self.now.kept.frames ≡ None = subst (λ v. upcoming_of g.M.Frame.Routine.move_of v.kept.frames ≡ None) c.self.view_is (none_upcoming g.M.Frame.Routine.move_of c.self.inside.stack.frames (omega arith)) in
    sym (wait_none g.M.Frame.Routine.move_of c.args.self.now.kept.frames c.args.self.now.chip none).0

pub returns-then-depth-eq0-clause-over : goal.returns-then-depth-eq0-clause-over
returns-then-depth-eq0-clause-over g c =
    let none : upcoming_of g.M.Frame.Routine.move_of c.args.self.now.kept.frames ≡ None = subst (λ v. upcoming_of g.M.Frame.Routine.move_of v.kept.frames ≡ None) c.self.view_is (none_upcoming g.M.Frame.Routine.move_of c.self.inside.stack.frames (omega arith)) in
    (wait_none g.M.Frame.Routine.move_of c.args.self.now.kept.frames (ticked c.args.self.now.chip 0) none).1

pub returns-clause-wait : goal.returns-clause-wait
returns-clause-wait g c =
    let there : upcoming_of g.M.Frame.Routine.move_of c.args.self.now.kept.frames ≡ Some c.look.new.stepped.made = subst (λ v. upcoming_of g.M.Frame.Routine.move_of v.kept.frames ≡ Some c.look.new.stepped.made) c.self.view_is (looked_is g.M.Frame.Routine.move_of c.self.inside.stack.frames c.look.new.stepped.made (omega arith) c.look.ensures.looked) in
    c.stall.ensures.stall ∙ ap (λ v. stall_of v.chip c.look.new.stepped.made) c.self.view_is ∙ sym (wait_some g.M.Frame.Routine.move_of c.args.self.now.kept.frames c.args.self.now.chip c.look.new.stepped.made there)

pub returns-clause-over : goal.returns-clause-over
returns-clause-over g c =
    let there : upcoming_of g.M.Frame.Routine.move_of c.args.self.now.kept.frames ≡ Some c.look.new.stepped.made = subst (λ v. upcoming_of g.M.Frame.Routine.move_of v.kept.frames ≡ Some c.look.new.stepped.made) c.self.view_is (looked_is g.M.Frame.Routine.move_of c.self.inside.stack.frames c.look.new.stepped.made (omega arith) c.look.ensures.looked) in
    still_some g.M.Frame.Routine.move_of c.args.self.now.kept.frames (ticked c.args.self.now.chip c.stall.result) c.look.new.stepped.made there (subst (λ v. stall_of (ticked v.chip c.stall.result) c.look.new.stepped.made ≡ 0) c.self.view_is c.stall.ensures.over)

pub returns-then-depth-eq0-clause-looked : goal.returns-then-depth-eq0-clause-looked
returns-then-depth-eq0-clause-looked g c = subst (λ v. IsLooked g.M.Frame.Routine.move_of v.kept.frames c.args.stepped.now.made) c.self.view_is (looked_none g.M.Frame.Routine.move_of c.self.inside.stack.frames c.args.stepped.now.made (omega arith))

pub returns-clause-looked : goal.returns-clause-looked
returns-clause-looked g c = subst (λ v. IsLooked g.M.Frame.Routine.move_of v.kept.frames c.look.new.stepped.made) c.self.view_is c.look.ensures.looked
