use Rattle.std.proofs.Common.{sym, ◌∙◌, ap, arith}
use Rattle.step_runner.specs.Kept.{upcoming_of}
use Rattle.live_board.proofs.Keeping.{looked_is, none_upcoming}
use Rattle.live_board.proofs.live.Live.upcoming.Goals as goal

pub returns-then-depth-eq0 : goal.returns-then-depth-eq0
returns-then-depth-eq0 g c = sym (none_upcoming g.M.Frame.Routine.move_of c.self.inside.stack.frames (omega arith)) ∙ ap (λ v. upcoming_of g.M.Frame.Routine.move_of v.kept.frames) c.self.view_is

pub returns : goal.returns
returns g c = sym (looked_is g.M.Frame.Routine.move_of c.self.inside.stack.frames c.look.new.stepped.made (omega arith) c.look.ensures.looked) ∙ ap (λ v. upcoming_of g.M.Frame.Routine.move_of v.kept.frames) c.self.view_is
