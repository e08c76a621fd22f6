use Rattle.std.proofs.Common.{rules, ◌≡◌, ◌+◌, ◌-◌, sym, subst}
use Rattle.step_runner.specs.Kept.{Kept, IsLooked}
use Rattle.step_runner.proofs.LastFrame.{looked-last, takes-on, takes-off}
use Rattle.step_runner.proofs.stack.Stack.step_top.Goals as goal

pub move_frame-requires-clause-looked : goal.move_frame-requires-clause-looked
move_frame-requires-clause-looked g c =
    let n = c.self.inside.count - 1 in
    let one : n + 1 ≡ c.self.inside.count = search rules in
    looked-last g.M.Frame.Routine.move_of c.self.inside.places.items n c.index_mut.result.now c.args.stepped.now.made (search rules) (search rules)
    (rw one (subst (λ (k : Kept _). IsLooked g.M.Frame.Routine.move_of k.frames c.args.stepped.now.made) (sym c.self.view_is) c.requires.looked))

pub returns-then-is_some-clause-step : goal.returns-then-is_some-clause-step
returns-then-is_some-clause-step g c =
    let n = c.self.inside.count - 1 in
    let one : n + 1 ≡ c.self.inside.count = search rules in
    let takes = takes-off g.M.Frame.Routine.move_of g.M.Frame.Routine.left g.M.Frame.Routine.gave c.self.inside.places.items n c.index_mut.result.now c.move_frame.new.top c.self.inside.steps c.args.rack.now.len c.args.bus.now c.move_frame.new.bus c.move_frame.new.stepped (search rules) (search rules) c.move_frame.ensures.top c.move_frame.ensures.comes c.move_frame.ensures.chip c.move_frame.ensures.step (search rules) in
    rw (← c.self.view_is) (rw one at takes)

pub returns-else-is_some-clause-step : goal.returns-else-is_some-clause-step
returns-else-is_some-clause-step g c =
    let n = c.self.inside.count - 1 in
    let one : n + 1 ≡ c.self.inside.count = search rules in
    let takes = takes-on g.M.Frame.Routine.move_of g.M.Frame.Routine.left g.M.Frame.Routine.gave c.self.inside.places.items n c.index_mut.result.now c.move_frame.new.top c.self.inside.steps c.args.rack.now.len c.args.bus.now c.move_frame.new.bus c.move_frame.new.stepped (search rules) (search rules) c.move_frame.ensures.top c.move_frame.ensures.comes c.move_frame.ensures.chip c.move_frame.ensures.step (search rules) in
    rw (← c.self.view_is) (rw one at takes)
