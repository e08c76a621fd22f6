use Rattle.std.proofs.Common.{◌-◌, ◌≡◌, None, map, vec_len}
use Rattle.script_runner.proofs.Walks.{Walked}
use Rattle.script_runner.specs.Standing.{Called}
use Rattle.script_runner.specs.Scripts.{chip_for}
use Rattle.script_runner.proofs.steps.run_steps.Given as goal

abbrev pub invariant-loop-made : goal.invariant-loop-made
invariant-loop-made g l = Walked (g.M.Module.spec l.course.driver) (chip_for l.course.devices l.course.config l.course.script.now) (g.M.Caller.call_of l.course.driver) l.course.script.now l.course.most l.script_line l.reach l.fn.parts.bus l.fn.parts.stack l.fn.parts.journal l.made l.parts.bus l.parts.stack l.parts.journal × (l.stepped.ended ≡ None) × (vec_len l.rack ≡ l.parts.bus.devices)
    × (let lines = map (λ d. (goal.SerialDevice-dyn g (d.vtable, d.value)).line d.value) in
    Called (g.M.Module.spec l.course.driver) (chip_for l.course.devices l.course.config l.course.script.now) (g.M.Caller.call_of l.course.driver) l.course.script.now l.fn.parts.journal.entries l.parts.journal.entries (lines l.fn.rack.items) (lines l.rack.items))

abbrev pub decreases-loop-made : goal.decreases-loop-made
decreases-loop-made g l = l.course.most - l.parts.stack.steps
