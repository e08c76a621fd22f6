use Rattle.std.proofs.Common.{◌≡◌, ◌<◌, Ok, arith, ◌∙◌, sym, ap, subst, length, vec_len}
use Rattle.step_runner.proofs.Hung.{takes-same, calls-same}
use Rattle.run_model.specs.Script.{deeds_of}
use Rattle.run_model.specs.Stops.{steps_in}
use Rattle.script_runner.proofs.Taken.{took, few_steps}
use Rattle.script_runner.specs.Scripts.{chip_for}
use Rattle.script_runner.specs.Standing.{TookStep, Waited}
use Rattle.script_runner.proofs.Called.{called_out, called_step, called_then, called_waited}
use Rattle.script_runner.proofs.steps.take_step.Goals as goal

pub step_into-requires-clause-still : goal.step_into-requires-clause-still
step_into-requires-clause-still g c =
    let same = c.if-wait.ensures.stack in
    let w = subst (λ k. Waited (g.M.Module.spec c.args.course.now.driver) (chip_for c.args.course.now.devices c.args.course.now.config c.args.course.now.script.now) (g.M.Caller.call_of c.args.course.now.driver) c.args.course.now.script.now g.M.Frame.Routine.move_of c.args.script_line c.args.parts.now.bus k.frames c.args.parts.now.journal c.wait.new.parts.bus c.wait.new.parts.journal) (sym same) c.if-wait.ensures.on in
    w.still

pub stepped-requires-clause-room : goal.stepped-requires-clause-room
stepped-requires-clause-room g c = let w = c.if-wait.ensures.on in let few = w.few in let room = w.room in let items = c.requires.room.items in omega (arith, few, room, items)

pub stepped-requires-clause-words : goal.stepped-requires-clause-words
stepped-requires-clause-words g c = let w = c.if-wait.ensures.on in let same = ap length w.words in let room = w.words_room in let words = c.requires.room.words in omega (arith, same, room, words, c.answer_is_short-words.ensures)

pub returns-clause-took : goal.returns-clause-took
returns-clause-took g c =
    let same = c.if-wait.ensures.stack in
    let w = subst (λ k. Waited (g.M.Module.spec c.args.course.now.driver) (chip_for c.args.course.now.devices c.args.course.now.config c.args.course.now.script.now) (g.M.Caller.call_of c.args.course.now.driver) c.args.course.now.script.now g.M.Frame.Routine.move_of c.args.script_line c.args.parts.now.bus k.frames c.args.parts.now.journal c.wait.new.parts.bus c.wait.new.parts.journal) (sym same) c.if-wait.ensures.on in
    let steps : c.wait.new.parts.stack.steps ≡ c.args.parts.now.stack.steps = ap (λ k. k.steps) same in
    let counted : steps_in c.wait.new.parts.journal.entries ≡ c.wait.new.parts.stack.steps = w.counted ∙ c.requires.room.counted ∙ sym steps in
    let few = few_steps (g.M.Module.spec c.args.course.now.driver) (chip_for c.args.course.now.devices c.args.course.now.config c.args.course.now.script.now) (g.M.Caller.call_of c.args.course.now.driver) c.args.course.now.script.now g.M.Frame.Routine.move_of g.M.Frame.Routine.left g.M.Frame.Routine.gave c.wait.new.parts.journal.entries c.wait.new.parts.stack.steps c.args.course.now.most counted (omega (arith, steps, c.requires.room.steps)) c.requires.limit in
    let frame : 0 < length c.wait.new.parts.stack.frames = subst (λ k. 0 < length k.frames) (sym same) c.requires.frame in
    let hung : vec_len c.args.rack.now ≡ c.wait.new.parts.bus.devices = c.requires.hung ∙ sym w.devices in
    let deeds = deeds_of (g.M.Caller.call_of c.args.course.now.driver) c.args.course.now.script.now c.wait.new.parts.journal.entries in
    subst (λ k. TookStep (g.M.Module.spec c.args.course.now.driver) (chip_for c.args.course.now.devices c.args.course.now.config c.args.course.now.script.now) (g.M.Caller.call_of c.args.course.now.driver) c.args.course.now.script.now c.args.course.now.most c.args.script_line c.args.parts.now.bus k c.args.parts.now.journal c.step_into.new.stepped c.step_into.new.bus c.step_into.new.stack c.stepped.new.self) same
    (took (g.M.Module.spec c.args.course.now.driver) (chip_for c.args.course.now.devices c.args.course.now.config c.args.course.now.script.now) (g.M.Caller.call_of c.args.course.now.driver) c.args.course.now.script.now g.M.Frame.Routine.move_of g.M.Frame.Routine.left g.M.Frame.Routine.gave c.args.course.now.most c.args.script_line c.args.parts.now.bus c.wait.new.parts.stack.frames c.wait.new.parts.stack.steps c.args.parts.now.journal c.wait.new.parts.bus c.wait.new.parts.journal c.step_into.new.stepped c.step_into.new.bus c.step_into.new.stack c.stepped.new.self
    w (takes-same g.M.Frame.Routine.move_of g.M.Frame.Routine.left g.M.Frame.Routine.gave c.wait.new.parts.stack.frames c.wait.new.parts.stack.steps _ c.wait.new.parts.bus c.step_into.new.stack c.step_into.new.bus (Ok c.step_into.new.stepped) hung c.in-Ok.ensures.step) frame (omega arith)
    (c.in-Ok.ensures.shortens c.args.course.now.driver (chip_for c.args.course.now.devices c.args.course.now.config c.args.course.now.script.now) deeds hung c.requires.fits few w.stands) c.answer_is_short-words.ensures
    (c.in-Ok.ensures.stands c.args.course.now.driver (chip_for c.args.course.now.devices c.args.course.now.config c.args.course.now.script.now) deeds hung c.requires.fits few w.stands) (rw (← c.depth-depth.ensures) c.stepped.ensures))

pub returns-then-steps-course-clause-too_long : goal.returns-then-steps-course-clause-too_long
returns-then-steps-course-clause-too_long g c = (c.if-wait.ensures.stack, omega (arith, ap (λ k. k.steps) c.if-wait.ensures.stack), c.if-wait.ensures.on)

pub returns-then-wait-clause-calls : goal.returns-then-wait-clause-calls
returns-then-wait-clause-calls g c = called_out (g.M.Module.spec c.args.course.now.driver) (chip_for c.args.course.now.devices c.args.course.now.config c.args.course.now.script.now) (g.M.Caller.call_of c.args.course.now.driver) c.args.course.now.script.now c.args.script_line c.args.parts.now.bus c.args.parts.now.stack c.args.parts.now.journal c.wait.new.parts.bus c.wait.new.parts.stack c.wait.new.parts.journal _ c.if-wait.ensures.out

pub returns-then-steps-course-clause-calls : goal.returns-then-steps-course-clause-calls
returns-then-steps-course-clause-calls g c = called_waited (g.M.Module.spec c.args.course.now.driver) (chip_for c.args.course.now.devices c.args.course.now.config c.args.course.now.script.now) (g.M.Caller.call_of c.args.course.now.driver) c.args.course.now.script.now g.M.Frame.Routine.move_of c.args.script_line c.args.parts.now.bus c.args.parts.now.stack.frames c.args.parts.now.journal c.wait.new.parts.bus c.wait.new.parts.journal _ c.requires.frame c.if-wait.ensures.on

pub returns-clause-calls : goal.returns-clause-calls
returns-clause-calls g c =
    let same = c.if-wait.ensures.stack in
    let w = subst (λ k. Waited (g.M.Module.spec c.args.course.now.driver) (chip_for c.args.course.now.devices c.args.course.now.config c.args.course.now.script.now) (g.M.Caller.call_of c.args.course.now.driver) c.args.course.now.script.now g.M.Frame.Routine.move_of c.args.script_line c.args.parts.now.bus k.frames c.args.parts.now.journal c.wait.new.parts.bus c.wait.new.parts.journal) (sym same) c.if-wait.ensures.on in
    let hung : vec_len c.args.rack.now ≡ c.wait.new.parts.bus.devices = c.requires.hung ∙ sym w.devices in
    called_then (g.M.Module.spec c.args.course.now.driver) (chip_for c.args.course.now.devices c.args.course.now.config c.args.course.now.script.now) (g.M.Caller.call_of c.args.course.now.driver) c.args.course.now.script.now c.args.parts.now.journal.entries c.wait.new.parts.journal.entries c.stepped.new.self.entries _ _ _
    (called_waited (g.M.Module.spec c.args.course.now.driver) (chip_for c.args.course.now.devices c.args.course.now.config c.args.course.now.script.now) (g.M.Caller.call_of c.args.course.now.driver) c.args.course.now.script.now g.M.Frame.Routine.move_of c.args.script_line c.args.parts.now.bus c.args.parts.now.stack.frames c.args.parts.now.journal c.wait.new.parts.bus c.wait.new.parts.journal _ c.requires.frame c.if-wait.ensures.on)
    (called_step (g.M.Module.spec c.args.course.now.driver) (chip_for c.args.course.now.devices c.args.course.now.config c.args.course.now.script.now) (g.M.Caller.call_of c.args.course.now.driver) c.args.course.now.script.now c.wait.new.parts.journal c.stepped.new.self c.args.script_line c.depth-depth.result c.step_into.new.stepped _ c.wait.new.parts.bus c.wait.new.parts.stack.frames _ _ c.stepped.ensures w.stands (calls-same _ c.wait.new.parts.bus c.step_into.new.stepped _ _ hung c.in-Ok.ensures.calls))
