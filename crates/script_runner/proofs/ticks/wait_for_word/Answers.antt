use Rattle.std.proofs.Common.{◌∙◌, sym, arith}
use Rattle.script_runner.specs.Scripts.{chip_for}
use Rattle.script_runner.proofs.Events.{slow_chip}
use Rattle.script_runner.proofs.Waits.{looked-up, no-wait, waited, ran-out}
use Rattle.script_runner.proofs.ticks.wait_for_word.Goals as goal

pub returns-then-ticks-eq0-clause-on : goal.returns-then-ticks-eq0-clause-on
returns-then-ticks-eq0-clause-on g c = no-wait (g.M.Module.spec c.args.course.now.driver) (chip_for c.args.course.now.devices c.args.course.now.config c.args.course.now.script.now) (g.M.Caller.call_of c.args.course.now.driver) c.args.course.now.script.now g.M.Frame.Routine.move_of g.M.Frame.Routine.left g.M.Frame.Routine.gave (g.met.M.Module.laws c.args.course.now.driver c.requires.fits) c.args.line c.args.parts.now.bus c.args.parts.now.stack.frames c.args.parts.now.journal c.args.made.now (looked-up g.M.Frame.Routine.move_of c.args.parts.now.stack.frames c.args.made.now c.requires.frame c.requires.looked) (omega (arith, c.stall-ticks.ensures.stall)) c.requires.stands

pub returns-in-Some-clause-out : goal.returns-in-Some-clause-out
returns-in-Some-clause-out g c =
    ran-out (g.M.Module.spec c.args.course.now.driver) (chip_for c.args.course.now.devices c.args.course.now.config c.args.course.now.script.now) (g.M.Caller.call_of c.args.course.now.driver) c.args.course.now.script.now g.M.Frame.Routine.move_of g.M.Frame.Routine.left g.M.Frame.Routine.gave (g.met.M.Module.laws c.args.course.now.driver c.requires.fits) c.args.line c.stall-ticks.result c.in-Some.left c.args.parts.now.bus c.args.parts.now.stack c.args.parts.now.journal c.run_down.new.parts.bus c.run_down.new.parts.stack c.run_down.new.parts.journal c.args.made.now
    (looked-up g.M.Frame.Routine.move_of c.args.parts.now.stack.frames c.args.made.now c.requires.frame c.requires.looked) c.stall-ticks.ensures.stall (omega arith) c.stall-ticks.ensures.few (slow_chip (g.M.Module.spec c.args.course.now.driver) (chip_for c.args.course.now.devices c.args.course.now.config c.args.course.now.script.now) (g.M.Caller.call_of c.args.course.now.driver) c.args.course.now.script.now c.args.parts.now.bus c.args.parts.now.stack.frames c.args.parts.now.journal.entries (λ chip w ps s r. g.met.M.Caller.slow c.args.course.now.driver chip w ps s c.requires.fits r) c.requires.stands) (sym c.left_of.ensures ∙ c.in-Some.is) c.requires.stands c.run_down.ensures

pub returns-in-None-clause-on : goal.returns-in-None-clause-on
returns-in-None-clause-on g c =
    waited (g.M.Module.spec c.args.course.now.driver) (chip_for c.args.course.now.devices c.args.course.now.config c.args.course.now.script.now) (g.M.Caller.call_of c.args.course.now.driver) c.args.course.now.script.now g.M.Frame.Routine.move_of g.M.Frame.Routine.left g.M.Frame.Routine.gave (g.met.M.Module.laws c.args.course.now.driver c.requires.fits) c.args.line c.stall-ticks.result c.args.parts.now.bus c.args.parts.now.stack.frames c.args.parts.now.journal c.tick_on.new.parts.bus c.tick_on.new.parts.journal c.args.made.now
    (looked-up g.M.Frame.Routine.move_of c.args.parts.now.stack.frames c.args.made.now c.requires.frame c.requires.looked) c.stall-ticks.ensures.stall (omega arith) c.stall-ticks.ensures.few (slow_chip (g.M.Module.spec c.args.course.now.driver) (chip_for c.args.course.now.devices c.args.course.now.config c.args.course.now.script.now) (g.M.Caller.call_of c.args.course.now.driver) c.args.course.now.script.now c.args.parts.now.bus c.args.parts.now.stack.frames c.args.parts.now.journal.entries (λ chip w ps s r. g.met.M.Caller.slow c.args.course.now.driver chip w ps s c.requires.fits r) c.requires.stands) c.stall-ticks.ensures.over (sym c.left_of.ensures ∙ c.in-None.is) c.requires.stands c.tick_on.ensures.ticked
