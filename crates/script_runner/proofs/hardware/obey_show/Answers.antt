use Rattle.std.proofs.Common.{sym, subst, ap, arith, ◌∙◌}
use Rattle.run_model.specs.Entry.{Happens, written, words_of_order}
use Rattle.script_runner.specs.Scripts.{chip_for}
use Rattle.script_runner.specs.Standing.{Obeyed}
use Rattle.script_runner.proofs.Events.{shows, shows_not}
use Rattle.script_runner.proofs.hardware.obey_show.Goals as goal

pub returns-then-depth-eq0 : goal.returns-then-depth-eq0
returns-then-depth-eq0 g c =
    subst (λ o. Obeyed (g.M.Module.spec c.args.course.now.driver) (chip_for c.args.course.now.devices c.args.course.now.config c.args.course.now.script.now) (g.M.Caller.call_of c.args.course.now.driver) c.args.course.now.script.now c.args.course.now.most c.args.directive.now.line o c.args.parts.now.bus c.args.parts.now.stack c.args.parts.now.journal c.args.parts.now.bus c.args.parts.now.stack c.happened.new.self) (sym c.requires.show)
    (shows (g.M.Module.spec c.args.course.now.driver) (chip_for c.args.course.now.devices c.args.course.now.config c.args.course.now.script.now) (g.M.Caller.call_of c.args.course.now.driver) c.args.course.now.script.now c.args.course.now.most c.args.directive.now.line c.depth-depth.result c.args.shown c.args.parts.now.bus c.args.parts.now.stack c.args.parts.now.journal c.happened.new.self
    c.requires.room.steps (omega arith) c.depth-depth.ensures
    (c.happened.ensures ∙ ap (λ o. written c.args.parts.now.journal c.args.directive.now.line c.depth-depth.result (Happens o) (words_of_order o)) c.requires.show)
    c.requires.stands)

pub returns-else-depth-eq0 : goal.returns-else-depth-eq0
returns-else-depth-eq0 g c =
    subst (λ o. Obeyed (g.M.Module.spec c.args.course.now.driver) (chip_for c.args.course.now.devices c.args.course.now.config c.args.course.now.script.now) (g.M.Caller.call_of c.args.course.now.driver) c.args.course.now.script.now c.args.course.now.most c.args.directive.now.line o c.args.parts.now.bus c.args.parts.now.stack c.args.parts.now.journal c.args.parts.now.bus c.args.parts.now.stack c.held.new.self) (sym c.requires.show)
    (shows_not (g.M.Module.spec c.args.course.now.driver) (chip_for c.args.course.now.devices c.args.course.now.config c.args.course.now.script.now) (g.M.Caller.call_of c.args.course.now.driver) c.args.course.now.script.now c.args.course.now.most c.args.directive.now.line c.depth-depth.result c.args.shown c.args.parts.now.bus c.args.parts.now.stack c.args.parts.now.journal c.held.new.self
    c.requires.room.steps (omega arith) c.depth-depth.ensures c.held.ensures c.requires.stands)
