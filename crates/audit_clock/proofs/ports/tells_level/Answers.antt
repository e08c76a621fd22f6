use Rattle.std.proofs.Common.{ap, ◌∙◌}
use Rattle.run_model.specs.Machine.{answers}
use Rattle.module_machines.specs.dio.Values.{level_answer}
use Rattle.audit_clock.proofs.PortLevels.{level_same}
use Rattle.audit_clock.proofs.ports.tells_level.Goals as goal

pub returns : goal.returns
returns c w s outputs around stands =
    c.with_answer.ensures
    ∙ ap answers (c.level_answer.ensures ∙ ap level_answer (c.level.ensures ∙ level_same c.args.pins.now c.args.around.now w s outputs around stands c.args.pin c.requires))
