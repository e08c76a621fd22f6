use Rattle.std.proofs.Common.{ap, ◌∙◌}
use Rattle.run_model.specs.Machine.{answers, number}
use Rattle.module_machines.specs.dio.Values.{moved_down}
use Rattle.audit_clock.proofs.PortLevels.{value_same}
use Rattle.audit_clock.proofs.ports.tells_value.Goals as goal

pub returns : goal.returns
returns c w s outputs around stands =
    let x = c.args.chosen in
    c.with_answer.ensures
    ∙ ap answers (c.number.ensures ∙ ap number (c.moved_down.ensures ∙ ap (moved_down x) (c.value-value.ensures ∙ value_same c.args.pins.now c.args.around.now w s outputs around stands x.port c.requires)))
