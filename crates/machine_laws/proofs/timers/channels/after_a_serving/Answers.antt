use Rattle.std.proofs.Common.{◌∙◌, ap}
use Rattle.module_machines.specs.gpt.Machine.{ready}
use Rattle.machine_laws.specs.timers.Channels.{after_all}
use Rattle.machine_laws.proofs.ChannelMarks.{configured, seen_all, mark_is, serving_seen}
use Rattle.machine_laws.proofs.timers.channels.after_a_serving.Goals as goal

pub returns : goal.returns
returns _ d w later s c start target received k out history made there is left =
    let lt = configured d c k there in
    mark_is d later (after_all d out.state history) c start target w.now k there
    (seen_all d out.state c history lt left ∙ (serving_seen w s c out (ready d w s c) made lt ∙ ap (λ x. (x, w.now)) is))
