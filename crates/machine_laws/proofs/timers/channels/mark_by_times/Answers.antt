use Rattle.std.proofs.Common.{ap}
use Rattle.module_machines.specs.gpt.Machine.{channel_at}
use Rattle.machine_laws.proofs.ChannelMarks.{mark_is}
use Rattle.machine_laws.proofs.timers.channels.mark_by_times.Goals as goal

pub returns-clause-running : goal.returns-clause-running
returns-clause-running _ d w s c start target k there is =
    mark_is d w s c start target (channel_at s c).dropped k there (ap (λ x. (x, (channel_at s c).dropped)) is)
