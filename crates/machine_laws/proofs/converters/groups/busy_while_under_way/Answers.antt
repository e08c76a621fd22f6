use Rattle.machine_laws.proofs.GroupLaws.{start_busy, enable_busy, deinit_busy}
use Rattle.machine_laws.proofs.converters.groups.busy_while_under_way.Goals as goal

pub returns-clause-started : goal.returns-clause-started
returns-clause-started _ d s g k b on there none chosen = start_busy d s g k b on there chosen none

pub returns-clause-enabled : goal.returns-clause-enabled
returns-clause-enabled _ d s g input k b on there some chosen = enable_busy d s g k b on there chosen input some

pub returns-clause-deinitialised : goal.returns-clause-deinitialised
returns-clause-deinitialised _ = deinit_busy
