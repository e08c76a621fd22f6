use Rattle.machine_laws.proofs.GroupLaws.{abort_outranked, abort_allowed, abort_never}
use Rattle.machine_laws.proofs.converters.groups.aborts_by_higher_priority_alone.Goals as goal

pub returns-clause-outranked : goal.returns-clause-outranked
returns-clause-outranked _ = abort_outranked

pub returns-clause-allowed : goal.returns-clause-allowed
returns-clause-allowed _ = abort_allowed

pub returns-clause-equal : goal.returns-clause-equal
returns-clause-equal _ = abort_never
