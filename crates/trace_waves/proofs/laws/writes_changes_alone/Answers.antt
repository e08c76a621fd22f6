use Rattle.trace_waves.proofs.ChangeLaws.{are_changes, leave_same, declares_once}
use Rattle.trace_waves.proofs.laws.writes_changes_alone.Goals as goal

pub returns : goal.returns
returns c = record { changes = are_changes; same = leave_same; declares = declares_once }
