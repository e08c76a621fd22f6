use Rattle.trace_promises.proofs.Judging.{passed_exactly}
use Rattle.trace_promises.proofs.audits.laws.passed_reports_are_of_runs.Goals as goal

pub returns : goal.returns
returns c call bytes keeps given = passed_exactly call bytes keeps given
