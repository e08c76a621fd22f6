use Rattle.machine_laws.proofs.RoundLaws.{counts, counts_all, still_runs, is_whole}
use Rattle.machine_laws.proofs.converters.chip.rounds_by_times.Goals as goal

pub returns-clause-done : goal.returns-clause-done
returns-clause-done _ b u count n history h idle some few left lt late early = counts b u count history h idle some few left n lt late early

pub returns-clause-all : goal.returns-clause-all
returns-clause-all _ = counts_all

pub returns-clause-runs : goal.returns-clause-runs
returns-clause-runs _ = still_runs

pub returns-clause-finished : goal.returns-clause-finished
returns-clause-finished _ = is_whole
