use Rattle.machine_laws.proofs.CountLaws.{one_shot_counts, full_counts, continuous_counts}
use Rattle.machine_laws.proofs.timers.counts.counts_by_times.Goals as goal

pub returns : goal.returns
returns _ = record { one_shot = one_shot_counts; full = full_counts; continuous = continuous_counts }
