use Rattle.std.proofs.Common.{◌∷◌, [], append-nil, append_assoc, drop, take, ◌+◌}
use Rattle.bench_sweep.proofs.Cutting.{cut_at}
use Rattle.bench_sweep.proofs.laws.cut_between_keeps_all.Goals as goal

pub returns-clause-before : goal.returns-clause-before
returns-clause-before c = λ block steps i d n e f. rw (e, f, append-nil (take i block)) (cut_at block i d e)

pub returns-clause-behind : goal.returns-clause-behind
returns-clause-behind c = λ block steps i d n e f. rw (e, f, append_assoc (take i block) (d ∷ []) (drop (i + 1) block)) (cut_at block i d e)
