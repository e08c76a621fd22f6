use Rattle.sweep_trials.specs.Grown.{AreGrown}
use Rattle.sweep_trials.proofs.followed.run_followed.Given as goal

abbrev pub invariant-loop-put : goal.invariant-loop-put
invariant-loop-put g l = AreGrown (g.R.Runs.is_seen l.runs) l.following l.fn.start.items l.put l.directives.items
