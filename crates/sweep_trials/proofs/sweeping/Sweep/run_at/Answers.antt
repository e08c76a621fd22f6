use Rattle.std.proofs.Common.{arith}
use Rattle.sweep_trials.proofs.Numbering.{place_seen}
use Rattle.sweep_trials.proofs.Stopping.{stopped_so}
use Rattle.sweep_trials.specs.Stops.{StopsAt, StopsShown}
use Rattle.sweep_trials.specs.Stops.StopsShown.{At, NoPlace}
use Rattle.sweep_trials.proofs.sweeping.Sweep.run_at.Goals as goal

pub returns-then-count-number-clause-stopped_once : goal.returns-then-count-number-clause-stopped_once
returns-then-count-number-clause-stopped_once g c = λ once. rw c.count-then-count-number.ensures.is (NoPlace (omega (arith, c.if-count-number.true, c.count.ensures.is)))

pub returns-clause-once : goal.returns-clause-once
returns-clause-once g c = λ once. place_seen (g.R.Runs.is_seen c.args.self.now.bench.runs.now) c.args.self.now.bench.following c.args.self.now.parts.swept.now c.args.self.now.parts.behind.now c.args.opened.now c.args.number c.with.result (omega (arith, c.if-count-number.false, c.count.ensures.is)) c.with.ensures.seen

pub returns-clause-stopped_once : goal.returns-clause-stopped_once
returns-clause-stopped_once g c = λ once.
    let s = c.args.self.now in
    stopped_so (StopsAt (g.R.Runs.is_seen c.args.self.now.bench.runs.now) (g.R.Runs.at_limit c.args.self.now.bench.runs.now) c.args.self.now.bench.following s.parts.swept.now s.parts.behind.now c.args.opened.now c.args.number) (StopsShown (g.R.Runs.is_seen c.args.self.now.bench.runs.now) (g.R.Runs.at_limit c.args.self.now.bench.runs.now) c.args.self.now.bench.following c.args.self.now.parts.swept.now c.args.self.now.parts.behind.now c.args.opened.now c.args.number) c.with.result (λ stop h. At stop h) c.with.ensures.stopped
