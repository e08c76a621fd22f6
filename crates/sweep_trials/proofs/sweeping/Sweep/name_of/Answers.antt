use Rattle.std.proofs.Common.{arith}
use Rattle.sweep_trials.proofs.Naming.{named_pair, stops_name}
use Rattle.sweep_trials.proofs.Stopping.{no_memory}
use Rattle.sweep_trials.specs.Stops.{StopsName}
use Rattle.sweep_trials.proofs.sweeping.Sweep.name_of.Goals as goal

pub returns-in-Some-clause-name : goal.returns-in-Some-clause-name
returns-in-Some-clause-name g c =
    named_pair (g.R.Runs.is_seen c.args.self.now.bench.runs.now) c.args.self.now.bench.following c.args.self.now.parts.swept.now c.args.opened.now c.args.moment c.in-Some.second c.min-first.result c.name_of_pair.result c.in-Some.is (omega (arith, c.min-first.ensures, c.count.ensures.is)) c.name_of_pair.ensures.name

pub returns-in-Some-clause-stopped : goal.returns-in-Some-clause-stopped
returns-in-Some-clause-stopped g c =
    stops_name (g.R.Runs.is_seen c.args.self.now.bench.runs.now) (g.R.Runs.at_limit c.args.self.now.bench.runs.now) c.args.self.now.bench.following c.args.self.now.parts.swept.now c.args.opened.now c.args.moment c.in-Some.second c.min-first.result c.name_of_pair.result c.in-Some.is (omega (arith, c.min-first.ensures, c.count.ensures.is)) c.name_of_pair.ensures.stopped

pub returns-in_err-name-in-None-clause-stopped : goal.returns-in_err-name-in-None-clause-stopped
returns-in_err-name-in-None-clause-stopped g c = no_memory (StopsName (g.R.Runs.is_seen c.args.self.now.bench.runs.now) (g.R.Runs.at_limit c.args.self.now.bench.runs.now) c.args.self.now.bench.following c.args.self.now.parts.swept.now c.args.opened.now c.args.moment) c.from_residual.result c.from_residual.ensures.1
