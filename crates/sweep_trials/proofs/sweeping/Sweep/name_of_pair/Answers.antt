use Rattle.std.specs.Prelude.{string_bytes}
use Rattle.sweep_trials.proofs.Stopping.{no_memory, passed}
use Rattle.sweep_trials.specs.Stops.{StopsInner}
use Rattle.sweep_trials.proofs.sweeping.Sweep.name_of_pair.Goals as goal

pub returns-clause-name : goal.returns-clause-name
returns-clause-name g c = record {
  inner = c.in_ok-inner.inner;
  opened = c.in_ok-inner.ensures.opened;
  front = string_bytes c.in_ok-front.front;
  back = string_bytes c.in_ok-back.back;
  first_is = c.in_ok-front.ensures;
  second_is = c.in_ok-back.ensures;
  is = c.in_ok-format.ensures.ok;
}

pub returns-in_err-inner-clause-stopped : goal.returns-in_err-inner-clause-stopped
returns-in_err-inner-clause-stopped g c = passed (StopsInner (g.R.Runs.is_seen c.args.self.now.bench.runs.now) (g.R.Runs.at_limit c.args.self.now.bench.runs.now) c.args.self.now.bench.following c.args.self.now.parts.swept.now c.args.opened.now c.args.first) (StopsInner (g.R.Runs.is_seen c.args.self.now.bench.runs.now) (g.R.Runs.at_limit c.args.self.now.bench.runs.now) c.args.self.now.bench.following c.args.self.now.parts.swept.now c.args.opened.now c.args.first) c.from_residual.result c.in_err-inner.field-0.0 c.from_residual.ensures.1 (λ h. h) c.in_err-inner.ensures.stopped

pub returns-in_err-front-clause-stopped : goal.returns-in_err-front-clause-stopped
returns-in_err-front-clause-stopped g c = no_memory (StopsInner (g.R.Runs.is_seen c.args.self.now.bench.runs.now) (g.R.Runs.at_limit c.args.self.now.bench.runs.now) c.args.self.now.bench.following c.args.self.now.parts.swept.now c.args.opened.now c.args.first) c.from_residual-in_err-front.result c.from_residual-in_err-front.ensures.1

pub returns-in_err-back-clause-stopped : goal.returns-in_err-back-clause-stopped
returns-in_err-back-clause-stopped g c = no_memory (StopsInner (g.R.Runs.is_seen c.args.self.now.bench.runs.now) (g.R.Runs.at_limit c.args.self.now.bench.runs.now) c.args.self.now.bench.following c.args.self.now.parts.swept.now c.args.opened.now c.args.first) c.from_residual-in_err-back.result c.from_residual-in_err-back.ensures.1

pub returns-in_err-format-clause-stopped : goal.returns-in_err-format-clause-stopped
returns-in_err-format-clause-stopped g c = no_memory (StopsInner (g.R.Runs.is_seen c.args.self.now.bench.runs.now) (g.R.Runs.at_limit c.args.self.now.bench.runs.now) c.args.self.now.bench.following c.args.self.now.parts.swept.now c.args.opened.now c.args.first) c.from_residual-in_err-format.result c.from_residual-in_err-format.ensures.1
