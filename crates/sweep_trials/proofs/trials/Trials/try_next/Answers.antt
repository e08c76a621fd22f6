use Rattle.std.proofs.Common.{ap, sym}
use Rattle.std.specs.Prelude.{vec_len}
use Rattle.sweep_trials.proofs.Stopping.{no_memory, passed}
use Rattle.sweep_trials.specs.Stops.{StopsAt}
use Rattle.sweep_trials.proofs.Trying.{kept_along, tried_more}
use Rattle.sweep_trials.proofs.trials.Trials.try_next.Goals as goal

pub returns-clause-each : goal.returns-clause-each
returns-clause-each g c = λ from p ts.
    let sweep = c.args.sweep.now in
    let all = c.args.all.now in
    tried_more (g.R.Runs.is_seen sweep.bench.runs.now) sweep.bench.following c.args.placed.now sweep.parts.behind.now c.args.opened.now _ _ _ from c.args.place (vec_len all) all.items _ c.in_ok-found.found all.ok.0 p c.in_ok-found.ensures.kept (ap (λ v. v.items) c.count.ensures) ts c.in_ok-found.ensures.tried c.in_ok-push.ensures.items

pub returns-clause-kept : goal.returns-clause-kept
returns-clause-kept g c = kept_along _ _ _ (sym (ap (λ v. v.items) c.count.ensures)) c.in_ok-found.ensures.kept

pub returns-in_err-found-clause-stopped : goal.returns-in_err-found-clause-stopped
returns-in_err-found-clause-stopped g c = passed (StopsAt (g.R.Runs.is_seen c.args.sweep.now.bench.runs.now) (g.R.Runs.at_limit c.args.sweep.now.bench.runs.now) c.args.sweep.now.bench.following c.args.placed.now c.args.sweep.now.parts.behind.now c.args.opened.now c.args.place) (StopsAt (g.R.Runs.is_seen c.args.sweep.now.bench.runs.now) (g.R.Runs.at_limit c.args.sweep.now.bench.runs.now) c.args.sweep.now.bench.following c.args.placed.now c.args.sweep.now.parts.behind.now c.args.opened.now c.args.place) c.from_residual.result c.in_err-found.field-0.0 c.from_residual.ensures.1 (λ h. h) c.in_err-found.ensures.stopped

pub returns-in_err-push-clause-stopped : goal.returns-in_err-push-clause-stopped
returns-in_err-push-clause-stopped g c = no_memory (StopsAt (g.R.Runs.is_seen c.args.sweep.now.bench.runs.now) (g.R.Runs.at_limit c.args.sweep.now.bench.runs.now) c.args.sweep.now.bench.following c.args.placed.now c.args.sweep.now.parts.behind.now c.args.opened.now c.args.place) c.from_residual-in_err-push.result c.from_residual-in_err-push.ensures.1
