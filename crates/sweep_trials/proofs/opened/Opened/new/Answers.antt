use Rattle.std.proofs.Common.{ℕ, List, Ok, refl, subst, arith}
use Rattle.std.specs.Prelude.{◌++◌, vec_len}
use Rattle.mcal_base.specs.declared.directive.Directive.{Directive}
use Rattle.sweep_trials.proofs.Grown.{block_stays}
use Rattle.sweep_trials.proofs.Stopping.{no_memory, passed}
use Rattle.sweep_trials.proofs.Trying.{opened_of}
use Rattle.sweep_trials.specs.Stops.{StopsRun}
use Rattle.sweep_trials.proofs.opened.Opened.new.Goals as goal

pub of-requires : goal.of-requires
of-requires g c =
    let found = c.in_ok-found.found in
    omega (arith, block_stays c.args.before.items c.args.block.now c.copy_behind.new.all.items found.directives.items c.in_ok-copy_behind.ensures c.requires c.in_ok-found.ensures.seen.grown, c.len-count.ensures, c.args.before.ok.0, found.directives.ok.0)

pub returns-clause-opened : goal.returns-clause-opened
returns-clause-opened g c = opened_of {E = ℕ} (g.R.Runs.is_seen c.args.bench.now.runs.now) c.args.bench.now.following (c.args.before.items ++ c.args.block.now) c.copy_behind.new.all.items (vec_len c.args.before) c.len-count.result c.in_ok-found.found (Ok c.in_ok-of.field-0) c.in_ok-copy_behind.ensures c.len-count.ensures c.in_ok-found.ensures.seen c.in_ok-of.ensures.before c.in_ok-of.ensures.block c.in_ok-of.ensures.steps c.in_ok-of.ensures.made c.in_ok-of.ensures.moves (c.in_ok-of.ensures.named (c.in_ok-found.ensures.named refl))

pub returns-in_err-copy_behind-clause-stopped : goal.returns-in_err-copy_behind-clause-stopped
returns-in_err-copy_behind-clause-stopped g c = no_memory (StopsRun (g.R.Runs.is_seen c.args.bench.now.runs.now) (g.R.Runs.at_limit c.args.bench.now.runs.now) c.args.bench.now.following (c.args.before.items ++ c.args.block.now)) c.from_residual.result c.from_residual.ensures.1

pub returns-in_err-found-clause-stopped : goal.returns-in_err-found-clause-stopped
returns-in_err-found-clause-stopped g c =
    passed (StopsRun (g.R.Runs.is_seen c.args.bench.now.runs.now) (g.R.Runs.at_limit c.args.bench.now.runs.now) c.args.bench.now.following c.copy_behind.new.all.items) (StopsRun (g.R.Runs.is_seen c.args.bench.now.runs.now) (g.R.Runs.at_limit c.args.bench.now.runs.now) c.args.bench.now.following (c.args.before.items ++ c.args.block.now)) c.from_residual-in_err-found.result c.in_err-found.field-0.0 c.from_residual-in_err-found.ensures.1
    (λ h. subst (λ (ds : List Directive). StopsRun (g.R.Runs.is_seen c.args.bench.now.runs.now) (g.R.Runs.at_limit c.args.bench.now.runs.now) c.args.bench.now.following ds c.in_err-found.field-0.0) c.in_ok-copy_behind.ensures h) c.in_err-found.ensures.stopped

pub returns-in_err-of-clause-stopped : goal.returns-in_err-of-clause-stopped
returns-in_err-of-clause-stopped g c = no_memory (StopsRun (g.R.Runs.is_seen c.args.bench.now.runs.now) (g.R.Runs.at_limit c.args.bench.now.runs.now) c.args.bench.now.following (c.args.before.items ++ c.args.block.now)) c.from_residual-in_err-of.result c.from_residual-in_err-of.ensures.1
