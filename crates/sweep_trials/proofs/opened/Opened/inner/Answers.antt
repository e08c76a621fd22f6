use Rattle.std.proofs.Common.{List, arith, length, length-append, ap, subst}
use Rattle.std.specs.Prelude.{◌++◌, vec_len}
use Rattle.mcal_base.specs.declared.directive.Directive.{Directive}
use Rattle.sweep_trials.proofs.Stopping.{no_memory, place_there, stopped_so}
use Rattle.sweep_trials.proofs.Trying.{inner_of, inner_start}
use Rattle.sweep_trials.specs.Stops.{StopsInner, StopsRun}
use Rattle.sweep_trials.proofs.opened.Opened.inner.Goals as goal

pub new-requires : goal.new-requires
new-requires g c = omega (arith, c.requires.some, ap (λ (ds : List Directive). length ds) c.in_ok-block.ensures, ap (λ (ds : List Directive). length ds) c.deref.ensures.value, length-append c.args.placed.now c.in_ok-cut.cut.on.items)

pub returns-clause-opened : goal.returns-clause-opened
returns-clause-opened g c =
    let before = c.in_ok-before.before in
    let cut = c.in_ok-cut in
    inner_of (g.R.Runs.is_seen c.args.bench.now.runs.now) c.args.bench.now.following c.args.self.now c.args.placed.now c.args.place before.items c.in_ok-block.block.items cut.cut.up.items cut.cut.on.items (vec_len before) c.new.result cut.ensures.up cut.ensures.on c.in_ok-before.ensures c.in_ok-block.ensures (omega (arith, before.ok.0)) (rw c.deref.ensures.value at c.new.ensures.opened)

pub returns-clause-stopped : goal.returns-clause-stopped
returns-clause-stopped g c =
    let before = c.in_ok-before.before in
    let block = c.in_ok-block.block in
    let cut = c.in_ok-cut in
    let p = place_there c.args.self.now c.args.place c.requires.there in
    stopped_so (StopsRun (g.R.Runs.is_seen c.args.bench.now.runs.now) (g.R.Runs.at_limit c.args.bench.now.runs.now) c.args.bench.now.following (before.items ++ block.items)) (StopsInner (g.R.Runs.is_seen c.args.bench.now.runs.now) (g.R.Runs.at_limit c.args.bench.now.runs.now) c.args.bench.now.following c.args.placed.now c.args.self.now c.args.place) c.new.result
    (λ stop h. record { place = p.0; is = p.1; stops = subst (λ (ds : List Directive). StopsRun (g.R.Runs.is_seen c.args.bench.now.runs.now) (g.R.Runs.at_limit c.args.bench.now.runs.now) c.args.bench.now.following ds stop) (inner_start c.args.self.now c.args.placed.now before.items block.items cut.cut.up.items cut.cut.on.items p.0 (cut.ensures.up p.0 p.1) (cut.ensures.on p.0 p.1) c.in_ok-before.ensures c.in_ok-block.ensures) h })
    (rw c.deref.ensures.value at c.new.ensures.stopped)

pub returns-in_err-cut-clause-stopped : goal.returns-in_err-cut-clause-stopped
returns-in_err-cut-clause-stopped g c = no_memory (StopsInner (g.R.Runs.is_seen c.args.bench.now.runs.now) (g.R.Runs.at_limit c.args.bench.now.runs.now) c.args.bench.now.following c.args.placed.now c.args.self.now c.args.place) c.from_residual.result c.from_residual.ensures.1

pub returns-in_err-before-clause-stopped : goal.returns-in_err-before-clause-stopped
returns-in_err-before-clause-stopped g c = no_memory (StopsInner (g.R.Runs.is_seen c.args.bench.now.runs.now) (g.R.Runs.at_limit c.args.bench.now.runs.now) c.args.bench.now.following c.args.placed.now c.args.self.now c.args.place) c.from_residual-in_err-before.result c.from_residual-in_err-before.ensures.1

pub returns-in_err-block-clause-stopped : goal.returns-in_err-block-clause-stopped
returns-in_err-block-clause-stopped g c = no_memory (StopsInner (g.R.Runs.is_seen c.args.bench.now.runs.now) (g.R.Runs.at_limit c.args.bench.now.runs.now) c.args.bench.now.following c.args.placed.now c.args.self.now c.args.place) c.from_residual-in_err-block.result c.from_residual-in_err-block.ensures.1
