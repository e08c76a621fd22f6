use Rattle.std.proofs.Common.{List, ap, subst, ◌∙◌, refl}
use Rattle.std.specs.Prelude.{◌++◌, vec_len}
use Rattle.mcal_base.specs.declared.directive.Directive.{Directive}
use Rattle.sweep_trials.proofs.Stopping.{no_memory, passed, stopped_so}
use Rattle.sweep_trials.proofs.Trying.{block_of}
use Rattle.sweep_trials.specs.Grown.{IsSeen}
use Rattle.sweep_trials.specs.Stops.{StopsOpening, StopsRun}
use Rattle.sweep_trials.specs.Stops.StopsOpening.{Before, Block}
use Rattle.sweep_trials.proofs.sweeping.Sweep.open.Goals as goal

pub new-requires : goal.new-requires
new-requires g c = c.args.self.now.block_some

pub returns-clause-opened : goal.returns-clause-opened
returns-clause-opened g c =
    let parts = c.args.self.now.parts in
    let before = c.in_ok-before.before in
    block_of (g.R.Runs.is_seen c.args.self.now.bench.runs.now) c.args.self.now.bench.following parts.before.now parts.block.now c.copy_behind.new.all.items c.new-before.result.items before (vec_len before.directives) c.new.result c.new-before.ensures.items c.in_ok-copy_behind.ensures c.in_ok-before.ensures.seen refl c.new.ensures.opened

pub returns-clause-stopped : goal.returns-clause-stopped
returns-clause-stopped g c =
    let before = c.in_ok-before.before in
    let given = c.in_ok-copy_behind.ensures ∙ ap (λ (ds : List Directive). ds ++ c.args.self.now.parts.before.now) c.new-before.ensures.items in
    let seen = subst (λ (ds : List Directive). IsSeen (g.R.Runs.is_seen c.args.self.now.bench.runs.now) c.args.self.now.bench.following ds before) given c.in_ok-before.ensures.seen in
    stopped_so (StopsRun (g.R.Runs.is_seen c.args.self.now.bench.runs.now) (g.R.Runs.at_limit c.args.self.now.bench.runs.now) c.args.self.now.bench.following (before.directives.items ++ c.args.self.now.parts.block.now)) (StopsOpening (g.R.Runs.is_seen c.args.self.now.bench.runs.now) (g.R.Runs.at_limit c.args.self.now.bench.runs.now) c.args.self.now.bench.following c.args.self.now.parts.before.now c.args.self.now.parts.block.now) c.new.result (λ stop h. Block before seen h) c.new.ensures.stopped

pub returns-in_err-copy_behind-clause-stopped : goal.returns-in_err-copy_behind-clause-stopped
returns-in_err-copy_behind-clause-stopped g c = no_memory (StopsOpening (g.R.Runs.is_seen c.args.self.now.bench.runs.now) (g.R.Runs.at_limit c.args.self.now.bench.runs.now) c.args.self.now.bench.following c.args.self.now.parts.before.now c.args.self.now.parts.block.now) c.from_residual.result c.from_residual.ensures.1

pub returns-in_err-before-clause-stopped : goal.returns-in_err-before-clause-stopped
returns-in_err-before-clause-stopped g c =
    let given = c.in_ok-copy_behind.ensures ∙ ap (λ (ds : List Directive). ds ++ c.args.self.now.parts.before.now) c.new-before.ensures.items in
    passed (StopsRun (g.R.Runs.is_seen c.args.self.now.bench.runs.now) (g.R.Runs.at_limit c.args.self.now.bench.runs.now) c.args.self.now.bench.following c.copy_behind.new.all.items) (StopsOpening (g.R.Runs.is_seen c.args.self.now.bench.runs.now) (g.R.Runs.at_limit c.args.self.now.bench.runs.now) c.args.self.now.bench.following c.args.self.now.parts.before.now c.args.self.now.parts.block.now) c.from_residual-in_err-before.result c.in_err-before.field-0.0 c.from_residual-in_err-before.ensures.1
    (λ h. Before (subst (λ (ds : List Directive). StopsRun (g.R.Runs.is_seen c.args.self.now.bench.runs.now) (g.R.Runs.at_limit c.args.self.now.bench.runs.now) c.args.self.now.bench.following ds c.in_err-before.field-0.0) given h)) c.in_err-before.ensures.stopped
