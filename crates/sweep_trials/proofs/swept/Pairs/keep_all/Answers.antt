use Rattle.std.proofs.Common.{◌∙◌}
use Rattle.sweep_trials.proofs.Stopping.{memory_only}
use Rattle.sweep_trials.proofs.Pairing.{kept_more}
use Rattle.sweep_trials.proofs.swept.Pairs.keep_all.Goals as goal

pub loop-second-preserved : goal.loop-second-preserved
loop-second-preserved c = let l = c.loop-second in record {
  moments = kept_more (λ t. t.0) c.args.number c.args.first l.second c.args.tried.now _ _ _ _ c.loop-second-test.true c.in_ok-keep.ensures.moments l.invariant.moments;
  settled = kept_more (λ t. t.1) c.args.number c.args.first l.second c.args.tried.now _ _ _ _ c.loop-second-test.true c.in_ok-keep.ensures.settled l.invariant.settled;
  skipped = c.in_ok-keep.ensures.skipped ∙ l.invariant.skipped;
}

pub returns-in_err-keep-clause-memory : goal.returns-in_err-keep-clause-memory
returns-in_err-keep-clause-memory c = memory_only c.from_residual.result c.in_err-keep.field-0.0 c.from_residual.ensures.1 c.in_err-keep.ensures.memory
