use Rattle.sweep_trials.proofs.sweeping.Sweep.inner.Goals as goal

pub inner-requires-clause-some : goal.inner-requires-clause-some
inner-requires-clause-some g c = c.args.self.now.swept_some
