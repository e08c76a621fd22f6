-- The steps and the moves of a window fit their types after one more.
use Rattle.std.proofs.Common.{◌<◌, subst, sym}
use Rattle.run_model.specs.Frame.{window_after}
use Rattle.audit_frames.specs.Kept.{Kept}
use Rattle.audit_frames.proofs.frame.Frame.take.Goals as goal

pub after-self-inside-requires-2-clause-steps : goal.after-self-inside-requires-2-clause-steps
after-self-inside-requires-2-clause-steps c = subst (λ (k : Kept). k.pace.steps < 4294967295) (sym c.self.view_is) c.requires.steps

pub after-self-inside-requires-2-clause-window : goal.after-self-inside-requires-2-clause-window
after-self-inside-requires-2-clause-window c = subst (λ (k : Kept). window_after k.pace.inside k.pace.window c.args.step.now.made < 4294967296) (sym c.self.view_is) c.requires.window
