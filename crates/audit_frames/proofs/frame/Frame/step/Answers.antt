-- A step that may be made has room.
use Rattle.std.proofs.lemmas.Bool.{OnTrue_at}
use Rattle.audit_frames.proofs.frame.Frame.step.Goals as goal

pub take-requires-clause-steps : goal.take-requires-clause-steps
take-requires-clause-steps c = OnTrue_at c.if-not-may_make.false c.may_make.ensures.steps

pub take-requires-clause-window : goal.take-requires-clause-window
take-requires-clause-window c = OnTrue_at c.if-not-may_make.false c.may_make.ensures.window
