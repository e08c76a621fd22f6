use Rattle.std.proofs.Common.{◌∙◌, ap}
use Rattle.live_board.proofs.live.Live.step.Goals as goal

pub step_on-requires-clause-free : goal.step_on-requires-clause-free
step_on-requires-clause-free g c = ap (λ s. s.ended) c.due-ticks.ensures.rest ∙ c.requires.free
