-- One more call, or one more handler.
use Rattle.std.proofs.Common.{refl}
use Rattle.report_steps.proofs.single.counts.Goals as goal

pub returns-in_ok-tally-in-Call : goal.returns-in_ok-tally-in-Call
returns-in_ok-tally-in-Call c = rw (c.in-Call.is, c.in_ok-tally-in-Call.ensures) refl

pub returns-in_ok-tally-in-Line : goal.returns-in_ok-tally-in-Line
returns-in_ok-tally-in-Line c = rw (c.in-Line.is, c.in_ok-tally-in-Line.ensures) refl
