-- Proved over the definitions.
use Rattle.std.proofs.Common.{arith}
use Rattle.chip_model.proofs.IncomingLaws.{in_order}
use Rattle.chip_model.proofs.laws.words_that_come_in.Goals as goal

pub returns : goal.returns
returns _ = λ c u xs h lt. in_order u c xs (omega (arith, h.incoming, lt))
