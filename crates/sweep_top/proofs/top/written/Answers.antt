use Rattle.std.proofs.Common.{refl}
use Rattle.sweep_top.proofs.Printing.{none_written}
use Rattle.sweep_top.proofs.top.written.Goals as goal

pub returns-in-None-clause-memory : goal.returns-in-None-clause-memory
returns-in-None-clause-memory g c = λ none. (refl, none_written (g.K.Sink.taken c.args.out.now))
