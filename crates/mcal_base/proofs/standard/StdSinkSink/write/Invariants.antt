-- What repeated writes leave: the bytes that the writer holds, and the count of faults.
use Rattle.std.proofs.Common.{◌≡◌}
use Rattle.std.specs.Io.KnownBytes.{Keeps}
use Rattle.mcal_base.proofs.standard.StdSinkSink.write.Given as goal

abbrev pub invariant-loop : goal.invariant-loop
invariant-loop g l = (l.self.faults ≡ l.initial.self.faults) × Keeps (g.W.Write.contents l.initial.self.inner) (g.W.Write.contents l.self.inner)
