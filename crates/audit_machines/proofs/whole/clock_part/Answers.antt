use Rattle.std.proofs.Common.{subst, sym}
use Rattle.audit_clock.specs.Sections.{AreShort}
use Rattle.audit_machines.proofs.whole.clock_part.Goals as goal

pub new-requires : goal.new-requires
new-requires c = subst AreShort (sym c.new-table.ensures) c.requires
