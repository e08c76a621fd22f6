use Rattle.std.proofs.Common.{subst, refl}
use Rattle.module_machines.specs.port.Machine.{Put, with_change}
use Rattle.audit_clock.specs.PinStands.{StandsFor}
use Rattle.audit_clock.proofs.ports.puts_value.Goals as goal

pub returns-clause-is : goal.returns-clause-is
returns-clause-is c s outputs stands = record {
  told = c.nothing.ensures;
  wordless = refl;
  kept = subst (λ word. StandsFor c.put.new.self (with_change s (Put c.args.chosen.port word))) c.word_of.ensures (c.put.ensures.is s stands);
}
