use Rattle.std.proofs.Common.{ap, subst, ◌∙◌}
use Rattle.module_machines.specs.mcu.Machine.{filled}
use Rattle.module_machines.specs.mcu.Table.{section_of}
use Rattle.audit_clock.specs.ClockStands.{ClockKept, StandsFor}
use Rattle.audit_clock.proofs.clock.Clock.fill_numbered.Goals as goal

pub returns-in-Some-clause-is : goal.returns-in-Some-clause-is
returns-in-Some-clause-is c s h =
    subst (λ x. StandsFor c.fill_section.new.self (filled x s)) (c.in-Some.ensures ∙ ap (λ (k : ClockKept). section_of k.driver c.args.number) c.self.view_is) (c.fill_section.ensures.is s h)
