use Rattle.std.proofs.Common.{refl, subst, sym}
use Rattle.module_machines.specs.mcu.Machine.{work}
use Rattle.audit_base.specs.Comes.{Gives}
use Rattle.audit_clock.specs.ClockStands.{StandsFor}
use Rattle.audit_clock.proofs.clock.Clock.work.Goals as goal

pub returns-in-InitRamSection-clause-is : goal.returns-in-InitRamSection-clause-is
returns-in-InitRamSection-clause-is c w s at h =
    subst (λ call. Gives (StandsFor c.fill_numbered.new.self) c.done.result (work c.args.self.now.driver w s call)) (sym c.in-InitRamSection.is)
    (record { told = c.done.ensures; wordless = refl; kept = c.fill_numbered.ensures.is s h })
