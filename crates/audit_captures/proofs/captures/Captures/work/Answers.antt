use Rattle.std.proofs.Common.{subst, sym}
use Rattle.module_machines.specs.icu.Machine.{work}
use Rattle.audit_base.specs.Comes.{Gives}
use Rattle.audit_captures.specs.Stands.{StandsFor}
use Rattle.audit_captures.proofs.captures.Captures.work.Goals as goal

pub returns-in-Init-clause-is : goal.returns-in-Init-clause-is
returns-in-Init-clause-is c s h = subst (λ call. Gives (StandsFor c.clear.new.self) c.clear.result (work c.args.self.now.driver s call)) (sym c.in-Init.is) (c.clear.ensures.is s h)

pub returns-in-DeInit-clause-is : goal.returns-in-DeInit-clause-is
returns-in-DeInit-clause-is c s h = subst (λ call. Gives (StandsFor c.clear-in-DeInit.new.self) c.clear-in-DeInit.result (work c.args.self.now.driver s call)) (sym c.in-DeInit.is) (c.clear-in-DeInit.ensures.is s h)

pub returns-in-Channel-clause-is : goal.returns-in-Channel-clause-is
returns-in-Channel-clause-is c s h = subst (λ call. Gives (StandsFor c.asked.new.self) c.asked.result (work c.args.self.now.driver s call)) (sym c.in-Channel.is) (c.asked.ensures.is s h)
