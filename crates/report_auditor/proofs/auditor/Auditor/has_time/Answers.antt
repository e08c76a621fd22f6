-- Each bound is looked at.
use Rattle.std.proofs.Common.{nat_lt, arith}
use Rattle.std.proofs.lemmas.Bool.{OnTrue_from}
use Rattle.report_auditor.specs.Auditing.{HasTime}
use Rattle.mcal_base.specs.facts.Numbers.{lt_is}
use Rattle.report_auditor.proofs.auditor.Auditor.has_time.Goals as goal

pub returns : goal.returns
returns g c = rw (← c.self.view_is) (OnTrue_from (nat_lt c.self.inside.outside.time 4611686018427387904) (HasTime c.self.inside.outside) (λ e. record { told = omega arith; osc = omega arith; time = lt_is c.self.inside.outside.time 4611686018427387904 e }))
