-- The watchdog's time ends in the wait for a unit.
use Rattle.std.proofs.Common.{sym, ◌∙◌, ap}
use Rattle.mcal_base.specs.declared.moves.Move.TheVariants.{Read}
use Rattle.mcal_base.specs.declared.register.Reg.TheVariants.{SerialWait}
use Rattle.chip_model.specs.Chip.{stall_of}
use Rattle.report_steps.proofs.AwaitLaws.{ends, few_ticks, idle, lasts}
use Rattle.report_steps.proofs.series.ends_in_a_wait.Goals as goal

pub returns-then-wait-eq0-clause-ends : goal.returns-then-wait-eq0-clause-ends
returns-then-wait-eq0-clause-ends g c t p stands =
    let s = rw (← c.auditor.view_is) at stands in
    idle (g.P.Subject.setting t) p.moment c.args.unit c.stall-wait.result (c.stall-wait.ensures.stall ∙ ap (λ q. stall_of q (Read (SerialWait c.args.unit))) s.chip) c.if-wait-eq0.true

pub returns-then-not-ends_within-clause-ends : goal.returns-then-not-ends_within-clause-ends
returns-then-not-ends_within-clause-ends g c t p stands =
    let s = rw (← c.auditor.view_is) at stands in
    lasts (g.P.Subject.setting t) p.moment c.args.unit c.stall-wait.result (c.stall-wait.ensures.stall ∙ ap (λ q. stall_of q (Read (SerialWait c.args.unit))) s.chip) (sym (c.ends_within.ensures t p stands) ∙ c.if-not-ends_within.true)

pub returns-clause-ends : goal.returns-clause-ends
returns-clause-ends g c t p stands =
    let s = rw (← c.auditor.view_is) at stands in
    ends (g.P.Subject.setting t) p.moment c.args.unit c.stall-wait.result (c.stall-wait.ensures.stall ∙ ap (λ q. stall_of q (Read (SerialWait c.args.unit))) s.chip) c.if-wait-eq0.false (sym (c.ends_within.ensures t p stands) ∙ c.if-not-ends_within.false)
    c.waits_on.result (c.waits_on.ensures t p stands)

pub returns-clause-few : goal.returns-clause-few
returns-clause-few g c on t p stands = few_ticks c.stall-wait.result ((g.P.Subject.setting t).machine.expires p.moment.world p.moment.state) c.stall-wait.ensures.few (sym (c.ends_within.ensures t p stands) ∙ c.if-not-ends_within.false)
