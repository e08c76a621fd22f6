-- A step waits as its line says.
use Rattle.std.proofs.Common.{not, refl, ◌∙◌, ap}
use Rattle.audit_frames.proofs.Deciding.{clear, valued}
use Rattle.chip_model.specs.Chip.{stall_of}
use Rattle.run_model.specs.Follows.{ends_within}
use Rattle.report_steps.proofs.AwaitLaws.{not_busy, not_waiting, other_wait, waits_so}
use Rattle.report_steps.proofs.series.waits_right.Goals as goal

pub returns-then-ticks-eq0 : goal.returns-then-ticks-eq0
returns-then-ticks-eq0 g c t p stands = not_busy (g.P.Subject.setting t) p.moment c.args.step.now.made c.args.ticks _ refl c.if-ticks-eq0.true

pub returns-then-not-may_wait : goal.returns-then-not-may_wait
returns-then-not-may_wait g c t p stands = not_waiting (g.P.Subject.setting t) p.moment c.args.step.now.made c.args.ticks _ refl c.may_wait.result (c.may_wait.ensures t p stands) c.if-not-may_wait.true

pub returns-then-wait-ticks : goal.returns-then-wait-ticks
returns-then-wait-ticks g c t p stands =
    let s = rw (← c.auditor.view_is) at stands in
    other_wait (g.P.Subject.setting t) p.moment c.args.step.now.made c.args.ticks c.stall-wait.result (c.stall-wait.ensures.stall ∙ ap (λ q. stall_of q c.args.step.now.made) s.chip) c.if-wait-ticks.true

pub returns : goal.returns
returns g c t p stands =
    let s = rw (← c.auditor.view_is) at stands in
    waits_so (g.P.Subject.setting t) p.moment c.args.step.now.made c.args.ticks c.stall-wait.result (c.stall-wait.ensures.stall ∙ ap (λ q. stall_of q c.args.step.now.made) s.chip) c.if-ticks-eq0.false
    ((c.may_wait.ensures t p stands).says c.if-not-may_wait.false) c.if-wait-ticks.false _
    (valued (ap not (c.ends_within.ensures t p stands)) (clear (ends_within c.stall-wait.result ((g.P.Subject.setting t).machine.expires p.moment.world p.moment.state))))
