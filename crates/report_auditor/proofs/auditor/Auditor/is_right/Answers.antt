-- The moment is served where each part is right.
use Rattle.std.proofs.Common.{◌∙◌, ap}
use Rattle.std.proofs.lemmas.Bool.{OnTrue_at, OnTrue_from}
use Rattle.chip_model.specs.Chip.{is_pending}
use Rattle.audit_frames.proofs.Deciding.{no, yes}
use Rattle.report_auditor.proofs.ServedLaws.{open_of, served, time_of}
use Rattle.report_auditor.proofs.ServedParts.{fails}
use Rattle.report_auditor.proofs.auditor.Auditor.is_right.Goals as goal

pub is_open_right-requires-clause-pending : goal.is_open_right-requires-clause-pending
is_open_right-requires-clause-pending g c = λ l. c.pending_lines-pending.ensures l ∙ ap (λ v. is_pending v.chip l) c.self.view_is

pub is_quiet_at_rest-requires-clause-pending : goal.is_quiet_at_rest-requires-clause-pending
is_quiet_at_rest-requires-clause-pending g c = λ l. c.pending_lines-pending.ensures l ∙ ap (λ v. is_pending v.chip l) c.self.view_is

pub returns-then-not-keeps_time-clause-served : goal.returns-then-not-keeps_time-clause-served
returns-then-not-keeps_time-clause-served g c t p s = no (λ h. fails c.keeps_time.result (c.keeps_time.ensures.time t p s) c.if-not-keeps_time.true (time_of (g.P.Subject.setting t) p.moment h))

pub returns-then-not-are_going-clause-served : goal.returns-then-not-are_going-clause-served
returns-then-not-are_going-clause-served g c t p s = no (λ h. fails c.are_going.result (c.are_going.ensures t p s) c.if-not-are_going.true h.going)

pub returns-then-is_shut-clause-served : goal.returns-then-is_shut-clause-served
returns-then-is_shut-clause-served g c t p s =
    let shut = OnTrue_at c.if-is_shut.true (c.is_shut.ensures t p s) in
    served (g.P.Subject.setting t) p.moment
    ((c.keeps_time.ensures.time t p s).says c.if-not-keeps_time.false)
    ((c.are_going.ensures t p s).says c.if-not-are_going.false)
    shut.0
    (yes shut.1)

pub returns-then-is_shut-clause-rate : goal.returns-then-is_shut-clause-rate
returns-then-is_shut-clause-rate g c = OnTrue_at c.if-not-keeps_time.false c.keeps_time.ensures.rate

pub returns-then-not-is_open_right-clause-served : goal.returns-then-not-is_open_right-clause-served
returns-then-not-is_open_right-clause-served g c t p s = no (λ h. fails c.is_open_right.result (c.is_open_right.ensures t p s) c.if-not-is_open_right.true (open_of (g.P.Subject.setting t) p.moment h))

pub returns-clause-served : goal.returns-clause-served
returns-clause-served g c t p s =
    served (g.P.Subject.setting t) p.moment
    ((c.keeps_time.ensures.time t p s).says c.if-not-keeps_time.false)
    ((c.are_going.ensures t p s).says c.if-not-are_going.false)
    ((c.is_open_right.ensures t p s).says c.if-not-is_open_right.false)
    (c.is_quiet_at_rest.ensures t p s)

pub returns-clause-rate : goal.returns-clause-rate
returns-clause-rate g c = OnTrue_from c.is_quiet_at_rest.result _ (λ e. OnTrue_at c.if-not-keeps_time.false c.keeps_time.ensures.rate)
