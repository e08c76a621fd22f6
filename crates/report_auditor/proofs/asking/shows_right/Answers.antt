-- Only a notice shows something.
use Rattle.std.proofs.Common.{sym, ◌∙◌, subst}
use Rattle.audit_frames.specs.Decides.{Decides}
use Rattle.audit_subject.specs.Origins.{origin_of}
use Rattle.report_auditor.specs.Asking.{ShowsNext}
use Rattle.report_auditor.proofs.HearLaws.{no_note, shows_first}
use Rattle.report_auditor.proofs.asking.shows_right.Goals as goal

pub returns-then-not-is_note : goal.returns-then-not-is_note
returns-then-not-is_note g c s o stands stood =
    no_note (g.P.Subject.setting (g.P.Part.table c.args.parts.now)) c.args.bus.now s (origin_of c.args.origin.now) o.owed c.args.made.now (sym c.is_note.ensures ∙ c.if-not-is_note.true)

pub returns : goal.returns
returns g c s o stands stood =
    let own = g.P.Subject.setting (g.P.Part.table c.args.parts.now) in
    let x = origin_of c.args.origin.now in
    shows_first own c.args.bus.now s x c.args.frame.now.owed o.owed c.args.made.now c.shows_next.result stood.owed (sym c.is_note.ensures ∙ c.if-not-is_note.false)
    (subst (λ y. Decides c.shows_next.result (ShowsNext (own.shows x) c.args.bus.now s y)) c.next_owed.ensures (c.shows_next.ensures s stands))
