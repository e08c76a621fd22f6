-- What the event of the newest frame touches.
use Rattle.std.proofs.Common.{sym, ◌∙◌, ap}
use Rattle.std.specs.Prelude.{option_copied}
use Rattle.audit_subject.specs.Origins.{origin_of}
use Rattle.audit_whole.specs.Touching.{by_event}
use Rattle.report_auditor.proofs.SeenLaws.{first_is, no_first}
use Rattle.report_auditor.proofs.auditor.Auditor.touched_by.Goals as goal

pub returns-in-Some : goal.returns-in-Some
returns-in-Some g c x xs is =
    let same = rw (← c.self.view_is) at is in
    let first = rw c.as_slice.ensures.value at (sym c.first.ensures.value ∙ ap (λ y. option_copied y) c.in-Some.is) in
    rw (← c.self.view_is) (c.by_event.ensures ∙ ap (λ y. by_event (g.P.Subject.setting (g.P.Part.table c.self.inside.parts)) y c.args.event) (first_is origin_of c.self.inside.origins.items _ x xs first same))

pub returns-in-None : goal.returns-in-None
returns-in-None g c x xs is =
    let same = rw (← c.self.view_is) at is in
    let first = rw c.as_slice.ensures.value at (sym c.first.ensures.value ∙ ap (λ y. option_copied y) c.in-None.is) in
    absurd (no_first origin_of c.self.inside.origins.items x xs first same)
