-- Nothing but what is known changes.
use Rattle.std.proofs.Common.{ap}
use Rattle.report_auditor.specs.Auditing.{seeing}
use Rattle.report_auditor.proofs.SeenLaws.{stands_seeing}
use Rattle.report_auditor.proofs.SoundLaws.{seeing_sound}
use Rattle.report_auditor.proofs.auditor.Auditor.looks.Goals as goal

pub returns-clause-same : goal.returns-clause-same
returns-clause-same g c = ap (λ v. seeing c.sees-self-inside.result v) c.self.view_is

pub returns-clause-stands : goal.returns-clause-stands
returns-clause-stands g c t p stands =
    let s = rw (← c.self.view_is) at stands in
    stands_seeing g.P.Whole.agrees g.P.Subject.setting g.P.Part.table g.P.Part.stands t c.sees-self-inside.result _ p (c.sees-self-inside.ensures t p stands) s

pub returns-clause-sound : goal.returns-clause-sound
returns-clause-sound g c given sound =
    let s = rw (← c.self.view_is) at sound in
    seeing_sound g.P.Part.fits g.P.Whole.within given c.sees-self-inside.result _ s
