-- What the machines say of the event of a step.
use Rattle.std.proofs.Common.{ℕ, ◌≡◌, None, arith, refl, sym, ◌∙◌, ap, subst}
use Rattle.std.specs.Option.{IfSome}
use Rattle.std.specs.Prelude.{option_copied}
use Rattle.audit_subject.specs.Hearings.{heard_in}
use Rattle.audit_subject.specs.Origins.{origin_of}
use Rattle.report_auditor.proofs.SoundLaws.{times_past}
use Rattle.report_steps.specs.StepParts.{step_told}
use Rattle.report_steps.proofs.HeardLaws.{same_time, still_sound}
use Rattle.report_steps.proofs.HearsLaws.{first_committed, hears, no_frame, no_origin, no_start, origin_is, stood}
use Rattle.report_steps.proofs.NowLaws.{first_of, none_of}
use Rattle.report_steps.proofs.single.hears.Goals as goal

pub starts_right-requires : goal.starts_right-requires
starts_right-requires g c = let ready = rw (← c.auditor.view_is) at c.requires.ready in record { fits = ready.sound.can_tell }

pub hear-requires-clause-fits : goal.hear-requires-clause-fits
hear-requires-clause-fits g c = let ready = rw (← c.auditor.view_is) at c.requires.ready in ready.sound.can_tell

pub hear-requires-clause-count : goal.hear-requires-clause-count
hear-requires-clause-count g c = let time = rw (← c.auditor.view_is) at c.requires.time in time.told

pub hear-requires-clause-short : goal.hear-requires-clause-short
hear-requires-clause-short g c = let time = rw (← c.auditor.view_is) at c.requires.time in omega (arith, time.osc)

pub hear-requires-clause-past : goal.hear-requires-clause-past
hear-requires-clause-past g c =
    let ready = rw (← c.auditor.view_is) at c.requires.ready in
    times_past c.in-Some.frame.now c.args.read.now.made _ (first_committed _ _ c.in-Some.frame.now ready.sound.committed (sym c.top.ensures ∙ ap (λ x. option_copied x) c.in-Some.is))

pub returns-in_default-clause-hears : goal.returns-in_default-clause-hears
returns-in_default-clause-hears g c t p o os stands opens =
    let s = rw (← c.auditor.view_is) at stands in
    no_frame g.P.Whole.agrees g.P.Subject.setting g.P.Part.table g.P.Part.stands g.P.Part.member g.met.P.Subject.member_is t _ p s o os opens c.args.read.now c.args.event (sym c.top.ensures ∙ ap (λ x. option_copied x) c.in_default.is)

pub returns-in_default-first-clause-hears : goal.returns-in_default-first-clause-hears
returns-in_default-first-clause-hears g c t p o os stands opens =
    let s = rw (← c.auditor.view_is) at stands in
    no_origin g.P.Whole.agrees g.P.Subject.setting g.P.Part.table g.P.Part.stands g.P.Part.member g.met.P.Subject.member_is t _ p s o os opens c.args.read.now c.args.event
    (none_of origin_of _ _ c.as_slice.ensures.value (sym c.first.ensures.value ∙ ap (λ x. option_copied x) c.in_default-first.is))

pub returns-then-not-starts_right-clause-hears : goal.returns-then-not-starts_right-clause-hears
returns-then-not-starts_right-clause-hears g c t p o os stands opens =
    let s = rw (← c.auditor.view_is) at stands in
    no_start g.P.Whole.agrees g.P.Subject.setting g.P.Part.table g.P.Part.stands g.P.Part.member g.met.P.Subject.member_is t _ p s o os opens c.args.read.now c.args.event c.in-Some.frame.now (sym c.top.ensures ∙ ap (λ x. option_copied x) c.in-Some.is)
    c.starts_right.result (c.starts_right.ensures p.moment.world p.moment.state s.world s.state) c.if-not-starts_right.true

pub returns-clause-hears : goal.returns-clause-hears
returns-clause-hears g c t p o os stands opens =
    let s = rw (← c.auditor.view_is) at stands in
    let top = sym c.top.ensures ∙ ap (λ x. option_copied x) c.in-Some.is in
    let begun = first_of origin_of _ _ _ c.as_slice.ensures.value (sym c.first.ensures.value ∙ ap (λ x. option_copied x) c.in-Some-first.is) in
    let is = origin_is g.P.Whole.agrees g.P.Subject.setting g.P.Part.table g.P.Part.stands g.P.Part.member g.met.P.Subject.member_is t _ p s o os opens c.args.read.now c.args.event (origin_of c.in-Some-first.origin.now) begun in
    let stood_so = stood g.P.Whole.agrees g.P.Subject.setting g.P.Part.table g.P.Part.stands g.P.Part.member g.met.P.Subject.member_is t _ p s o os opens c.args.read.now c.args.event c.in-Some.frame.now top in
    hears g.P.Whole.agrees g.P.Subject.setting g.P.Part.table g.P.Part.stands g.P.Part.member g.met.P.Subject.member_is t _ p s o os opens c.args.read.now c.args.event c.in-Some.frame.now top
    c.starts_right.result (c.starts_right.ensures p.moment.world p.moment.state s.world s.state) c.if-not-starts_right.false c.hear.new.subject c.hear.new.outside (heard_in c.in-Ok.allowed c.hear.new.heard) c.hear.ensures.table (c.hear.ensures.world p.moment.world s.world)
    (c.in-Ok.ensures.hears p.moment o (step_told c.args.read.now c.args.event None) s.world s.state is stood_so refl refl)

pub returns-clause-sound : goal.returns-clause-sound
returns-clause-sound g c given before =
    let ready = rw (← c.auditor.view_is) at before in
    still_sound g.P.Part.fits g.P.Whole.within given _ c.hear.new.subject c.hear.new.outside ready.sound c.in-Ok.ensures.fits (g.met.P.Whole.stays _ c.hear.new.subject c.hear.ensures.table ready.sound.in_limits) c.hear.ensures.world

pub returns-clause-now : goal.returns-clause-now
returns-clause-now g c =
    let ready = rw (← c.auditor.view_is) at c.requires.ready in
    subst (λ (n : ℕ). IfSome (heard_in c.in-Ok.allowed c.hear.new.heard) (λ h. h.around.time ≡ n)) (same_time _ c.hear.new.outside ready.sound.around ready.sound.world c.hear.ensures.world) c.in-Ok.ensures.now
