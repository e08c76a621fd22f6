-- The newest frame waits with the mask open.
use Rattle.std.proofs.Common.{sym, ◌∙◌, ap}
use Rattle.std.specs.Prelude.{option_copied}
use Rattle.mcal_base.specs.declared.moves.Move.TheVariants.{Read}
use Rattle.mcal_base.specs.declared.register.Reg.TheVariants.{SerialWait}
use Rattle.audit_subject.specs.Origins.{origin_of}
use Rattle.report_steps.proofs.AwaitLaws.{closed_waits, no_frame_waits, open_waits}
use Rattle.report_steps.proofs.NowLaws.{first_of, none_of}
use Rattle.report_steps.proofs.series.waits_on.Goals as goal

pub returns-in_default : goal.returns-in_default
returns-in_default g c t p stands =
    let s = rw (← c.auditor.view_is) at stands in
    no_frame_waits (g.P.Subject.setting t) p.moment _ s.chip _ s.origins c.args.unit (none_of origin_of _ _ c.as_slice.ensures.value (sym c.first.ensures.value ∙ ap (λ x. option_copied x) c.in_default.is))

pub returns-then-masked : goal.returns-then-masked
returns-then-masked g c t p stands =
    let s = rw (← c.auditor.view_is) at stands in
    closed_waits (g.P.Subject.setting t) p.moment _ s.chip _ s.origins c.args.unit (sym c.masked.ensures ∙ c.if-masked.true)

pub returns : goal.returns
returns g c t p stands =
    let s = rw (← c.auditor.view_is) at stands in
    open_waits (g.P.Subject.setting t) p.moment _ s.chip _ s.origins c.args.unit (origin_of c.in-Some.origin.now) (first_of origin_of _ _ _ c.as_slice.ensures.value (sym c.first.ensures.value ∙ ap (λ x. option_copied x) c.in-Some.is))
    (sym c.masked.ensures ∙ c.if-masked.false) c.names_own.result (c.names_own.ensures ∙ ap (λ y. (g.P.Subject.setting y).may (origin_of c.in-Some.origin.now) (Read (SerialWait c.args.unit))) s.kept_of)
