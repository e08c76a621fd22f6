-- The lines that are due are known, or they are looked for.
use Rattle.std.proofs.Common.{◌≡◌, subst}
use Rattle.std.specs.Option.{IfSome}
use Rattle.mcal_base.specs.Bits.{bits_of}
use Rattle.report_auditor.proofs.ServedParts.{due_asked, due_is}
use Rattle.report_auditor.proofs.auditor.Auditor.due.Goals as goal

pub returns-in-Some : goal.returns-in-Some
returns-in-Some g c t p stands =
    let s = rw (← c.self.view_is) at stands in
    subst (λ d. IfSome d (λ mask. mask ≡ bits_of ((g.P.Subject.setting t).machine.due p.moment.world p.moment.state) 32)) c.in-Some.is s.seen.due

pub returns-in-None : goal.returns-in-None
returns-in-None g c t p stands =
    let s = rw (← c.self.view_is) at stands in
    let fits = rw (← c.self.view_is) at c.requires.fits in
    let i = c.self.inside in
    let all = due_asked g.P.Whole.agrees g.P.Subject.setting g.P.Part.table g.P.Part.stands g.P.Part.member g.met.P.Subject.member_is t _ p s
    (λ l on. g.met.P.Whole.used_lines i.parts l on) (λ l on. g.met.P.Whole.asked_lines i.parts p.moment.world p.moment.state l s.state on) in
    due_is g.P.Whole.agrees g.P.Subject.setting g.P.Part.table g.P.Part.stands g.P.Part.member g.met.P.Subject.member_is t _ p s c.due_lines.result (c.due_lines.ensures p.moment.world p.moment.state fits s.world s.state all
    (λ l on. g.met.P.Whole.due_bounded i.parts p.moment.world p.moment.state l s.state on))
