-- What an event tells is written down where the machine allows it.
use Rattle.std.proofs.Common.{sym, ◌∙◌, ap, subst}
use Rattle.run_model.specs.Frame.{Brought, happening_of, outcome_of}
use Rattle.audit_base.specs.Deeds.{Follows}
use Rattle.audit_base.specs.Outside.{AreTimes, ArePast}
use Rattle.audit_subject.specs.Origins.{origin_of}
use Rattle.audit_subject.specs.Tellings.{times_at}
use Rattle.audit_subject.proofs.telling.tell_into.Goals as goal

pub tell_event-requires-clause-past : goal.tell_event-requires-clause-past
tell_event-requires-clause-past g c =
    let now = c.args.outside.now.time in
    subst (λ ts. ArePast ts now) (sym (c.times_at-times.ensures ∙ ap (λ cs. times_at cs now) c.committed.ensures)) c.requires.past

pub returns-in-Some-clause-follows : goal.returns-in-Some-clause-follows
returns-in-Some-clause-follows g c w s committed at times stands =
    let now = c.args.outside.now.time in
    let mac = (g.P.Part.member (g.P.Part.table c.args.part.now)).machine in
    let b : Brought = record { received = c.args.received; committed = committed } in
    let given = subst (λ ts. AreTimes ts committed) (sym (c.times_at-times.ensures ∙ ap (λ cs. times_at cs now) c.committed.ensures)) times in
    subst (λ d. Follows (g.P.Part.stands c.tell_event.new.part) s d (outcome_of mac w s (happening_of (origin_of c.args.origin.now) b c.args.event))) c.in-Some.is
    (c.in_ok-done.ensures.follows w s committed at given stands)

pub returns-in-None-clause-follows : goal.returns-in-None-clause-follows
returns-in-None-clause-follows g c w s committed at times stands =
    let now = c.args.outside.now.time in
    let mac = (g.P.Part.member (g.P.Part.table c.args.part.now)).machine in
    let b : Brought = record { received = c.args.received; committed = committed } in
    let given = subst (λ ts. AreTimes ts committed) (sym (c.times_at-times.ensures ∙ ap (λ cs. times_at cs now) c.committed.ensures)) times in
    subst (λ d. Follows (g.P.Part.stands c.tell_event.new.part) s d (outcome_of mac w s (happening_of (origin_of c.args.origin.now) b c.args.event))) c.in-None.is
    (c.in_ok-done.ensures.follows w s committed at given stands)
