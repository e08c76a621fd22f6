-- Without an event the machine is told nothing.
use Rattle.std.proofs.Common.{refl, sym, subst, Some, None}
use Rattle.std.specs.Prelude.{IfOk}
use Rattle.run_model.specs.Frame.{Brought, happening_at, outcome_of}
use Rattle.audit_base.specs.declared.done.Done.{Done}
use Rattle.audit_subject.specs.Origins.{origin_of}
use Rattle.audit_subject.specs.Tellings.{Came, done_in}
use Rattle.audit_subject.proofs.telling.tell.Goals as goal

pub returns-in-Some-clause-came : goal.returns-in-Some-clause-came
returns-in-Some-clause-came g c w s committed at times stands =
    let mac = (g.P.Part.member (g.P.Part.table c.args.part.now)).machine in
    let b : Brought = record { received = c.args.received; committed = committed } in
    let o = origin_of c.args.origin.now in
    subst (λ e. IfOk c.tell_into.result (λ allowed. Came (g.P.Part.stands c.tell_into.new.part) s e (done_in allowed c.tell_into.new.heard) (outcome_of mac w s (happening_at o b e)))) (sym c.in-Some.is)
    (c.tell_into.ensures.follows w s committed at times stands)

pub returns-in-None-clause-came : goal.returns-in-None-clause-came
returns-in-None-clause-came g c w s committed at times stands =
    let mac = (g.P.Part.member (g.P.Part.table c.args.part.now)).machine in
    let b : Brought = record { received = c.args.received; committed = committed } in
    let o = origin_of c.args.origin.now in
    let done : Done = record { told = c.args.heard.now.told; begins = None } in
    subst (λ e. Came (g.P.Part.stands c.args.part.now) s e (Some done) (outcome_of mac w s (happening_at o b e))) (sym c.in-None.is) (refl, refl, stands)

pub returns-in-None-clause-fits : goal.returns-in-None-clause-fits
returns-in-None-clause-fits g c o a = g.met.P.Part.later c.args.part.now c.args.outside.now o c.requires.fits a
