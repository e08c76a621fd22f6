-- A call acts, and a handler doesn't.
use Rattle.std.proofs.Common.{None, sym, subst}
use Rattle.std.specs.Prelude.{IfOk}
use Rattle.mcal_base.specs.declared.moves.Event.TheVariants.{Act}
use Rattle.run_model.specs.Frame.{Brought, happening_of, outcome_of}
use Rattle.audit_base.specs.Deeds.{Follows}
use Rattle.audit_subject.specs.Origins.{origin_of}
use Rattle.audit_subject.proofs.telling.act.Goals as goal

pub returns-in-Call-clause-follows : goal.returns-in-Call-clause-follows
returns-in-Call-clause-follows g c w s received committed at times stands =
    let mac = (g.P.Part.member (g.P.Part.table c.args.part.now)).machine in
    let b : Brought = record { received = received; committed = committed } in
    subst (λ x. IfOk c.act.result (λ d. Follows (g.P.Part.stands c.act.new.self) s d (outcome_of mac w s (happening_of (origin_of x) b Act)))) (sym c.in-Call.is)
    (c.act.ensures.follows w s committed at times stands)

pub returns-in-Line-clause-follows : goal.returns-in-Line-clause-follows
returns-in-Line-clause-follows g c w s received committed at times stands =
    let p = g.P.Part.stands c.args.part.now in
    let mac = (g.P.Part.member (g.P.Part.table c.args.part.now)).machine in
    let b : Brought = record { received = received; committed = committed } in
    subst (λ x. Follows p s None (outcome_of mac w s (happening_of (origin_of x) b Act))) (sym c.in-Line.is) stands

pub returns-in-Line-clause-fits : goal.returns-in-Line-clause-fits
returns-in-Line-clause-fits g c o a = g.met.P.Part.later c.args.part.now c.args.outside.now o c.requires.fits a
