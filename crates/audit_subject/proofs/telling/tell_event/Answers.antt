-- Each event is to the machine what it is of the frame.
use Rattle.std.proofs.Common.{sym, ◌∙◌, ap, subst}
use Rattle.std.specs.Prelude.{IfOk}
use Rattle.run_model.specs.Frame.{Brought, happening_of, outcome_of}
use Rattle.run_model.specs.Machine.{Starts}
use Rattle.audit_base.specs.Deeds.{Follows}
use Rattle.audit_subject.specs.Origins.{origin_of}
use Rattle.audit_subject.proofs.TellLaws.{serves, starts, aborts}
use Rattle.audit_subject.proofs.telling.tell_event.Goals as goal

pub returns-in-Act-clause-follows : goal.returns-in-Act-clause-follows
returns-in-Act-clause-follows g c w s committed at times stands =
    let mac = (g.P.Part.member (g.P.Part.table c.args.part.now)).machine in
    let b : Brought = record { received = c.args.received; committed = committed } in
    let o = origin_of c.args.origin.now in
    subst (λ e. IfOk c.act.result (λ d. Follows (g.P.Part.stands c.act.new.part) s d (outcome_of mac w s (happening_of o b e)))) (sym c.in-Act.is)
    (c.act.ensures.follows w s c.args.received committed at times stands)

pub returns-in-Serve-clause-follows : goal.returns-in-Serve-clause-follows
returns-in-Serve-clause-follows g c w s committed at times stands =
    let mac = (g.P.Part.member (g.P.Part.table c.args.part.now)).machine in
    let b : Brought = record { received = c.args.received; committed = committed } in
    let o = origin_of c.args.origin.now in
    subst (λ h. IfOk c.serve.result (λ d. Follows (g.P.Part.stands c.serve.new.self) s d (outcome_of mac w s h))) (sym (ap (λ e. happening_of o b e) c.in-Serve.is ∙ serves o b c.in-Serve.line))
    (c.serve.ensures.follows w s at stands)

pub returns-in-Start-clause-follows : goal.returns-in-Start-clause-follows
returns-in-Start-clause-follows g c w s committed at times stands =
    let mac = (g.P.Part.member (g.P.Part.table c.args.part.now)).machine in
    let b : Brought = record { received = c.args.received; committed = committed } in
    let o = origin_of c.args.origin.now in
    subst (λ h. IfOk c.start.result (λ d. Follows (g.P.Part.stands c.start.new.self) s d (outcome_of mac w s h))) (sym (ap (λ e. happening_of o b e) c.in-Start.is ∙ starts o b c.in-Start.unit))
    (subst (λ by. IfOk c.start.result (λ d. Follows (g.P.Part.stands c.start.new.self) s d (mac.happens w s (Starts c.in-Start.unit by c.args.received)))) c.caller.ensures (c.start.ensures.follows w s at stands))

pub returns-in-Abort-clause-follows : goal.returns-in-Abort-clause-follows
returns-in-Abort-clause-follows g c w s committed at times stands =
    let mac = (g.P.Part.member (g.P.Part.table c.args.part.now)).machine in
    let b : Brought = record { received = c.args.received; committed = committed } in
    let o = origin_of c.args.origin.now in
    subst (λ h. IfOk c.abort.result (λ d. Follows (g.P.Part.stands c.abort.new.self) s d (outcome_of mac w s h))) (sym (ap (λ e. happening_of o b e) c.in-Abort.is ∙ aborts o b c.in-Abort.unit))
    (c.abort.ensures.follows w s at stands)
