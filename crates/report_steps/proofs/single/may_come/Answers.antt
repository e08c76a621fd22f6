-- The step of a line may come where each part of it may.
use Rattle.std.proofs.Common.{sym, ◌∙◌, ap}
use Rattle.std.specs.Prelude.{option_copied}
use Rattle.audit_subject.specs.Origins.{origin_of}
use Rattle.report_steps.proofs.NowLaws.{at_once, comes_by, first_of, no_frame, no_origin, none_of, not_own, not_received, not_shown, not_there, top_of}
use Rattle.std.proofs.lemmas.Bool.{OnTrue_at, OnTrue_from}
use Rattle.report_steps.specs.StepParts.{HasTop}
use Rattle.report_steps.proofs.ComeLaws.{has_top}
use Rattle.report_steps.proofs.single.may_come.Goals as goal

pub returns-in_default-clause-right : goal.returns-in_default-clause-right
returns-in_default-clause-right g c t p stands =
    let s = rw (← c.auditor.view_is) at stands in
    no_frame g.P.Whole.agrees g.P.Subject.setting g.P.Part.table g.P.Part.stands t _ p s c.args.read.now (sym c.top.ensures ∙ ap (λ x. option_copied x) c.in_default.is)

pub returns-in_default-first-clause-right : goal.returns-in_default-first-clause-right
returns-in_default-first-clause-right g c t p stands =
    let s = rw (← c.auditor.view_is) at stands in
    no_origin g.P.Whole.agrees g.P.Subject.setting g.P.Part.table g.P.Part.stands t _ p s c.args.read.now (none_of origin_of _ _ c.as_slice.ensures.value (sym c.first.ensures.value ∙ ap (λ x. option_copied x) c.in_default-first.is))

pub returns-then-not-is_there-clause-right : goal.returns-then-not-is_there-clause-right
returns-then-not-is_there-clause-right g c t p stands =
    let s = rw (← c.auditor.view_is) at stands in
    let n = top_of g.P.Whole.agrees g.P.Subject.setting g.P.Part.table g.P.Part.stands t _ p s c.in-Some.frame.now (origin_of c.in-Some-first.origin.now) (sym c.top.ensures ∙ ap (λ x. option_copied x) c.in-Some.is) (first_of origin_of _ _ _ c.as_slice.ensures.value (sym c.first.ensures.value ∙ ap (λ x. option_copied x) c.in-Some-first.is)) in
    not_there g.P.Whole.agrees g.P.Subject.setting g.P.Part.table g.P.Part.stands t _ p s c.args.read.now c.in-Some.frame.now (origin_of c.in-Some-first.origin.now) n c.is_there.result c.is_there.ensures.is c.if-not-is_there.true

pub returns-then-not-names_own-clause-right : goal.returns-then-not-names_own-clause-right
returns-then-not-names_own-clause-right g c t p stands =
    let s = rw (← c.auditor.view_is) at stands in
    let n = top_of g.P.Whole.agrees g.P.Subject.setting g.P.Part.table g.P.Part.stands t _ p s c.in-Some.frame.now (origin_of c.in-Some-first.origin.now) (sym c.top.ensures ∙ ap (λ x. option_copied x) c.in-Some.is) (first_of origin_of _ _ _ c.as_slice.ensures.value (sym c.first.ensures.value ∙ ap (λ x. option_copied x) c.in-Some-first.is)) in
    not_own g.P.Whole.agrees g.P.Subject.setting g.P.Part.table g.P.Part.stands t _ p s c.args.read.now c.in-Some.frame.now (origin_of c.in-Some-first.origin.now) n c.names_own.result c.names_own.ensures c.if-not-names_own.true

pub returns-then-not-received_right-clause-right : goal.returns-then-not-received_right-clause-right
returns-then-not-received_right-clause-right g c t p stands =
    let s = rw (← c.auditor.view_is) at stands in
    let n = top_of g.P.Whole.agrees g.P.Subject.setting g.P.Part.table g.P.Part.stands t _ p s c.in-Some.frame.now (origin_of c.in-Some-first.origin.now) (sym c.top.ensures ∙ ap (λ x. option_copied x) c.in-Some.is) (first_of origin_of _ _ _ c.as_slice.ensures.value (sym c.first.ensures.value ∙ ap (λ x. option_copied x) c.in-Some-first.is)) in
    not_received g.P.Whole.agrees g.P.Subject.setting g.P.Part.table g.P.Part.stands t _ p s c.args.read.now c.in-Some.frame.now (origin_of c.in-Some-first.origin.now) n c.received_right.result c.received_right.ensures c.if-not-received_right.true

pub returns-then-not-shows_right-clause-right : goal.returns-then-not-shows_right-clause-right
returns-then-not-shows_right-clause-right g c t p stands =
    let s = rw (← c.auditor.view_is) at stands in
    let n = top_of g.P.Whole.agrees g.P.Subject.setting g.P.Part.table g.P.Part.stands t _ p s c.in-Some.frame.now (origin_of c.in-Some-first.origin.now) (sym c.top.ensures ∙ ap (λ x. option_copied x) c.in-Some.is) (first_of origin_of _ _ _ c.as_slice.ensures.value (sym c.first.ensures.value ∙ ap (λ x. option_copied x) c.in-Some-first.is)) in
    not_shown g.P.Whole.agrees g.P.Subject.setting g.P.Part.table g.P.Part.stands t _ p s c.args.read.now c.in-Some.frame.now (origin_of c.in-Some-first.origin.now) n c.shows_right.result c.shows_right.ensures c.if-not-shows_right.true

pub received_right-requires : goal.received_right-requires
received_right-requires g c = record { there = OnTrue_at c.if-not-is_there.false c.is_there.ensures.can }

pub shows_right-requires : goal.shows_right-requires
shows_right-requires g c = let ready = rw (← c.auditor.view_is) at c.requires.ready in ready.sound.in_limits

pub depth-depth-requires : goal.depth-depth-requires
depth-depth-requires g c = record { few = c.requires.ready.sound.few }

pub returns-clause-right : goal.returns-clause-right
returns-clause-right g c t p stands =
    let s = rw (← c.auditor.view_is) at stands in
    let deep = rw (← c.auditor.view_is) at c.depth-depth.ensures in
    let n = top_of g.P.Whole.agrees g.P.Subject.setting g.P.Part.table g.P.Part.stands t _ p s c.in-Some.frame.now (origin_of c.in-Some-first.origin.now) (sym c.top.ensures ∙ ap (λ x. option_copied x) c.in-Some.is) (first_of origin_of _ _ _ c.as_slice.ensures.value (sym c.first.ensures.value ∙ ap (λ x. option_copied x) c.in-Some-first.is)) in
    comes_by g.P.Whole.agrees g.P.Subject.setting g.P.Part.table g.P.Part.stands t _ p s c.args.read.now c.in-Some.frame.now (origin_of c.in-Some-first.origin.now) n c.is_there.result c.names_own.result c.received_right.result c.shows_right.result
    c.is_there.ensures.is c.if-not-is_there.false c.names_own.ensures c.if-not-names_own.false c.received_right.ensures c.if-not-received_right.false c.shows_right.ensures c.if-not-shows_right.false
    c.is_at.result (at_once c.is_at.result c.args.read.now.depth c.depth-depth.result _ c.stall-wait.result _ c.is_at.ensures deep c.stall-wait.ensures.stall)

pub returns-clause-there : goal.returns-clause-there
returns-clause-there g c = OnTrue_from c.is_at.result _ (λ e. OnTrue_at c.if-not-is_there.false c.is_there.ensures.can)

pub returns-clause-frame : goal.returns-clause-frame
returns-clause-frame g c =
    let top : HasTop c.args.auditor.now.frames = rw (← c.auditor.view_is) (has_top _ c.in-Some.frame.now (sym c.top.ensures ∙ ap (λ x. option_copied x) c.in-Some.is)) in
    OnTrue_from c.is_at.result _ (λ e. top)
