-- The newest frame's step and the chip's move.
use Rattle.std.proofs.Common.{◌<◌, arith, Ok, length, sym, ◌∙◌, ap, subst}
use Rattle.mcal_base.specs.Reach.{CanApply}
use Rattle.audit_frames.specs.StackRules.{stepped, top_right}
use Rattle.report_auditor.specs.Auditing.{StillSeen}
use Rattle.report_steps.proofs.MoveLaws.{has_moved, leaves, not_stepped, other_value, some_frame, stays}
use Rattle.report_steps.proofs.single.makes.Goals as goal

pub returns-then-not-right-clause-moves : goal.returns-then-not-right-clause-moves
returns-then-not-right-clause-moves g c =
    let right = c.in_ok-right.ensures.right ∙ ap (λ polls. top_right c.auditor.inside.frames c.args.step.now c.args.heard.now.told polls c.args.heard.now.around) c.as_slice-polls.ensures.items in
    rw (← c.auditor.view_is) (not_stepped _ _ c.args.read.now c.args.step.now c.args.heard.now (sym right ∙ c.if-not-right.true))

pub returns-then-value-read-clause-moves : goal.returns-then-value-read-clause-moves
returns-then-value-read-clause-moves g c = rw (← c.auditor.view_is) (other_value _ _ c.args.read.now c.args.step.now c.args.heard.now (λ e. c.if-value-read.true (c.replays-value.ensures.value ∙ e)))

pub returns-then-not-step-clause-moves : goal.returns-then-not-step-clause-moves
returns-then-not-step-clause-moves g c =
    let right = c.in_ok-right.ensures.right ∙ ap (λ polls. top_right c.auditor.inside.frames c.args.step.now c.args.heard.now.told polls c.args.heard.now.around) c.as_slice-polls.ensures.items in
    let after = c.in_ok-right.ensures.after (ap (λ b. Ok b) c.if-not-right.false) ∙ ap (λ polls. stepped c.auditor.inside.frames c.args.step.now c.args.heard.now.told polls c.args.heard.now.around) c.as_slice-polls.ensures.items in
    rw (← c.auditor.view_is)
    (has_moved _ _ c.args.read.now c.args.step.now c.args.heard.now (sym right ∙ c.if-not-right.false) (sym c.replays-value.ensures.value ∙ c.if-value-read.false)
    (stays _ _ c.args.read.now c.args.step.now c.args.heard.now _ after c.replays-value.ensures.moved c.if-not-step.true))

pub returns-then-not-step-clause-seen : goal.returns-then-not-step-clause-seen
returns-then-not-step-clause-seen g c t is =
    let same = rw (← c.auditor.view_is) at is in
    subst (λ v. StillSeen g.P.Whole.agrees g.P.Subject.setting t v c.replays-value.new.self c.args.read.now.made c.args.read.now.received c.args.step.now.event) c.auditor.view_is (c.replays-value.ensures.seen t same)

pub step-requires : goal.step-requires
step-requires g c = record { there = subst CanApply (sym c.requires.same) c.requires.there }

pub replays-value-requires : goal.replays-value-requires
replays-value-requires g c = record { there = c.requires.there }

pub leaves-requires : goal.leaves-requires
leaves-requires g c =
    let right = c.in_ok-right.ensures.right ∙ ap (λ polls. top_right c.auditor.inside.frames c.args.step.now c.args.heard.now.told polls c.args.heard.now.around) c.as_slice-polls.ensures.items in
    let counted = rw (← c.auditor.view_is) at c.requires.counted in
    let some : 0 < length c.auditor.inside.frames = some_frame c.auditor.inside.frames c.args.step.now c.args.heard.now.told c.args.heard.now.polls c.args.heard.now.around (sym right ∙ c.if-not-right.false) in
    record { begun = omega (arith, some, counted, ap length c.replays-value.ensures.moved.origins) }

pub returns-clause-moves : goal.returns-clause-moves
returns-clause-moves g c =
    let right = c.in_ok-right.ensures.right ∙ ap (λ polls. top_right c.auditor.inside.frames c.args.step.now c.args.heard.now.told polls c.args.heard.now.around) c.as_slice-polls.ensures.items in
    let after = c.in_ok-right.ensures.after (ap (λ b. Ok b) c.if-not-right.false) ∙ ap (λ polls. stepped c.auditor.inside.frames c.args.step.now c.args.heard.now.told polls c.args.heard.now.around) c.as_slice-polls.ensures.items in
    rw (← c.auditor.view_is)
    (has_moved _ _ c.args.read.now c.args.step.now c.args.heard.now (sym right ∙ c.if-not-right.false) (sym c.replays-value.ensures.value ∙ c.if-value-read.false)
    (leaves _ _ c.args.read.now c.args.step.now c.args.heard.now _ after c.replays-value.new.self c.replays-value.ensures.moved c.leaves.ensures c.if-not-step.false))

pub returns-clause-seen : goal.returns-clause-seen
returns-clause-seen g c t is =
    let same = rw (← c.auditor.view_is) at is in
    let still = subst (λ v. StillSeen g.P.Whole.agrees g.P.Subject.setting t v c.replays-value.new.self c.args.read.now.made c.args.read.now.received c.args.step.now.event) c.auditor.view_is (c.replays-value.ensures.seen t same) in
    subst (λ y. StillSeen g.P.Whole.agrees g.P.Subject.setting t c.args.auditor.now y c.args.read.now.made c.args.read.now.received c.args.step.now.event) (sym c.leaves.ensures) still
