-- The bit of each configured pin is put below those before it.
use Rattle.std.proofs.Common.{◌≡◌, ◌∙◌, ap, arith}
use Rattle.module_machines.specs.port.Bounds.{latch_duties, latch_duty}
use Rattle.audit_subject.specs.Marks as spec
use Rattle.audit_clock.proofs.LatchLaws.{marks_none, marks_more, marks_room}
use Rattle.audit_clock.proofs.latches.marks.Goals as goal

pub loop-number-init : goal.loop-number-init
loop-number-init c = marks_none c.args.table.now c.args.made

pub with_pin-mask-requires : goal.with_pin-mask-requires
with_pin-mask-requires c = marks_room c.args.table.now c.args.made c.loop-number.number c.loop-number.mask (omega arith) c.loop-number.invariant

pub loop-number-preserved : goal.loop-number-preserved
loop-number-preserved c =
    let n = c.loop-number.number in
    let mask = c.loop-number.mask in
    c.with_pin-mask.ensures
    ∙ (ap (λ k. spec.with_marks c.args.made (latch_duty n k) mask) c.pin.ensures
    ∙ marks_more c.args.table.now c.args.made n mask c.loop-number.invariant)

pub returns : goal.returns
returns c =
    let all : c.loop-number.number ≡ 64 = omega arith in
    c.loop-number.invariant ∙ ap (λ n. spec.marks c.args.made (latch_duties c.args.table.now n)) all
