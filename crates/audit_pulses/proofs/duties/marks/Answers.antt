-- The bit of each configured channel is put below those before it.
use Rattle.std.proofs.Common.{◌≡◌, ◌∙◌, ap, arith}
use Rattle.module_machines.specs.pwm.Bounds.{duties, duty_of}
use Rattle.audit_subject.specs.Marks as masks
use Rattle.audit_pulses.specs.Duties as spec
use Rattle.audit_pulses.proofs.DutyLaws.{marks_none, marks_more, marks_room}
use Rattle.audit_pulses.proofs.duties.marks.Goals as goal

pub loop-number-init : goal.loop-number-init
loop-number-init c = marks_none c.args.table.now (spec.kind_of c.args.duty) c.args.made

pub with_channel-mask-requires : goal.with_channel-mask-requires
with_channel-mask-requires c = marks_room c.args.table.now (spec.kind_of c.args.duty) c.args.made c.loop-number.number c.loop-number.mask (omega arith) c.loop-number.invariant

pub loop-number-preserved : goal.loop-number-preserved
loop-number-preserved c =
    let kind = spec.kind_of c.args.duty in
    let n = c.loop-number.number in
    let mask = c.loop-number.mask in
    c.with_channel-mask.ensures
    ∙ (ap (λ k. masks.with_marks c.args.made (duty_of kind n k) mask) c.channel.ensures
    ∙ marks_more c.args.table.now kind c.args.made n mask c.loop-number.invariant)

pub returns : goal.returns
returns c =
    let all : c.loop-number.number ≡ 8 = omega arith in
    c.loop-number.invariant ∙ ap (λ n. masks.marks c.args.made (duties c.args.table.now (spec.kind_of c.args.duty) n)) all
