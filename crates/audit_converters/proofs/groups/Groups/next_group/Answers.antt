use Rattle.audit_converters.proofs.Terms.{ap, cond, first_of, next_among, none_left, refl, Some, split_back, sym, waits_for, ◌-◌, ◌∙◌}
use Rattle.audit_converters.proofs.groups.Groups.next_group.Goals as goal

pub loop-place-init : goal.loop-place-init
loop-place-init c s h = refl

pub loop-place-preserved : goal.loop-place-preserved
loop-place-preserved c s h =
    let d = c.args.table.now in
    let u = c.args.unit in
    let k = c.loop-place.place in
    c.next_of-next.ensures s h
    ∙ (ap (λ o. cond (waits_for d s u (15 - k)) (Some (first_of d s (15 - k) o)) o) (c.loop-place.invariant s h)
    ∙ sym (ap (next_among d s u) (split_back k c.loop-place-test.true)))

pub returns : goal.returns
returns c s h = c.loop-place.invariant s h ∙ ap (next_among c.args.table.now s c.args.unit) (none_left c.loop-place.place c.loop-place-test.false)
