use Rattle.std.proofs.Common.{ap, arith, cond, get_or, sym, take, ◌-◌, ◌∙◌}
use Rattle.mcal_base.specs.facts.Numbers.{lt_from, lt_since}
use Rattle.audit_base.proofs.Last.{level_at}
use Rattle.audit_base.specs.Inputs.{level_before}
use Rattle.audit_base.specs.declared.samples.Taken.{Taken}
use Rattle.audit_base.proofs.samples.last_before.Goals as goal

pub loop-place-preserved : goal.loop-place-preserved
loop-place-preserved c =
    let k = c.loop-place.invariant in
    let n = c.loop-place.place in
    let t = c.args.time in
    let xs = c.args.took.now in
    let x : Taken = get_or xs (n - 1) (record { since = 0; value = 0 }) in
    record {
      within = omega arith;
      is = k.is ∙ (level_at xs n t (record { since = 0; value = 0 }) c.loop-place-test.true k.within ∙ ap (λ b. cond b x.value (level_before (take (n - 1) xs) t)) (lt_since x.since t c.if-took-place.false));
    }

pub returns-then-took-place : goal.returns-then-took-place
returns-then-took-place c =
    let k = c.loop-place.invariant in
    let n = c.loop-place.place in
    let t = c.args.time in
    let xs = c.args.took.now in
    let x : Taken = get_or xs (n - 1) (record { since = 0; value = 0 }) in
    sym (k.is ∙ (level_at xs n t (record { since = 0; value = 0 }) c.loop-place-test.true k.within ∙ ap (λ b. cond b x.value (level_before (take (n - 1) xs) t)) (lt_from x.since t c.if-took-place.true)))
