use Rattle.audit_serial.proofs.Terms.{ap, arith, best_next, best_same, drop, drop_all, length, map, next_on, pending_as, sym, ◌-◌, ◌∙◌, ◌≡◌}
use Rattle.audit_serial.proofs.queue.best_on.Goals as goal

pub loop-place-init : goal.loop-place-init
loop-place-init c =
    record {
      within = omega arith;
      is = sym (ap (λ es. next_on c.args.table.now c.args.unit (map pending_as es)) (drop_all (length c.args.entries.now) c.args.entries.now (omega arith)));
    }

pub loop-place-preserved-then-is_for : goal.loop-place-preserved-then-is_for
loop-place-preserved-then-is_for c =
    let n = c.loop-place.place in
    let had = c.loop-place.invariant in
    record {
      within = omega (arith, had.within);
      is = best_next c.args.table.now c.args.unit c.args.entries.now (n - 1) n _ c.loop-place.best (omega (arith, c.loop-place-test.true)) had.within had.is (sym c.is_for.ensures ∙ c.if-is_for.true) c.better.result c.better.ensures;
    }

pub loop-place-preserved : goal.loop-place-preserved
loop-place-preserved c =
    let n = c.loop-place.place in
    let had = c.loop-place.invariant in
    record {
      within = omega (arith, had.within);
      is = best_same c.args.table.now c.args.unit c.args.entries.now (n - 1) n _ c.loop-place.best (omega (arith, c.loop-place-test.true)) had.within had.is (sym c.is_for.ensures ∙ c.if-is_for.false);
    }

pub returns : goal.returns
returns c = let none : c.loop-place.place ≡ 0 = omega (arith, c.loop-place-test.false) in c.loop-place.invariant.is ∙ ap (λ n. next_on c.args.table.now c.args.unit (map pending_as (drop n c.args.entries.now))) none
