use Rattle.std.proofs.Common.{ap, sym, ◌∙◌, slice_index_or, refl, arith}
use Rattle.audit_clock.specs.ClockStands.{ClockKept}
use Rattle.audit_clock.proofs.Fills.{none_between, filled_next, filled_all}
use Rattle.audit_clock.proofs.clock.Clock.fill.Goals as goal

pub loop-place-init : goal.loop-place-init
loop-place-init c = record { ram = λ k lt. sym (none_between c.args.start k c.args.value (slice_index_or c.args.self.now.ram k 0)); within = omega arith; others = refl }

pub loop-place-preserved : goal.loop-place-preserved
loop-place-preserved c =
    let k = c.loop-place.invariant in
    record {
      ram = λ j lt. filled_next c.args.start c.loop-place.place j c.args.value _ _ (slice_index_or c.args.self.now.ram j 0) c.loop-place.auto.place (k.ram j lt) (c.put.ensures.ram j lt);
      within = let more = c.loop-place-test.true in omega (arith, more);
      others = c.put.ensures.others ∙ ap (λ (r : ClockKept). record r { ram = c.put.new.self.ram }) k.others;
    }

pub returns : goal.returns
returns c =
    let k = c.loop-place.invariant in
    record {
      ram = λ j lt. k.ram j lt ∙ filled_all c.args.start c.loop-place.place c.args.end j c.args.value (slice_index_or c.args.self.now.ram j 0) c.loop-place.auto.place (omega arith) k.within;
      others = k.others;
    }
