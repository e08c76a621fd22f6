use Rattle.std.proofs.Common.{◌∙◌, sym}
use Rattle.sweep_trials.proofs.Counting.{counted_next, none_counted}
use Rattle.sweep_trials.proofs.followed.steps_of.Goals as goal

pub loop-step-init : goal.loop-step-init
loop-step-init c = record {
  counted = c.in_ok-steps.ensures.items_if_clones_equal (λ y e. e) ∙ sym (none_counted c.args.count);
  length = c.in_ok-steps.ensures.len;
}

pub loop-step-preserved : goal.loop-step-preserved
loop-step-preserved c = record {
  counted = counted_next c.args.count c.args.seen.now c.loop-step.step-index _ c.loop-step.steps.items c.count_step.new.steps.items c.loop-step-test.true c.count_step.ensures.is c.loop-step.invariant.counted;
  length = c.count_step.ensures.length ∙ c.loop-step.invariant.length;
}
