use Rattle.std.proofs.Common.{◌∙◌, ◌+◌, List, [], ℕ, ap, arith, length, refl, subst, sym, take}
use Rattle.std.proofs.lemmas.List.{take_all}
use Rattle.sweep_trials.specs.Follows.{AreFollowed}
use Rattle.sweep_trials.specs.Follows.AreFollowed.{Start}
use Rattle.sweep_trials.specs.declared.seen.StepSeen.{StepSeen}
use Rattle.sweep_trials.proofs.Counting.{counted_next}
use Rattle.sweep_trials.proofs.Walking.{followed_more, quiet_more, unfollowed_at}
use Rattle.sweep_trials.proofs.followed.first_unfollowed.Goals as goal
use Rattle.sweep_trials.proofs.followed.first_unfollowed.Goals.{in-Some+in-Some-own_call+in_ok-push-in-Some-own_call, in_default}

pub loop-step-init : goal.loop-step-init
loop-step-init c = record {
  counted = c.in_ok-made.ensures.is;
  length = c.in_ok-made.ensures.length;
  followed = subst (λ (ts : List ℕ). AreFollowed c.args.following c.args.directives.now c.args.seen.now [] ts) (sym c.new-taken.ensures.items) Start;
}

pub loop-step-preserved : goal.loop-step-preserved
loop-step-preserved c =
    let a = c.args in
    let s = c.loop-step in
    record {
      counted = counted_next (length a.directives.now) a.seen.now s.step-index _ s.made.items c.count_step.new.steps.items c.loop-step-test.true c.count_step.ensures.is s.invariant.counted;
      length = c.count_step.ensures.length ∙ s.invariant.length;
      followed = elim c.match-call_wanted.branch [
        | in-Some+in-Some-own_call+in_ok-push-in-Some-own_call w ↦
            let made = counted_next (length a.directives.now) a.seen.now s.step-index _ s.made.items c.count_step.new.steps.items c.loop-step-test.true c.count_step.ensures.is s.invariant.counted in
            let own = w.in-Some-own_call.ensures in
            followed_more a.following a.directives.now a.seen.now s.step-index (length a.directives.now) w.in-Some.found.directive w.in-Some.found.reaction w.number_at-so_far.result w.number_at-all.result w.in-Some-own_call.at _ w.reaction_at.result.now c.count_step.new.steps.items c.in_ok-steps.steps.items s.taken.items c.match-call_wanted.taken.items c.loop-step-test.true refl s.invariant.followed w.in-Some.ensures w.reaction_at.ensures made (rw w.deref.ensures.value at w.number_at-so_far.ensures) c.in_ok-steps.ensures.is (rw w.deref-in-Some.ensures.value at w.number_at-all.ensures) own.0 (rw w.deref-in-Some-2.ensures.value at own.1) (ap (λ v. v.items) w.taken-is ∙ w.in_ok-push-in-Some-own_call.ensures.items)
        | in_default w ↦
            subst (λ (ts : List ℕ). AreFollowed a.following a.directives.now a.seen.now (take (s.step-index + 1) a.seen.now) ts) (ap (λ v. v.items) (sym w.taken-is))
            (quiet_more a.following a.directives.now a.seen.now s.step-index (length a.directives.now) _ s.taken.items c.loop-step-test.true refl s.invariant.followed w.in_default.ensures)
      ];
    }

pub returns-in-None : goal.returns-in-None
returns-in-None c =
    let a = c.args in
    let s = c.loop-step in
    let made = counted_next (length a.directives.now) a.seen.now s.step-index _ s.made.items c.count_step.new.steps.items c.loop-step-test.true c.count_step.ensures.is s.invariant.counted in
    unfollowed_at a.following a.directives.now a.seen.now s.step-index (length a.directives.now) c.in-Some.found.directive c.in-Some.found.reaction c.number_at-so_far.result c.number_at-all.result _ c.reaction_at.result.now c.count_step.new.steps.items c.in_ok-steps.steps.items s.taken.items c.loop-step-test.true refl s.invariant.followed c.in-Some.ensures c.reaction_at.ensures made (rw c.deref.ensures.value at c.number_at-so_far.ensures) c.in_ok-steps.ensures.is (rw c.deref-in-Some.ensures.value at c.number_at-all.ensures) (rw c.deref-in-Some-2.ensures.value at c.in-None.ensures)

pub returns : goal.returns
returns c = record {
  taken = c.loop-step.taken.items;
  each = subst (λ (seen : List StepSeen). AreFollowed c.args.following c.args.directives.now c.args.seen.now seen c.loop-step.taken.items) (take_all c.loop-step.step-index c.args.seen.now (omega (arith, c.loop-step-test.false))) c.loop-step.invariant.followed;
}
