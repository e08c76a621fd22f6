use Rattle.std.proofs.Common.{arith, false, sym, true, ◌∙◌}
use Rattle.sweep_trials.specs.Follows as spec
use Rattle.sweep_trials.proofs.Walking.{alone_all, alone_here, between_more}
use Rattle.sweep_trials.proofs.reactions.Following.follower.Goals as goal

pub loop-place-init : goal.loop-place-init
loop-place-init c = record {
  between = λ k d a b e. absurd (omega (arith, a, b));
  first = λ k d a b e. absurd (omega (arith, a, b));
}

pub loop-place-preserved : goal.loop-place-preserved
loop-place-preserved c =
    let a = c.args in
    let l = c.loop-place in
    record {
      between = between_more (λ k d. spec.may_intrude a.self d.line) true a.directives.now a.directive l.place c.directive_at-found.result.now c.directive_at-found.ensures (sym c.may_intrude.ensures ∙ c.if-not-may_intrude.false) l.invariant.between;
      first = between_more (λ k d. spec.is_free_call a.line a.taken.now k d) false a.directives.now a.directive l.place c.directive_at-found.result.now c.directive_at-found.ensures (sym c.is_free_call.ensures ∙ c.if-is_free_call.false) l.invariant.first;
    }

pub returns-then-is_free_call : goal.returns-then-is_free_call
returns-then-is_free_call c = record {
  call = c.directive_at-found.result.now;
  there = c.directive_at-found.ensures;
  free = sym c.is_free_call.ensures ∙ c.if-is_free_call.true;
  behind = omega (arith, c.loop-place.auto.place);
  first = c.loop-place.invariant.first;
  between = c.loop-place.invariant.between;
}

pub returns-then-not-may_intrude : goal.returns-then-not-may_intrude
returns-then-not-may_intrude c =
    let a = c.args in
    alone_here a.self a.directives.now a.taken.now a.directive a.line c.loop-place.place c.directive_at-found.result.now c.directive_at-found.ensures (omega (arith, c.loop-place.auto.place)) (sym c.is_free_call.ensures ∙ c.if-is_free_call.false) (sym c.may_intrude.ensures ∙ c.if-not-may_intrude.true) c.loop-place.invariant.first

pub returns : goal.returns
returns c =
    let a = c.args in
    alone_all a.self a.directives.now a.taken.now a.directive a.line c.loop-place.place (omega (arith, c.loop-place-test.false)) c.loop-place.invariant.first
