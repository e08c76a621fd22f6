use Rattle.std.proofs.Common.{◌≡◌, ◌∙◌, List, [], arith, drop, false, subst, sym, true}
use Rattle.mcal_base.specs.declared.directive.Directive.{Directive}
use Rattle.script_runner.specs.Scripts.{AllBuilt, LinesRise}
use Rattle.sweep_top.proofs.Running.{built_from, built_on, none_behind, rises_from, rises_on, stands}
use Rattle.sweep_top.proofs.may_run.may_run.Goals as goal

pub loop-place-init : goal.loop-place-init
loop-place-init c = record { lines = λ h. h; built = λ h. h; rise = λ h. h; obeyed = λ h. h }

pub loop-place-preserved : goal.loop-place-preserved
loop-place-preserved c =
    let script = c.args.script.now in
    let l = c.loop-place in
    let directive = c.directive_at-directive.result.now in
    let told = (stands l.low directive c.may_stand.result c.may_stand.ensures).0 c.if-not-may_stand.false in
    record {
      lines = λ h. l.invariant.lines (rises_from script l.place l.low directive c.directive_at-directive.ensures told.1 h);
      built = λ h. l.invariant.built (built_from script l.place directive c.directive_at-directive.ensures told.0 h);
      rise = λ h. (rises_on script l.place l.low directive c.directive_at-directive.ensures (l.invariant.rise h)).1;
      obeyed = λ h. (built_on script l.place directive c.directive_at-directive.ensures (l.invariant.obeyed h)).1;
    }

pub returns-then-script-gt-MOST_DIRECTIVES-clause-only : goal.returns-then-script-gt-MOST_DIRECTIVES-clause-only
returns-then-script-gt-MOST_DIRECTIVES-clause-only c = λ s. absurd (omega (arith, s.few, c.if-script-gt-MOST_DIRECTIVES.true))

pub returns-then-not-may_stand-clause-only : goal.returns-then-not-may_stand-clause-only
returns-then-not-may_stand-clause-only c = λ s.
    let script = c.args.script.now in
    let l = c.loop-place in
    let directive = c.directive_at-directive.result.now in
    let rise = rises_on script l.place l.low directive c.directive_at-directive.ensures (l.invariant.rise s.lines) in
    let built = built_on script l.place directive c.directive_at-directive.ensures (l.invariant.obeyed s.built) in
    let never : true ≡ false = sym ((stands l.low directive c.may_stand.result c.may_stand.ensures).1 (built.0, rise.0)) ∙ c.if-not-may_stand.true in
    absurd (cc)

pub returns-clause-may : goal.returns-clause-may
returns-clause-may c =
    let script = c.args.script.now in
    let l = c.loop-place in
    let end : drop l.place script ≡ [] = none_behind script l.place (omega (arith, c.loop-place-test.false)) in
    record {
      lines = l.invariant.lines (subst (λ (xs : List Directive). LinesRise l.low xs) (sym end) tt);
      built = l.invariant.built (subst (λ (xs : List Directive). AllBuilt xs) (sym end) tt);
      few = omega (arith, c.if-script-gt-MOST_DIRECTIVES.false);
    }
