use Rattle.std.proofs.Common.{ap, not, refl, sym, ◌∙◌}
use Rattle.audit_converters.proofs.Lines.{all_next, all_none, all_off, for_lines, own_or_clear}
use Rattle.audit_converters.proofs.may.is_for_lines.Goals as goal

pub loop-line-init : goal.loop-line-init
loop-line-init c = refl

pub loop-line-preserved : goal.loop-line-preserved
loop-line-preserved c = c.loop-line.invariant ∙ all_next (own_or_clear c.args.value) c.loop-line.line c.loop-line-test.true (sym c.is_foreign.ensures ∙ ap not c.if-is_foreign.false)

pub returns-then-is_foreign : goal.returns-then-is_foreign
returns-then-is_foreign c = sym (for_lines c.args.value c.if-value-eq0.false c.ranges.value.fits ∙ (c.loop-line.invariant ∙ all_off (own_or_clear c.args.value) c.loop-line.line c.loop-line-test.true (sym c.is_foreign.ensures ∙ ap not c.if-is_foreign.true)))

pub returns : goal.returns
returns c = sym (for_lines c.args.value c.if-value-eq0.false c.ranges.value.fits ∙ (c.loop-line.invariant ∙ all_none (own_or_clear c.args.value) c.loop-line.line c.loop-line-test.false))
