use Rattle.std.proofs.Common.{◌≤◌, ap, subst, sym, ◌∙◌}
use Rattle.adc_machine.specs.Words.{place_count}
use Rattle.adc_machine.specs.declared.table.AdcTable.{AdcTable}
use Rattle.audit_modules.proofs.Joining.{both_buffers, first_fails, no_results}
use Rattle.audit_modules.proofs.results.results_stand.Goals as goal

pub returns-then-group-ge-GROUPS : goal.returns-then-group-ge-GROUPS
returns-then-group-ge-GROUPS c s h = no_results c.args.bus.now c.args.converters.now.table s c.args.group c.if-group-ge-GROUPS.true

pub has_buffer-requires-clause-count : goal.has_buffer-requires-clause-count
has_buffer-requires-clause-count c = subst (λ n. n ≤ 2048) (sym (c.place_count-count.ensures ∙ ap (λ (d : AdcTable). place_count d c.args.group) c.table.ensures)) (c.requires c.args.group)

pub returns-then-not-has_buffer : goal.returns-then-not-has_buffer
returns-then-not-has_buffer c s h =
    let count = c.place_count-count.ensures ∙ ap (λ (d : AdcTable). place_count d c.args.group) c.table.ensures in
    first_fails c.args.bus.now c.args.converters.now.table s c.args.group c.place_count-count.result c.has_buffer.result count (c.has_buffer.ensures s h) c.if-not-has_buffer.true

pub returns : goal.returns
returns c s h =
    let count = c.place_count-count.ensures ∙ ap (λ (d : AdcTable). place_count d c.args.group) c.table.ensures in
    both_buffers c.args.bus.now c.args.converters.now.table s c.args.group c.place_count-count.result _ count ((c.has_buffer.ensures s h).says c.if-not-has_buffer.false) (c.has_buffer-2.ensures s h)

pub has_buffer-requires-2-clause-count : goal.has_buffer-requires-2-clause-count
has_buffer-requires-2-clause-count c = subst (λ n. n ≤ 2048) (sym (c.place_count-count.ensures ∙ ap (λ (d : AdcTable). place_count d c.args.group) c.table.ensures)) (c.requires c.args.group)
