use Rattle.adc_machine.specs.Words.{is_in_buffer}
use Rattle.adc_machine.specs.declared.call.ResultBuffer.TheVariants.{Zero, One}
use Rattle.audit_converters.proofs.Terms.{any_here, any_next, any_none, refl, sym, ◌||◌, ◌∙◌}
use Rattle.audit_converters.proofs.may.is_result_word.Goals as goal

pub loop-group-init : goal.loop-group-init
loop-group-init c = refl

pub loop-group-preserved : goal.loop-group-preserved
loop-group-preserved c = c.loop-group.invariant ∙ any_next (λ g. is_in_buffer c.args.table.now c.args.word g Zero || is_in_buffer c.args.table.now c.args.word g One) c.loop-group.group c.loop-group-test.true (sym c.is_in_buffers.ensures ∙ c.if-is_in_buffers.false)

pub returns-then-is_in_buffers : goal.returns-then-is_in_buffers
returns-then-is_in_buffers c = sym (c.loop-group.invariant ∙ any_here (λ g. is_in_buffer c.args.table.now c.args.word g Zero || is_in_buffer c.args.table.now c.args.word g One) c.loop-group.group c.loop-group-test.true (sym c.is_in_buffers.ensures ∙ c.if-is_in_buffers.true))

pub returns : goal.returns
returns c = sym (c.loop-group.invariant ∙ any_none (λ g. is_in_buffer c.args.table.now c.args.word g Zero || is_in_buffer c.args.table.now c.args.word g One) c.loop-group.group c.loop-group-test.false)
