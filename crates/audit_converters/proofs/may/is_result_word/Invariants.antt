use Rattle.adc_machine.specs.Words.{is_in_buffer}
use Rattle.adc_machine.specs.declared.call.ResultBuffer.TheVariants.{Zero, One}
use Rattle.audit_converters.proofs.Terms.{all_groups, from_group, list_any, ◌||◌, ◌≡◌}
use Rattle.audit_converters.proofs.may.is_result_word.Given as goal

abbrev pub invariant-loop-group : goal.invariant-loop-group
invariant-loop-group l = list_any (λ g. is_in_buffer l.table l.word g Zero || is_in_buffer l.table l.word g One) all_groups ≡ list_any (λ g. is_in_buffer l.table l.word g Zero || is_in_buffer l.table l.word g One) (from_group l.group)
