use Rattle.std.proofs.Common.{◌≡◌, ℕ, ◌<◌}
use Rattle.adc_machine.specs.Machine.{place_value}
use Rattle.adc_machine.specs.Turns.{AdcState}
use Rattle.adc_machine.specs.Words.{result_word}
use Rattle.chip_model.specs.Chip.{word_of}
use Rattle.audit_converters.specs.Stands.{StandsFor}
use Rattle.audit_modules.proofs.results.has_buffer.Given as goal

-- the results so far are the machine's
abbrev pub invariant-loop-place : goal.invariant-loop-place
invariant-loop-place l = (s : AdcState) → StandsFor l.converters s → (p : ℕ) → p < l.place → word_of l.bus (result_word l.group l.buffer p) ≡ place_value s l.group l.buffer p
