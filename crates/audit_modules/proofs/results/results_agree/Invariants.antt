use Rattle.std.proofs.Common.{ℕ, ◌<◌}
use Rattle.adc_machine.specs.Turns.{AdcState}
use Rattle.adc_machine.specs.Words.{HoldsResults}
use Rattle.chip_model.specs.Chip.{word_of}
use Rattle.audit_converters.specs.Stands.{StandsFor}
use Rattle.audit_modules.proofs.results.results_agree.Given as goal

-- the results of the groups so far are the machine's
abbrev pub invariant-loop-group : goal.invariant-loop-group
invariant-loop-group l = (s : AdcState) → StandsFor l.converters s → (g : ℕ) → g < l.group → HoldsResults (word_of l.bus) l.converters.table s g
