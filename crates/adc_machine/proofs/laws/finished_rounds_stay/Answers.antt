use Rattle.std.proofs.Common.{◌∙◌, ap, not, ◌&&◌, cond, Some, None}
use Rattle.adc_machine.specs.Machine.{aborts_on, aborting}
use Rattle.adc_machine.specs.Turns.{aborts_by, is_outranked}
use Rattle.adc_machine.proofs.laws.finished_rounds_stay.Goals as goal

pub returns : goal.returns
returns c d w s unit u r is_unit is_round finished =
    ap (λ o. aborts_on d w s o) is_unit
    ∙ ap (λ q. aborting d w s u (aborts_by d w s u q)) is_round
    ∙ ap (λ b. aborting d w s u (cond (not b && is_outranked d s u r.group) (Some r) None)) finished
