-- Each call asks for a smaller number.
use Rattle.adc_machine.proofs.options.+start_in.Given as goal

abbrev pub decreases-start_in : goal.decreases-start_in
decreases-start_in l = l.number
