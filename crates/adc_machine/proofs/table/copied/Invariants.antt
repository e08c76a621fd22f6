use Rattle.std.proofs.Common.{◌≡◌, take}
use Rattle.adc_machine.proofs.table.copied.Given as goal

abbrev pub invariant-loop-number : goal.invariant-loop-number
invariant-loop-number l = l.copy ≡ take l.number-index l.numbers
