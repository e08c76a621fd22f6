use Rattle.std.proofs.Common.{◌≡◌}
use Rattle.mcal_base.specs.Bits.{bits_of}
use Rattle.module_machines.specs.gpt.Table as spec
use Rattle.gpt_driver.proofs.driver.GptDriver.one_shot_bits.Given as goal

abbrev pub invariant-loop-number : goal.invariant-loop-number
invariant-loop-number l = l.bits ≡ bits_of (λ c. spec.is_one_shot l.self c) l.number
