use Rattle.std.proofs.Common.{◌≡◌}
use Rattle.mcal_base.specs.Bits.{bits_of}
use Rattle.chip_blocks.specs.timers.Timers.{timer_at, is_running}
use Rattle.chip_blocks.proofs.timers.block.TimerBlock.running.Given as goal

abbrev pub invariant-loop-channel : goal.invariant-loop-channel
invariant-loop-channel l = l.bits ≡ bits_of (λ c. is_running (timer_at l.self c) l.self.time) l.channel
