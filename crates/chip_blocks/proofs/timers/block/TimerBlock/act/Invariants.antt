use Rattle.std.proofs.Common.{◌≡◌}
use Rattle.mcal_base.specs.Bits.{has_bit}
use Rattle.mcal_base.proofs.BitLaws.{DoneBelow}
use Rattle.chip_blocks.specs.timers.Timers.{acting, idle}
use Rattle.chip_blocks.proofs.timers.block.TimerBlock.act.Given as goal

abbrev pub invariant-loop-channel : goal.invariant-loop-channel
invariant-loop-channel l = record {
  at : l.time ≡ l.initial.self-inside.time;
  bits : l.one_shot ≡ l.initial.self-inside.one_shot;
  others : l.self-inside ≡ record l.initial.self-inside { timers = l.self-inside.timers };
  done : DoneBelow (λ c. acting l.act (has_bit l.initial.self-inside.one_shot c) l.initial.self-inside.time) l.bits l.channel idle l.initial.self-inside.timers l.self-inside.timers;
}
