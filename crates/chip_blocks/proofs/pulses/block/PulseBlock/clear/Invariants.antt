use Rattle.std.proofs.Common.{◌≡◌}
use Rattle.mcal_base.proofs.BitLaws.{DoneBelow}
use Rattle.chip_blocks.specs.pulses.Pulses.{flag_clear, silent}
use Rattle.chip_blocks.proofs.pulses.block.PulseBlock.clear.Given as goal

abbrev pub invariant-loop-channel : goal.invariant-loop-channel
invariant-loop-channel l = record {
  at : l.time ≡ l.initial.self-inside.time;
  others : l.self-inside ≡ record l.initial.self-inside { pulses = l.self-inside.pulses };
  done : DoneBelow (λ _. flag_clear l.to l.initial.self-inside.time) l.bits l.channel silent l.initial.self-inside.pulses l.self-inside.pulses;
}
