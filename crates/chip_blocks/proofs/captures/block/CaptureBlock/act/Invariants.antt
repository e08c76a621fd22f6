use Rattle.std.proofs.Common.{◌≡◌}
use Rattle.mcal_base.proofs.BitLaws.{DoneBelow}
use Rattle.chip_blocks.specs.captures.Captures.{acting, closed}
use Rattle.chip_blocks.proofs.captures.block.CaptureBlock.act.Given as goal

abbrev pub invariant-loop-channel : goal.invariant-loop-channel
invariant-loop-channel l = record {
  at : l.time ≡ l.initial.self-inside.time;
  others : l.self-inside ≡ record l.initial.self-inside { captures = l.self-inside.captures };
  done : DoneBelow (λ _. acting l.act l.initial.self-inside.time) l.bits l.channel closed l.initial.self-inside.captures l.self-inside.captures;
}
