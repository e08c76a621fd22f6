use Rattle.std.proofs.Common.{◌≡◌, drop}
use Rattle.chip_model.specs.Wiring.{source_in}
use Rattle.chip_model.proofs.wiring.source.Given as goal

abbrev pub invariant-loop-configured : goal.invariant-loop-configured
invariant-loop-configured l = source_in l.channels l.channel ≡ source_in (drop l.configured-index l.channels) l.channel
