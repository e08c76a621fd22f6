use Rattle.std.proofs.Common.{◌≡◌, drop}
use Rattle.chip_model.specs.Wiring.{output_in}
use Rattle.audit_machines.proofs.whole.output.Given as goal

abbrev pub invariant-loop-configured : goal.invariant-loop-configured
invariant-loop-configured l = output_in l.channels l.channel ≡ output_in (drop l.configured-index l.channels) l.channel
