use Rattle.std.proofs.Common.{◌≡◌, ◌≤◌, max}
use Rattle.chip_blocks.specs.converter.Rounds.{ended}
use Rattle.chip_blocks.proofs.of_converter.ConverterLaws.{SettledBelow}
use Rattle.chip_blocks.proofs.converter.converter.Converter.settle.Given as goal

abbrev pub invariant-loop-place : goal.invariant-loop-place
invariant-loop-place l = record {
  others : l.self ≡ record l.initial.self { results = l.self.results };
  within : l.place ≤ max (ended l.initial.self.round l.levels.since) (ended l.initial.self.round l.now);
  done : SettledBelow l.levels l.initial.self l.place l.self.results;
}
