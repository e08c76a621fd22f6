use Rattle.std.proofs.Common.{◌≡◌, map, length}
use Rattle.std.specs.List.{range_with_len}
use Rattle.adc_groups.specs.laws.services.Decisions.{list_deed}
use Rattle.adc_groups.proofs.service.turn.lists.Given as goal

abbrev pub invariant-loop-at : goal.invariant-loop-at
invariant-loop-at l = (l.deeds ≡ map (list_deed l.table l.unit l.group l.kept) (range_with_len 0 l.at)) × (length l.deeds ≡ l.at)
