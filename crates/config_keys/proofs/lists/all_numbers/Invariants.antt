use Rattle.std.proofs.Common.{◌≡◌, length, drop, All}
use Rattle.toml.specs.View.{items_view}
use Rattle.config_facts.specs.Ids.{InRange}
use Rattle.config_keys.specs.Checks.{first}
use Rattle.config_keys.specs.Kinds.{items_from, items_of, prepended, whole}
use Rattle.config_keys.proofs.lists.all_numbers.Given as goal

abbrev pub invariant-loop-index : goal.invariant-loop-index
invariant-loop-index g l = record {
  count : length l.numbers ≡ l.index;
  range : All (InRange l.low l.high) l.numbers;
  checked : first (items_from (whole l.low l.high) l.at 0 (items_view l.array)) ≡ first (items_from (whole l.low l.high) l.at l.index (items_view (drop l.index l.array)));
  read : items_of (whole l.low l.high) (items_view l.array) ≡ prepended l.numbers (items_of (whole l.low l.high) (items_view (drop l.index l.array)));
}
