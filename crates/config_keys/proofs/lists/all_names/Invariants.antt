use Rattle.std.proofs.Common.{◌≡◌, length, drop}
use Rattle.toml.specs.View.{items_view}
use Rattle.config_keys.specs.Checks.{first}
use Rattle.config_keys.specs.Kinds.{items_from, items_of, prepended, name}
use Rattle.config_keys.proofs.lists.all_names.Given as goal

abbrev pub invariant-loop-index : goal.invariant-loop-index
invariant-loop-index g l = record {
  count : length l.names ≡ l.index;
  checked : first (items_from (name g.T.Named.named) l.at 0 (items_view l.array)) ≡ first (items_from (name g.T.Named.named) l.at l.index (items_view (drop l.index l.array)));
  read : items_of (name g.T.Named.named) (items_view l.array) ≡ prepended l.names (items_of (name g.T.Named.named) (items_view (drop l.index l.array)));
}
