use Rattle.std.proofs.Common.{◌≡◌, length, map, drop, []}
use Rattle.toml.specs.View.{items_view}
use Rattle.config_keys.specs.Checks.{first}
use Rattle.config_keys.specs.Kinds.{prepended}
use Rattle.config_tables.specs.rows.Rows.{AreSound, elements_from, values_of}
use Rattle.config_tables.proofs.rows.arrays.all_elements.Given as goal

abbrev pub invariant-loop-number : goal.invariant-loop-number
invariant-loop-number g l = record {
  count : length l.elements ≡ l.number;
  sound : AreSound g.E.Element.is_valid g.E.Element.id_of l.elements;
  checked : first (elements_from g.E.Element.shape 0 [] (items_view l.array)) ≡ first (elements_from g.E.Element.shape l.number (map g.E.Element.id_of l.elements) (items_view (drop l.number l.array)));
  read : values_of g.E.Element.shape (items_view l.array) ≡ prepended l.elements (values_of g.E.Element.shape (items_view (drop l.number l.array)));
}
