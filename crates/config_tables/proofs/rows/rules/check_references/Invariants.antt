use Rattle.std.proofs.Common.{◌≡◌, drop, take}
use Rattle.config_facts.specs.Ids.{Refer}
use Rattle.config_keys.specs.Checks.{first}
use Rattle.config_tables.specs.rows.Rules as spec
use Rattle.config_tables.proofs.rows.rules.check_references.Given as goal

abbrev pub invariant-loop-index : goal.invariant-loop-index
invariant-loop-index g l = record {
  checked : first (spec.references g.E.Element.id_of l.values l.at 0 l.ids) ≡ first (spec.references g.E.Element.id_of l.values l.at l.index (drop l.index l.ids));
  refer : Refer g.E.Element.id_of l.values (take l.index l.ids);
}
