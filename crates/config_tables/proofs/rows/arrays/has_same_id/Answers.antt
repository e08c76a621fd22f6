use Rattle.std.proofs.Common.{◌∙◌, sym}
use Rattle.config_facts.specs.Ids.{same_id}
use Rattle.config_tables.proofs.Ids.{any_mapped}
use Rattle.config_tables.proofs.rows.arrays.has_same_id.Goals as goal

pub returns-clause-ids : goal.returns-clause-ids
returns-clause-ids g c = c.any_id.ensures ∙ sym (any_mapped (same_id c.args.id) g.E.Element.id_of c.args.values.now)
