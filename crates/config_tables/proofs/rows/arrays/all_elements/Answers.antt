use Rattle.std.proofs.Common.{arith}
use Rattle.std.proofs.lemmas.Grind.{common_steps}
use Rattle.config_tables.proofs.Sound.{sound_none, sound_push, sound_table}
use Rattle.config_tables.proofs.rows.arrays.all_elements.Goals as goal

pub loop-number-init : goal.loop-number-init
loop-number-init g c = record {
  count = grind (arith, common_steps);
  sound = rw c.new-elements.ensures (sound_none g.E.Element.is_valid g.E.Element.id_of);
  checked = grind (arith, common_steps);
  read = grind (arith, common_steps);
}

pub loop-number-preserved : goal.loop-number-preserved
loop-number-preserved g c = record {
  count = grind (arith, common_steps);
  sound = sound_push g.E.Element.is_valid g.E.Element.id_of _ _ _ c.push.ensures c.loop-number.invariant.sound c.in_ok-element.ensures.valid (rw c.as_slice.ensures.items at c.in_ok-element.ensures.once);
  checked = grind (arith, common_steps);
  read = grind (arith, common_steps);
}

pub returns-clause-table : goal.returns-clause-table
returns-clause-table g c = sound_table g.E.Element.is_valid g.E.Element.id_of _ _ c.loop-number.invariant.sound (omega arith)
