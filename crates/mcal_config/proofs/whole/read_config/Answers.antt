use Rattle.std.proofs.lemmas.Bool.{false≢true}
use Rattle.mcal_config.proofs.Trees.{tree_good, tree_bad}
use Rattle.mcal_config.proofs.whole.read_config.Goals as goal

pub returns-in-Ok-clause-gives : goal.returns-in-Ok-clause-gives
returns-in-Ok-clause-gives c = rw (tree_good _ _ c.in-Ok.ensures.ok.0 c.in-Ok.ensures.ok.1) c.of_table.ensures.gives

pub returns-else-is_memory-clause-gives : goal.returns-else-is_memory-clause-gives
returns-else-is_memory-clause-gives c = rw (tree_bad _ (c.in-Err.ensures.refused (λ m. false≢true (c.if-is_memory.ensures.1 m))))
