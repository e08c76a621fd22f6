use Rattle.config_keys.proofs.lists.numbers_or.Goals as goal

pub returns-clause-gives : goal.returns-clause-gives
returns-clause-gives g c = rw (← c.value_at.ensures, ← c.of_key.ensures) c.numbers_of.ensures.gives
