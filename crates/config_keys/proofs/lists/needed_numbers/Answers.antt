use Rattle.config_keys.proofs.lists.needed_numbers.Goals as goal

pub returns-clause-gives : goal.returns-clause-gives
returns-clause-gives g c = rw (← c.value_at.ensures, ← c.of_key.ensures) c.needed_numbers_of.ensures.gives
