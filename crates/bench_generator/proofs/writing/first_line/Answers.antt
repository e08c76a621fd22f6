use Rattle.bench_generator.proofs.writing.first_line.Goals as goal

pub returns : goal.returns
returns c = rw (← c.value_of-value.ensures) c.format.ensures.ok
