use Rattle.bench_top.proofs.file.read_whole.Goals as goal

pub returns-clause-whole : goal.returns-clause-whole
returns-clause-whole c = rw c.deref.ensures.value at c.read_file.ensures.whole

pub returns-clause-refused : goal.returns-clause-refused
returns-clause-refused c = rw c.deref.ensures.value at c.read_file.ensures.refused
