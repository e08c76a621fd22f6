use Rattle.bench_sweep.proofs.Lining.{rest_shorter}
use Rattle.bench_sweep.proofs.lines.split_word.Goals as goal

pub returns-clause-within : goal.returns-clause-within
returns-clause-within c = rest_shorter c.args.text.now c.from_first_word.result.now c.word_length-length.result c.from_first_word.ensures
