use Rattle.trace_reader.proofs.Fronts.{behind_is}
use Rattle.trace_reader.proofs.front.behind.Goals as goal

pub returns : goal.returns
returns c = behind_is (λ w. w.now) c.args.text.now c.args.word.now _ c.strip_prefix.result c.as_bytes.ensures.value c.strip_prefix.ensures.cases
