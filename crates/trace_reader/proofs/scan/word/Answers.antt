use Rattle.trace_reader.proofs.Scanning.{word_is}
use Rattle.trace_reader.proofs.scan.word.Goals as goal

pub returns : goal.returns
returns c = word_is c.args.text.now c.in_ok-word.rest.now c.in_ok-rest.rest.now c.in_ok-value.rest.now c.in_ok-word.word c.in_ok-value.value c.in_ok-word.ensures c.in_ok-rest.ensures c.in_ok-value.ensures
