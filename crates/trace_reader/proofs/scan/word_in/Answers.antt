use Rattle.std.proofs.Common.{sym, ◌∙◌}
use Rattle.trace_reader.proofs.Scanning.{comes_in}
use Rattle.trace_reader.proofs.scan.word_in.Goals as goal

pub returns-then-is_empty-clause-text : goal.returns-then-is_empty-clause-text
returns-then-is_empty-clause-text c = comes_in c.args.text.now c.in_ok-rest.rest.now c.in_ok-received.rest.now c.in_ok-received.received c.in_ok-rest.ensures c.in_ok-received.ensures (sym c.is_empty.ensures ∙ c.if-is_empty.true)
