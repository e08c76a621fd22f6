use Rattle.std.proofs.Common.{sym, ◌∙◌}
use Rattle.trace_reader.proofs.Scanning.{empty_is, told_in}
use Rattle.trace_reader.proofs.scan.last_word.Goals as goal

pub returns-then-takes_word-clause-text : goal.returns-then-takes_word-clause-text
returns-then-takes_word-clause-text c = told_in c.args.made c.args.text.now c.word_in.result (rw c.if-takes_word.true at c.takes_word.ensures) c.word_in.ensures.text

pub returns-then-is_empty-clause-text : goal.returns-then-is_empty-clause-text
returns-then-is_empty-clause-text c = empty_is c.args.text.now (sym c.is_empty.ensures ∙ c.if-is_empty.true) ∙ sym ((rw c.if-takes_word.false at c.takes_word.ensures) 0)
