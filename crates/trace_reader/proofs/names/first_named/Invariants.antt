use Rattle.std.proofs.Common.{◌≡◌, drop}
use Rattle.bench_script.specs.Words.{named}
use Rattle.trace_reader.proofs.names.first_named.Given as goal

abbrev pub invariant-loop-choice : goal.invariant-loop-choice
invariant-loop-choice g l = named g.T.Spelled.spelling l.choices l.word ≡ named g.T.Spelled.spelling (drop l.choice-index l.choices) l.word
