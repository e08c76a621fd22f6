-- The law is proved over the definitions.
use Rattle.word_shapes.specs.Interleaving.{live_first, told_first}
use Rattle.word_shapes.proofs.InterleavingLaws.{matches-first, matches-all}
use Rattle.word_shapes.proofs.laws.puts_and_takes.Goals as goal

pub returns : goal.returns
returns _ = λ t m bank xs deeds fits stands may. matches-all t (live_first m) (told_first xs) deeds fits (matches-first t m bank xs stands) may
