-- The law is proved over the definitions.
use Rattle.word_shapes.proofs.InterleavingLaws.{reads-pinned, reads-front}
use Rattle.word_shapes.proofs.laws.whole_take.Goals as goal

pub returns-clause-pinned : goal.returns-clause-pinned
returns-clause-pinned _ = λ t m bank xs before since n fits stands may stay at le. reads-pinned t m bank xs before since n fits stands may stay at le

pub returns-clause-open_take : goal.returns-clause-open_take
returns-clause-open_take _ = λ t live told deeds kept n fits matches open_take may stay at le. reads-front t live told deeds kept n fits matches may stay open_take at le
