-- The law is proved over the definitions.
use Rattle.word_shapes.proofs.RoomLaws.{add-lowers, again-lowers, front-lowers, next-lowers, drop-lowers, put-lowers, take-lowers}
use Rattle.word_shapes.proofs.laws.moves_left.Goals as goal

pub returns-clause-add : goal.returns-clause-add
returns-clause-add _ = add-lowers

pub returns-clause-again : goal.returns-clause-again
returns-clause-again _ = again-lowers

pub returns-clause-front : goal.returns-clause-front
returns-clause-front _ = front-lowers

pub returns-clause-next : goal.returns-clause-next
returns-clause-next _ = next-lowers

pub returns-clause-drop : goal.returns-clause-drop
returns-clause-drop _ = drop-lowers

pub returns-clause-put : goal.returns-clause-put
returns-clause-put _ = put-lowers

pub returns-clause-take : goal.returns-clause-take
returns-clause-take _ = take-lowers
