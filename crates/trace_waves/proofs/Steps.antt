-- Settings one after another.
use Rattle.std.proofs.Common.{◌≡◌, List, [], ◌∷◌, ◌++◌, refl}
use Rattle.trace_waves.specs.Board.{Board, put, put_all}
use Rattle.trace_waves.specs.declared.board.Change.{Change}

pub put_all_append : (b : Board) (cs ds : List Change) → put_all b (cs ++ ds) ≡ put_all (put_all b cs) ds
put_all_append b [] ds = refl
put_all_append b (c ∷ cs) ds = put_all_append (put b c) cs ds
