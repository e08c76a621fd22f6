use Rattle.std.proofs.Common.{[], ◌∷◌, get_or}
use Rattle.trace_reader.proofs.Fronts.{first_byte, spelled_from}
use Rattle.trace_reader.proofs.front.first_register.Goals as goal

pub returns-in-len1-up : goal.returns-in-len1-up
returns-in-len1-up c =
    spelled_from (λ w. w.now) [] c.args.text.now (get_or c.args.text.now 0 _ ∷ []) _ c.register_behind.result (first_byte c.args.text.now _ c.in-len1-up.len_at_least) c.register_behind.ensures
