use Rattle.trace_reader.proofs.Fronts.{first_byte}
use Rattle.trace_reader.proofs.Scanning.{moved_from}
use Rattle.trace_reader.proofs.scan.first_move.Goals as goal

pub returns-in-len1-up : goal.returns-in-len1-up
returns-in-len1-up c = moved_from (λ w. w.now) c.args.text.now _ c.move_behind.result (first_byte c.args.text.now _ c.in-len1-up.len_at_least) c.move_behind.ensures
