use Rattle.trace_reader.proofs.Fronts.{first_byte, first_of}
use Rattle.trace_reader.proofs.front.first_number.Goals as goal

pub returns-in-len1-up : goal.returns-in-len1-up
returns-in-len1-up c = first_of (λ w. w.now) c.args.text.now _ c.number_behind.result (first_byte c.args.text.now _ c.in-len1-up.len_at_least) c.number_behind.ensures
