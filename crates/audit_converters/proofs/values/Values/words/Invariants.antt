use Rattle.audit_converters.proofs.Terms.{listed, take, ◌≡◌}
use Rattle.audit_converters.proofs.values.Values.words.Given as goal

abbrev pub invariant-loop-place : goal.invariant-loop-place
invariant-loop-place l = l.words ≡ take l.place (listed l.fn.self)
