use Rattle.std.proofs.Common.{◌+◌, ◌-◌, vec_len}
use Rattle.audit_serial.proofs.ByNumber.{IsPadded}
use Rattle.audit_serial.proofs.numbered.set_item.Given as goal

abbrev pub invariant-grows : goal.invariant-grows
invariant-grows g l = IsPadded l.first l.initial.items.items l.items.items l.number

abbrev pub decreases-grows : goal.decreases-grows
decreases-grows g l = l.number + 1 - vec_len l.items
