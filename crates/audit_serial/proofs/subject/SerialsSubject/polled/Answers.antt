use Rattle.std.proofs.Common.{subst, sym, true, ◌≡◌}
use Rattle.mcal_base.specs.Bits.{has_bit}
use Rattle.audit_serial.proofs.Framed.{may_poll}
use Rattle.audit_serial.proofs.subject.SerialsSubject.polled.Goals as goal

pub returns : goal.returns
returns c w s l e = subst (λ n. has_bit n l ≡ true) (sym c.lines_of.ensures) (may_poll s c.args.call.now l e)
