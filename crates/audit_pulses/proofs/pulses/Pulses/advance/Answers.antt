use Rattle.std.proofs.Common.{◌≤◌, ap, sym, subst}
use Rattle.audit_pulses.specs.Stands.{Kept}
use Rattle.audit_pulses.proofs.Bounds.{all-later}
use Rattle.audit_pulses.proofs.pulses.Pulses.advance.Goals as goal

pub invariant_of-self : goal.invariant_of-self
invariant_of-self c =
    let i = c.self.invariant in
    (i.0, all-later c.self.inside.latest c.args.now c.self.inside.channels (subst (λ t. t ≤ c.args.now) (sym (ap (λ (k : Kept). k.latest) c.self.view_is)) c.requires) i.1)
