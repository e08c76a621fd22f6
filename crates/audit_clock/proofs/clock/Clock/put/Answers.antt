use Rattle.std.proofs.Common.{◌<◌, ◌∙◌, sym, ap, subst, slice_index_or}
use Rattle.std.specs.Prelude.{◌==◌, if◌then◌else◌}
use Rattle.audit_clock.specs.ClockStands.{ClockKept}
use Rattle.audit_clock.proofs.Fills.{place_set}
use Rattle.audit_clock.proofs.clock.Clock.put.Goals as goal

pub returns-then-place-lt512-clause-ram : goal.returns-then-place-lt512-clause-ram
returns-then-place-lt512-clause-ram c k lt =
    place_set c.self.inside.ram k c.args.place c.args.value (subst (λ m. c.args.place < m) (sym c.self.invariant) c.if-place-lt512.true)
    ∙ ap (λ ys. if k == c.args.place then c.args.value else slice_index_or ys k 0) (ap (λ (r : ClockKept). r.ram) c.self.view_is)
