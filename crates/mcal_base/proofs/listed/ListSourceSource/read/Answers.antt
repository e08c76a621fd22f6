use Rattle.std.proofs.Common.{arith, ◌≤◌, ◌+◌, ap}
use Rattle.std.proofs.lemmas.Grind.{common_steps}
use Rattle.mcal_base.specs.Faults.{failing_calls, Listing}
use Rattle.mcal_base.proofs.Counting.{failing_le}
use Rattle.mcal_base.proofs.listed.ListSourceSource.read.Goals as goal

pub returns-then-counts_as_failing-clause-cause : goal.returns-then-counts_as_failing-clause-cause
returns-then-counts_as_failing-clause-cause c =
    let few : failing_calls c.deref.result.now c.self.inside.calls + 0 ≤ c.self.inside.calls = omega (arith, failing_le c.deref.result.now c.self.inside.calls) in
    let rises = rw c.deref.ensures.value at (c.if-counts_as_failing.ensures.fails 0 few) in
    rw (← c.self.view_is) (record { later = rises.later; ok = tt; failed = rises.rose })

pub returns-clause-bytes : goal.returns-clause-bytes
returns-clause-bytes c =
    let front = c.copy_front-count.ensures.front in
    (grind (arith, common_steps, ap (λ (l : Listing). l.left) c.self.view_is), grind (arith, common_steps))
