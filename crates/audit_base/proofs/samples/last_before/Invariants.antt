use Rattle.std.proofs.Common.{length, take, ◌≡◌, ◌≤◌}
use Rattle.audit_base.specs.Inputs.{level_before}
use Rattle.audit_base.proofs.samples.last_before.Given as goal

abbrev pub invariant-loop-place : goal.invariant-loop-place
invariant-loop-place l = record {
  within : l.place ≤ length l.took;
  is : level_before l.took l.time ≡ level_before (take l.place l.took) l.time;
}

abbrev pub decreases-loop-place : goal.decreases-loop-place
decreases-loop-place l = l.place
