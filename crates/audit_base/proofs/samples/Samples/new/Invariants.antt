use Rattle.std.proofs.Common.{length, ℕ, ◌≡◌}
use Rattle.std.specs.Prelude.{slice_get}
use Rattle.audit_base.specs.Inputs.{level_of}
use Rattle.audit_base.proofs.samples.Samples.new.Given as goal

abbrev pub invariant-loop-input : goal.invariant-loop-input
invariant-loop-input l = record {
  size : length l.inputs.items ≡ l._input;
  none : (i t : ℕ) → level_of (slice_get l.inputs.items i) t ≡ 0;
}
