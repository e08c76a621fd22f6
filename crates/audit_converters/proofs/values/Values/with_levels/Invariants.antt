use Rattle.audit_converters.proofs.Terms.{drop, length, levels_from, List, listed, Sample, Took, ◌*◌, ◌++◌, ◌+◌, ◌≡◌}
use Rattle.audit_converters.proofs.values.Values.with_levels.Given as goal

abbrev pub invariant-loop-input : goal.invariant-loop-input
invariant-loop-input l = record {
  is : (taken : List Sample) → Took l.samples taken → listed l.fn.self ++ levels_from taken l.start l.inputs ≡ listed l.values ++ levels_from taken l.time (drop l.input-index l.inputs);
  time : l.time ≡ l.start + 4 * l.input-index;
  room : length (listed l.values) ≡ length (listed l.fn.self) + l.input-index;
}
