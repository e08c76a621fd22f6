use Rattle.audit_converters.proofs.Terms.{after_values, drop, listed, ResultBuffer, ℕ, ◌*◌, ◌+◌, ◌<◌, ◌≡◌}
use Rattle.audit_converters.proofs.results.Results.store.Given as goal

abbrev pub invariant-loop-number : goal.invariant-loop-number
invariant-loop-number l = record {
  at : l.at ≡ l.place + l.number * l.step;
  holds : (h : ℕ) (c : ResultBuffer) (p : ℕ) → h < 16 → p < 2048 →
      after_values l.group l.buffer l.at l.step (drop l.number (listed l.values)) l.self h c p ≡ after_values l.group l.buffer l.place l.step (listed l.values) l.initial.self h c p;
}
