use Rattle.std.proofs.Common.{◌∙◌, ap, false, refl, slice_index_or, sym}
use Rattle.audit_base.proofs.Low.{same_everywhere}
use Rattle.audit_base.proofs.outside.Outside.new.Goals as goal

pub returns-clause-world : goal.returns-clause-world
returns-clause-world c devices = record {
  osc = refl;
  now = refl;
  levels = λ p lt. sym (ap (λ xs. slice_index_or xs p false) c.all_low.ensures ∙ same_everywhere 64 p false);
  samples = c.in_ok-samples.ensures;
}
