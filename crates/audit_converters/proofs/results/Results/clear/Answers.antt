use Rattle.audit_converters.proofs.Terms.{no_results, vec_len}
use Rattle.audit_converters.proofs.results.Results.clear.Goals as goal

pub returns : goal.returns
returns c = no_results (vec_len c.self.inside.words) c.fill.new.self.items (c.fill.ensures.items (λ y e. e))
