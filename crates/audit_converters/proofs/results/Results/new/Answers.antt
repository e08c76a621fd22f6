use Rattle.audit_converters.proofs.Terms.{no_results}
use Rattle.audit_converters.proofs.results.Results.new.Goals as goal

pub returns : goal.returns
returns c = no_results 65536 c.in_ok-words.words.items (c.in_ok-words.ensures.items_if_clones_equal (λ y e. e))
