use Rattle.audit_converters.proofs.Terms.{ConvertersKept, StandsFor, subst, sym}
use Rattle.audit_converters.proofs.converters.Converters.result.Goals as goal

pub returns : goal.returns
returns c s h =
    let v = subst (λ (k : ConvertersKept). StandsFor k s) (sym c.self.view_is) h in
    c.at.ensures s.results v.results
