use Rattle.audit_converters.proofs.Terms.{ap, ConvertersKept, GroupKept, StandsFor, subst, sym}
use Rattle.audit_converters.proofs.converters.Converters.chosen.Goals as goal

pub returns : goal.returns
returns c s h =
    let v = subst (λ (k : ConvertersKept). StandsFor k s) (sym c.self.view_is) h in
    ap (λ (x : GroupKept). x.chosen) (c.at.ensures.is s v.groups)
