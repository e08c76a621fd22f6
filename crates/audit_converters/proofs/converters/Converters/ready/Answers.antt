use Rattle.audit_converters.proofs.Terms.{ap, ConvertersKept, ready, StandsFor, subst, sym, ◌∙◌}
use Rattle.audit_converters.proofs.converters.Converters.ready.Goals as goal

pub returns : goal.returns
returns c w s at h =
    let v = subst (λ (k : ConvertersKept). StandsFor k s) (sym c.self.view_is) h in
    c.ready.ensures w s at v.groups ∙ ap (λ (k : ConvertersKept). ready k.table w s c.args.line) c.self.view_is
