use Rattle.audit_converters.proofs.Terms.{ap, ConvertersKept, is_unit_line, Some, StandsFor, startable_on, subst, sym, ◌&&◌, ◌∙◌}
use Rattle.audit_converters.proofs.converters.Converters.line_waits.Goals as goal

pub returns : goal.returns
returns c w s at h =
    let v = subst (λ (k : ConvertersKept). StandsFor k s) (sym c.self.view_is) h in
    let d = c.args.self.now.table in
    c.both.ensures
    ∙ (ap (λ b. b && c.is_startable-waits.result) c.is_unit_line-units.ensures
    ∙ ap (λ b. is_unit_line c.args.line && b) (c.is_startable-waits.ensures w s at v.groups
    ∙ (ap (λ (k : ConvertersKept). startable_on k.table w s (Some c.saturating_sub.result)) c.self.view_is
    ∙ ap (λ u. startable_on d w s (Some u)) c.saturating_sub.ensures)))
