use Rattle.std.specs.Prelude.{Option}
use Rattle.run_model.specs.World.{World}
use Rattle.audit_converters.proofs.Terms.{AdcState, ap, ConvertersKept, is_some, None, refl, Some, StandsFor, starting, starts_on, subst, sym, ℕ, ◌∙◌, ◌≡◌}
use Rattle.audit_converters.proofs.converters.Converters.starts.Goals as goal

-- a start is allowed where there is a group to start
begins : (w : World) (s : AdcState) (u : ℕ) (g : Option ℕ) → is_some g ≡ is_some (starting w s u g)
begins w s u None = refl
begins w s u (Some g) = refl

pub returns-in-Some : goal.returns-in-Some
returns-in-Some c w s h =
    let v = subst (λ (k : ConvertersKept). StandsFor k s) (sym c.self.view_is) h in
    c.is_some.ensures
    ∙ (ap is_some (c.starts.ensures s v.groups)
    ∙ (begins w s c.in-Some.unit _
    ∙ (ap (λ (k : ConvertersKept). is_some (starts_on k.table w s (Some c.in-Some.unit))) c.self.view_is
    ∙ ap (λ u. is_some (starts_on c.args.self.now.table w s u)) (sym c.in-Some.is ∙ c.number_of.ensures))))

pub returns-in-None : goal.returns-in-None
returns-in-None c w s h = ap (λ u. is_some (starts_on c.args.self.now.table w s u)) (sym c.in-None.is ∙ c.number_of.ensures)
