use Rattle.std.proofs.Common.{ℕ, ◌≤◌, List, Option, ap, sym, subst, ◌∙◌}
use Rattle.std.specs.Option.{IfSome}
use Rattle.mcal_base.specs.Layout.{length_of}
use Rattle.mcal_base.specs.declared.config.icu.IcuChannel.{IcuChannel}
use Rattle.mcal_base.specs.declared.layout.Array.TheVariants.{Stamps}
use Rattle.audit_whole.proofs.SizeLaws.{at_most, places_of}
use Rattle.audit_whole.proofs.sizes.size_fits.Goals as goal

pub returns-in-Some : goal.returns-in-Some
returns-in-Some c s h e =
    subst (λ (o : Option ℕ). IfSome o (λ k. k ≤ length_of c.args.config.now (Stamps c.args.number))) (sym c.in-Some.is ∙ c.size.ensures s h)
    (at_most _ _ c.places_in.result (c.places_in.ensures ∙ ap (λ (xs : List IcuChannel). places_of xs c.args.number) c.as_slice.ensures.items) e)

pub returns-in-None : goal.returns-in-None
returns-in-None c s h e =
    subst (λ (o : Option ℕ). IfSome o (λ k. k ≤ length_of c.args.config.now (Stamps c.args.number))) (sym c.in-None.is ∙ c.size.ensures s h) tt
