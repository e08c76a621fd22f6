use Rattle.std.proofs.Common.{ℕ, ◌≤◌, List, Option, ◌∙◌, ap, subst, sym}
use Rattle.std.specs.Option.{IfSome}
use Rattle.mcal_base.specs.Layout.{length_of}
use Rattle.mcal_base.specs.declared.config.icu.IcuChannel.{IcuChannel}
use Rattle.mcal_base.specs.declared.layout.Array.TheVariants.{Stamps}
use Rattle.audit_whole.specs.Sizes.{up_to}
use Rattle.audit_whole.proofs.SizeLaws.{few_size, kept_size, places_of}
use Rattle.audit_whole.proofs.sizes.shown_stamps.Goals as goal

pub returns-in-Some-clause-size : goal.returns-in-Some-clause-size
returns-in-Some-clause-size c s h fits =
    let most = c.places_in-most.ensures ∙ ap (λ (xs : List IcuChannel). places_of xs c.args.number) c.as_slice.ensures.items in
    let is = sym c.in-Some.is ∙ c.size.ensures s h in
    let few = subst (λ (o : Option ℕ). IfSome o (λ k. k ≤ length_of c.args.config.now (Stamps c.args.number))) (sym is) fits in
    c.up_to.ensures ∙ ap (λ (m : ℕ). up_to c.in-Some.size m) most ∙ kept_size c.in-Some.size _ few ∙ is

pub returns-in-Some-clause-few : goal.returns-in-Some-clause-few
returns-in-Some-clause-few c =
    let most = c.places_in-most.ensures ∙ ap (λ (xs : List IcuChannel). places_of xs c.args.number) c.as_slice.ensures.items in
    subst (λ (o : Option ℕ). IfSome o (λ k. k ≤ length_of c.args.config.now (Stamps c.args.number))) (sym (c.up_to.ensures ∙ ap (λ (m : ℕ). up_to c.in-Some.size m) most)) (few_size c.in-Some.size _)

pub returns-in-None-clause-size : goal.returns-in-None-clause-size
returns-in-None-clause-size c s h fits = sym c.in-None.is ∙ c.size.ensures s h
