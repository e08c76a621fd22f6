use Rattle.std.proofs.Common.{ℕ, ◌≤◌, Option, ◌∙◌, ap, subst, sym}
use Rattle.std.specs.Option.{IfSome, option_map}
use Rattle.adc_machine.specs.Table.{table_of}
use Rattle.adc_machine.specs.Words.{buffer_number, place_count}
use Rattle.adc_machine.specs.declared.call.ResultBuffer.{ResultBuffer}
use Rattle.adc_machine.specs.declared.table.AdcTable.{AdcTable}
use Rattle.mcal_base.specs.Layout.{length_of}
use Rattle.mcal_base.specs.declared.layout.Array.TheVariants.{Round}
use Rattle.shown_rows.specs.Shows.{results_at}
use Rattle.audit_whole.specs.Resting.{Resting}
use Rattle.audit_whole.proofs.AtRestLaws.{results_few}
use Rattle.audit_whole.proofs.at_rest.AtRestAllModulesShownBoard.results.Goals as goal

pub returns-clause-is : goal.returns-clause-is
returns-clause-is c w s h =
    let i = c.self.inside in
    let k = rw (← c.self.view_is) at h in
    c.numbered.ensures
    ∙ ap (λ (n : ℕ). option_map (λ b. (buffer_number b, n)) c.chosen-chosen.result) (c.place_count.ensures ∙ ap (λ (d : AdcTable). place_count d c.args.group) c.self.invariant.1)
    ∙ ap (λ (o : Option ResultBuffer). option_map (λ b. (buffer_number b, place_count (table_of i.config.now.adc) c.args.group)) o) (c.chosen-chosen.ensures s.1.1.0 k.1.1.1.0)
    ∙ ap (λ (r : Resting _). results_at r.config s c.args.group) c.self.view_is

pub returns-clause-few : goal.returns-clause-few
returns-clause-few c =
    let i = c.self.inside in
    let told =
    c.numbered.ensures
    ∙ ap (λ (n : ℕ). option_map (λ b. (buffer_number b, n)) c.chosen-chosen.result) (c.place_count.ensures ∙ ap (λ (d : AdcTable). place_count d c.args.group) c.self.invariant.1) in
    subst (λ (r : Resting _). IfSome c.numbered.result (λ found. found.1 ≤ length_of r.config (Round c.args.group found.0))) c.self.view_is
    (subst (λ (o : Option (ℕ × ℕ)). IfSome o (λ found. found.1 ≤ length_of i.config.now (Round c.args.group found.0))) (sym told)
    (results_few i.config.now c.self.invariant.0.adc c.args.group c.chosen-chosen.result))
