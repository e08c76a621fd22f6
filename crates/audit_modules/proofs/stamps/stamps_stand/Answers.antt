use Rattle.std.proofs.Common.{ap, sym, ◌∙◌, is_some}
use Rattle.module_machines.specs.icu.Table.{channel_of}
use Rattle.module_machines.specs.declared.icu.table.IcuTable.{IcuTable}
use Rattle.mcal_base.specs.facts.Truths.{clash}
use Rattle.audit_frames.proofs.Deciding.{yes, worded}
use Rattle.audit_modules.proofs.stamps.stamps_stand.Goals as goal

pub returns-then-not-is_configured : goal.returns-then-not-is_configured
returns-then-not-is_configured c s h = yes (λ e. clash (sym (c.is_configured.ensures.is ∙ ap (λ (d : IcuTable). is_some (channel_of d c.args.channel)) c.table.ensures) ∙ c.if-not-is_configured.true) e)

pub returns : goal.returns
returns c s h =
    let some = sym (c.is_configured.ensures.is ∙ ap (λ (d : IcuTable). is_some (channel_of d c.args.channel)) c.table.ensures) ∙ c.if-not-is_configured.false in
    worded (λ x e. x) (λ f. f some) (c.has_stamps.ensures s h)
