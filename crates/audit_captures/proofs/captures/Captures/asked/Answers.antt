use Rattle.std.proofs.Common.{ap, subst, sym, ◌∙◌, refl}
use Rattle.module_machines.specs.icu.Machine.{asked}
use Rattle.module_machines.specs.icu.Table.{channel_of}
use Rattle.audit_base.specs.Comes.{Gives}
use Rattle.audit_captures.specs.Stands.{CapturesKept, StandsFor}
use Rattle.audit_captures.proofs.ChannelLaws.{channel-below}
use Rattle.audit_captures.proofs.captures.Captures.asked.Goals as goal

pub asked_of-requires : goal.asked_of-requires
asked_of-requires c =
    channel-below c.args.self.now.driver c.args.number c.in-Some.channel (sym (c.in-Some.ensures ∙ ap (λ (t : CapturesKept). channel_of t.driver c.args.number) c.self.view_is))

pub returns-in-Some-clause-is : goal.returns-in-Some-clause-is
returns-in-Some-clause-is c s h =
    let known = c.in-Some.ensures ∙ ap (λ (t : CapturesKept). channel_of t.driver c.args.number) c.self.view_is in
    subst (λ k. Gives (StandsFor c.asked_of.new.self) c.asked_of.result (asked k s c.args.number c.args.call)) known (c.asked_of.ensures.is s (sym known) h)

pub returns-in-None-clause-is : goal.returns-in-None-clause-is
returns-in-None-clause-is c s h =
    let none = c.in-None.ensures ∙ ap (λ (t : CapturesKept). channel_of t.driver c.args.number) c.self.view_is in
    subst (λ k. Gives (StandsFor c.args.self.now) c.nothing.result (asked k s c.args.number c.args.call)) none (record { told = c.nothing.ensures; wordless = refl; kept = h })
