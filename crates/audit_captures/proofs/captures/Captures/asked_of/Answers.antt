use Rattle.std.proofs.Common.{ap, subst, sym, ◌∙◌, refl, Some}
use Rattle.std.proofs.Math.Nat.{le_refl}
use Rattle.module_machines.specs.icu.Machine.{capture_at, with_capture, channel_work, channel_answer}
use Rattle.module_machines.specs.icu.Table.{channel_of}
use Rattle.run_model.specs.Machine.{answers}
use Rattle.audit_captures.specs.Stands.{ChannelStands, StandsFor, restarts, left_served}
use Rattle.audit_captures.proofs.ChannelLaws.{leaves-stands, kept-stored}
use Rattle.audit_captures.proofs.ModuleLaws.{set-stands, same-stamps, with-stored}
use Rattle.audit_captures.proofs.captures.Captures.asked_of.Goals as goal

pub returns-clause-is : goal.returns-clause-is
returns-clause-is c s known h =
    let t = c.args.self.now in
    let n = c.args.number in
    let call = c.args.call in
    let x = capture_at s n in
    let y = c.at-capture.result in
    let k = channel_of t.driver n in
    let there : ChannelStands k y x = subst (λ z. ChannelStands k z x) (sym c.at-capture.ensures.is) (h.channels n c.requires) in
    let made = leaves-stands (restarts call) k y c.worked.result x (channel_work call) there c.worked.ensures.is c.worked.ensures.leaves in
    let stored = kept-stored k y c.worked.result x (channel_work call) (left_served (restarts call)) there c.worked.ensures.is in
    let mine : ChannelStands (Some c.args.channel) y x = subst (λ z. ChannelStands z y x) known there in
    record {
      told = c.with_answer.ensures ∙ ap answers (c.answer.ensures mine.served mine.stored mine.follows ∙ ap (channel_answer c.args.channel call) (sym mine.is));
      wordless = refl;
      kept = subst (λ z. StandsFor z (with_capture s n (channel_work call x))) (sym c.set.ensures.is) (record {
        initialised = h.initialised;
        few = le_refl 8;
        channels = set-stands t s n c.worked.result (channel_work call x) c.at-capture.ensures.size c.requires h.channels made;
        stamps = same-stamps t.stamps s (with_capture s n (channel_work call x)) (with-stored s n (channel_work call x) c.requires stored) h.stamps;
      });
    }
