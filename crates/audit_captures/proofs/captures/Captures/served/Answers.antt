use Rattle.std.proofs.Common.{◌≡◌, ◌+◌, length, ap, subst, sym, ◌∙◌, refl, Some}
use Rattle.std.proofs.Math.Nat.{le_refl}
use Rattle.audit_base.specs.Tells.{gives}
use Rattle.module_machines.specs.icu.Machine.{with_capture, served_by, kinds_by, notices_of, index_by}
use Rattle.module_machines.specs.icu.Table.{is_timestamp}
use Rattle.std.specs.Prelude.{option_map}
use Rattle.audit_captures.specs.Stands.{CapturesKept, ChannelStands, StandsFor, edge_of, start_of, keeps_edge, more_served, more_stored, stored_if, with_kept}
use Rattle.audit_captures.proofs.ModuleLaws.{set-stands, more-stamps}
use Rattle.audit_captures.proofs.captures.Captures.served.Goals as goal

pub returns-clause-is : goal.returns-clause-is
returns-clause-is c s x h known mine stored =
    let t = c.args.self.now in
    let n = c.args.number in
    let k = c.args.channel in
    let e = edge_of c.args.edge in
    let place = index_by k (option_map start_of c.args.capture.start) c.args.capture.served in
    let times = stored_if (is_timestamp k.mode) t.stamps n c.index.result c.args.edge.time in
    let made = served_by k.mode k e x in
    let follows = c.served_by.ensures.follows mine.served mine.follows in
    let new : ChannelStands (Some k) c.served_by.result made = record {
      served = more_served (keeps_edge k.mode) mine.served e;
      stored = more_stored (is_timestamp k.mode) place e mine.stored;
      is = ap (served_by k.mode k e) mine.is ∙ sym (c.served_by.ensures.is mine.served mine.stored mine.follows);
      follows = follows;
    } in
    let stamps = subst (λ p. made.stored ≡ more_stored (is_timestamp k.mode) p e mine.stored) (sym c.index.ensures) (ap (λ v. v.stored) new.is) in
    let was = sym (ap (λ v. v.stored) mine.is) ∙ stored in
    record {
      told = c.with_notices.ensures ∙ ap gives (c.notices.ensures ∙ ap (notices_of n) (c.kind-kind.ensures mine.served mine.stored mine.follows.count ∙ ap (kinds_by k.mode) (sym mine.is)));
      wordless = refl;
      kept = subst (λ z. StandsFor z (with_capture s n made)) (sym (c.set.ensures.is ∙ ap (λ z. with_kept z n c.served_by.result) (c.count.ensures ∙ ap (λ (z : CapturesKept). record z { servings = z.servings + 1 }) c.store.ensures.is))) (record {
        initialised = h.initialised;
        few = le_refl 8;
        channels = set-stands t s n c.served_by.result made (sym (ap (λ (z : CapturesKept). length z.channels) (c.count.ensures ∙ ap (λ (z : CapturesKept). record z { servings = z.servings + 1 }) c.store.ensures.is)) ∙ c.set.ensures.size) c.requires.there h.channels (subst (λ z. ChannelStands z c.served_by.result made) (sym known) new);
        stamps = more-stamps (is_timestamp k.mode) t.stamps s n c.index.result c.args.edge.time mine.stored e made refl c.store.ensures.size c.requires.there was stamps h.stamps;
      });
    }
