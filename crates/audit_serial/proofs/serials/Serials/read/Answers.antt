use Rattle.audit_serial.proofs.Terms.{ap, at, channel_of, EOk, first_items, length_by, named_with, short_by, subst, sym, ◌∙◌, ◌≤◌}
use Rattle.audit_serial.proofs.serials.Serials.read.Goals as goal

pub readable-requires : goal.readable-requires
readable-requires c =
    subst (λ k. length_by k ≤ 64) (sym c.channel-channel.ensures) (short_by (channel_of c.args.self.now.configured.table c.args.number) (c.args.self.now.configured.short c.args.number))

pub returns : goal.returns
returns c =
    let m = c.args.self.now in
    let n = c.args.number in
    ap (named_with EOk) (c.readable.ensures ∙ ap (λ k. first_items 0 (length_by k) (at m.channels n).received) c.channel-channel.ensures)
