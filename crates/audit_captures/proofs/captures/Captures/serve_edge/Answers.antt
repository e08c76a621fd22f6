use Rattle.std.proofs.Common.{ap, subst, sym, ◌∙◌, refl, Some, None}
use Rattle.module_machines.specs.icu.Machine.{Capture, capture_at}
use Rattle.module_machines.specs.icu.Table.{channel_of}
use Rattle.audit_base.specs.Comes.{ComesIf}
use Rattle.audit_captures.specs.Stands.{ChannelStands, StandsFor, edge_of, edges_of, served_if}
use Rattle.audit_captures.proofs.ServeLaws.{split-some, split-none}
use Rattle.audit_captures.proofs.captures.Captures.serve_edge.Goals as goal

pub returns-in-Some-clause-is : goal.returns-in-Some-clause-is
returns-in-Some-clause-is c s known h =
    let n = c.args.number in
    let k = c.args.channel in
    let x = capture_at s n in
    let y = c.at-capture.result in
    let rest = edges_of c.in-Some.waiting in
    let there : ChannelStands (channel_of c.args.self.now.driver n) y x = subst (λ z. ChannelStands (channel_of c.args.self.now.driver n) z x) (sym c.at-capture.ensures.is) (h.channels n c.requires.there) in
    let mine : ChannelStands (Some k) y x = subst (λ z. ChannelStands z y x) known there in
    let waits = ap (λ (v : Capture). v.waiting) mine.is ∙ split-some (edges_of y.waiting) (edge_of c.in-Some.edge) rest c.in-Some.ensures in
    let popped : ChannelStands (Some k) (record y { waiting = c.in-Some.waiting }) (record x { waiting = rest }) = record { served = mine.served; stored = mine.stored; is = ap (λ (v : Capture). record v { waiting = rest }) mine.is; follows = mine.follows } in
    subst (λ es. ComesIf (StandsFor c.served.new.self) (Some c.served.result) (served_if (Some k) s n es)) (sym waits) (c.served.ensures.is s (record x { waiting = rest }) h known popped refl)

pub returns-in-None-clause-is : goal.returns-in-None-clause-is
returns-in-None-clause-is c s known h =
    let n = c.args.number in
    let k = c.args.channel in
    let x = capture_at s n in
    let y = c.at-capture.result in
    let there : ChannelStands (channel_of c.args.self.now.driver n) y x = subst (λ z. ChannelStands (channel_of c.args.self.now.driver n) z x) (sym c.at-capture.ensures.is) (h.channels n c.requires.there) in
    let waits = ap (λ (v : Capture). v.waiting) there.is ∙ split-none (edges_of y.waiting) c.in-None.ensures in
    subst (λ es. ComesIf (StandsFor c.args.self.now) None (served_if (Some k) s n es)) (sym waits) tt
