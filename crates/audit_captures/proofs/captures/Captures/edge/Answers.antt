use Rattle.std.proofs.Common.{◌≡◌, ℕ, ap, subst, sym, [], ◌∷◌}
use Rattle.std.proofs.Math.Nat.{le_refl}
use Rattle.module_machines.specs.icu.Machine as machine
use Rattle.module_machines.specs.icu.Machine.{by_channel, capture_at, edge_at_pin}
use Rattle.module_machines.specs.icu.Table.{channel_of}
use Rattle.module_machines.specs.icu.laws.Edges.{pin_still}
use Rattle.audit_captures.specs.Stands.{StandsFor}
use Rattle.audit_captures.proofs.ModuleLaws.{same-stamps, table-stands, table-stored}
use Rattle.audit_captures.proofs.captures.Captures.edge.Goals as goal

pub returns-clause-is : goal.returns-clause-is
returns-clause-is c s h =
    let t = c.args.self.now in
    let made : ℕ → machine.Capture = λ n. edge_at_pin (channel_of t.driver n) c.args.now c.args.pin c.args.rising (capture_at s n) in
    let same : (n : ℕ) → (made n).stored ≡ (capture_at s n).stored = λ n. ap (λ (x : machine.Capture). x.stored) (pin_still (channel_of t.driver n) c.args.now c.args.pin c.args.rising (capture_at s n)) in
    subst (λ z. StandsFor (record z { channels = c.edge_at.result ∷ c.edge_at-2.result ∷ c.edge_at-3.result ∷ c.edge_at-4.result ∷ c.edge_at-5.result ∷ c.edge_at-6.result ∷ c.edge_at-7.result ∷ c.edge_at-8.result ∷ [] }) (record s { channels = by_channel made })) (sym c.self.view_is)
    (record {
      initialised = h.initialised;
      few = le_refl 8;
      channels = table-stands t s made c.edge_at.result c.edge_at-2.result c.edge_at-3.result c.edge_at-4.result c.edge_at-5.result c.edge_at-6.result c.edge_at-7.result c.edge_at-8.result
          (c.edge_at.ensures.is s h) (c.edge_at-2.ensures.is s h) (c.edge_at-3.ensures.is s h) (c.edge_at-4.ensures.is s h) (c.edge_at-5.ensures.is s h) (c.edge_at-6.ensures.is s h) (c.edge_at-7.ensures.is s h) (c.edge_at-8.ensures.is s h);
      stamps = same-stamps t.stamps s (record s { channels = by_channel made }) (table-stored s made same) h.stamps;
    })
