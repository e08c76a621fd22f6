use Rattle.std.proofs.Common.{◌≡◌, ℕ, refl, subst, sym, [], ◌∷◌}
use Rattle.std.proofs.Math.Nat.{le_refl}
use Rattle.module_machines.specs.icu.Machine as machine
use Rattle.module_machines.specs.icu.Machine.{by_channel, capture_at, cleared}
use Rattle.module_machines.specs.icu.Table.{channel_of}
use Rattle.audit_captures.proofs.ChannelLaws.{cleared-stored}
use Rattle.audit_captures.specs.Stands.{StandsFor}
use Rattle.audit_captures.proofs.ModuleLaws.{same-stamps, table-stands, table-stored}
use Rattle.audit_captures.proofs.captures.Captures.clear.Goals as goal

pub returns-clause-is : goal.returns-clause-is
returns-clause-is c s h =
    let t = c.args.self.now in
    let made : ℕ → machine.Capture = λ n. cleared (channel_of t.driver n) (capture_at s n) in
    let same : (n : ℕ) → (made n).stored ≡ (capture_at s n).stored = λ n. cleared-stored (channel_of t.driver n) (capture_at s n) in
    let kept = subst (λ z. StandsFor (record z { initialised = c.args.initialised; channels = c.cleared_at.result ∷ c.cleared_at-2.result ∷ c.cleared_at-3.result ∷ c.cleared_at-4.result ∷ c.cleared_at-5.result ∷ c.cleared_at-6.result ∷ c.cleared_at-7.result ∷ c.cleared_at-8.result ∷ [] }) (record s { initialised = c.args.initialised; channels = by_channel made })) (sym c.self.view_is)
    (record {
      initialised = refl;
      few = le_refl 8;
      channels = table-stands t s made c.cleared_at.result c.cleared_at-2.result c.cleared_at-3.result c.cleared_at-4.result c.cleared_at-5.result c.cleared_at-6.result c.cleared_at-7.result c.cleared_at-8.result
          (c.cleared_at.ensures.is s h) (c.cleared_at-2.ensures.is s h) (c.cleared_at-3.ensures.is s h) (c.cleared_at-4.ensures.is s h) (c.cleared_at-5.ensures.is s h) (c.cleared_at-6.ensures.is s h) (c.cleared_at-7.ensures.is s h) (c.cleared_at-8.ensures.is s h);
      stamps = same-stamps t.stamps s (record s { initialised = c.args.initialised; channels = by_channel made }) (table-stored s made same) h.stamps;
    }) in
    record { told = c.nothing.ensures; wordless = refl; kept = kept }
