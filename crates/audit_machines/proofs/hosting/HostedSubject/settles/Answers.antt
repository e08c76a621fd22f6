-- Channels and ports owe no write.
use Rattle.std.proofs.Common.{◌≡◌, ℕ, ◌<◌, [], sym, subst, arith}
use Rattle.std.specs.Prelude.{length}
use Rattle.mcal_base.specs.Bits.{has_bit}
use Rattle.audit_base.specs.Product.{either}
use Rattle.audit_frames.specs.StandsFor.{kind_at}
use Rattle.audit_frames.specs.Told.{is_of_kind}
use Rattle.audit_machines.proofs.hosting.HostedSubject.settles.Goals as goal

pub returns-in-Left : goal.returns-in-Left
returns-in-Left g c =
    let owed = (g.H.Subject.setting (g.H.Part.table c.args.self.now.host)).must in
    subst (λ x. (i : ℕ) → i < length (either owed (λ d. []) x) → has_bit c.settles.result i ≡ is_of_kind (kind_at (either owed (λ d. []) x) i) c.args.made.now) (sym c.in-Left.is) c.settles.ensures

pub returns-in-Right : goal.returns-in-Right
returns-in-Right g c =
    let owed = (g.H.Subject.setting (g.H.Part.table c.args.self.now.host)).must in
    subst (λ x. (i : ℕ) → i < length (either owed (λ d. []) x) → has_bit 0 i ≡ is_of_kind (kind_at (either owed (λ d. []) x) i) c.args.made.now) (sym c.in-Right.is) (λ i lt. (let none : ⊥ = omega (arith, lt) in absurd none))
