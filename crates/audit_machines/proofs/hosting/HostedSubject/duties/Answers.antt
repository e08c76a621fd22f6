-- Channels and ports owe no write.
use Rattle.std.proofs.Common.{◌≡◌, ℕ, [], sym, ◌∙◌, subst}
use Rattle.std.specs.Prelude.{length, nat_lt}
use Rattle.mcal_base.proofs.BitLaws.{has_bit-zero}
use Rattle.mcal_base.specs.Bits.{has_bit}
use Rattle.mcal_base.specs.facts.Numbers.{lt_zero}
use Rattle.audit_base.specs.Product.{either}
use Rattle.audit_machines.proofs.hosting.HostedSubject.duties.Goals as goal

pub returns-in-Left : goal.returns-in-Left
returns-in-Left g c =
    let owed = (g.H.Subject.setting (g.H.Part.table c.args.self.now.host)).must in
    subst (λ x. (i : ℕ) → has_bit c.duties.result i ≡ nat_lt i (length (either owed (λ d. []) x))) (sym c.in-Left.is) c.duties.ensures

pub returns-in-Right : goal.returns-in-Right
returns-in-Right g c =
    let owed = (g.H.Subject.setting (g.H.Part.table c.args.self.now.host)).must in
    subst (λ x. (i : ℕ) → has_bit 0 i ≡ nat_lt i (length (either owed (λ d. []) x))) (sym c.in-Right.is) (λ i. has_bit-zero i ∙ sym (lt_zero i))
