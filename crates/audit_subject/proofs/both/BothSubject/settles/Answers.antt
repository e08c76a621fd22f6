-- What a call owes its module says.
use Rattle.std.proofs.Common.{◌≡◌, ℕ, ◌<◌, sym, subst}
use Rattle.std.specs.Prelude.{length}
use Rattle.mcal_base.specs.Bits.{has_bit}
use Rattle.audit_base.specs.Product.{either}
use Rattle.audit_frames.specs.StandsFor.{kind_at}
use Rattle.audit_frames.specs.Told.{is_of_kind}
use Rattle.audit_subject.proofs.both.BothSubject.settles.Goals as goal

pub returns-in-Left : goal.returns-in-Left
returns-in-Left g c =
    let p = (g.A.Subject.setting (g.A.Part.table c.args.self.now.first)).must in
    let q = (g.B.Subject.setting (g.B.Part.table c.args.self.now.second)).must in
    subst (λ x. (i : ℕ) → i < length (either p q x) → has_bit c.settles.result i ≡ is_of_kind (kind_at (either p q x) i) c.args.made.now) (sym c.in-Left.is) c.settles.ensures

pub returns-in-Right : goal.returns-in-Right
returns-in-Right g c =
    let p = (g.A.Subject.setting (g.A.Part.table c.args.self.now.first)).must in
    let q = (g.B.Subject.setting (g.B.Part.table c.args.self.now.second)).must in
    subst (λ x. (i : ℕ) → i < length (either p q x) → has_bit c.settles-in-Right.result i ≡ is_of_kind (kind_at (either p q x) i) c.args.made.now) (sym c.in-Right.is) c.settles-in-Right.ensures
