-- A handler owes no write.
use Rattle.std.proofs.Common.{◌≡◌, ℕ, ◌<◌, sym, subst, arith}
use Rattle.std.specs.Prelude.{length}
use Rattle.mcal_base.specs.Bits.{has_bit}
use Rattle.audit_frames.specs.StandsFor.{kind_at, must_of}
use Rattle.audit_frames.specs.Told.{is_of_kind}
use Rattle.audit_subject.specs.Origins.{origin_of}
use Rattle.audit_subject.proofs.asking.settles_of.Goals as goal

pub returns-in-Call : goal.returns-in-Call
returns-in-Call g c =
    let own = g.S.Subject.setting (g.S.Part.table c.args.subject.now) in
    subst (λ o. (i : ℕ) → i < length (must_of own (origin_of o)) → has_bit c.settles.result i ≡ is_of_kind (kind_at (must_of own (origin_of o)) i) c.args.made.now) (sym c.in-Call.is) c.settles.ensures

pub returns-in-Line : goal.returns-in-Line
returns-in-Line g c =
    let own = g.S.Subject.setting (g.S.Part.table c.args.subject.now) in
    subst (λ o. (i : ℕ) → i < length (must_of own (origin_of o)) → has_bit 0 i ≡ is_of_kind (kind_at (must_of own (origin_of o)) i) c.args.made.now) (sym c.in-Line.is) (λ i lt. (let none : ⊥ = omega (arith, lt) in absurd none))
