-- Each part of the terms is what the module says of the line.
use Rattle.std.proofs.Common.{ℕ, sym, refl, ◌∙◌, ap, None, arith}
use Rattle.std.proofs.lemmas.Nat.{one_shl}
use Rattle.mcal_base.proofs.BitLaws.{has_bit-pow_same}
use Rattle.mcal_base.specs.Bits.{has_bit}
use Rattle.mcal_base.specs.declared.module_name.ModuleName.{ModuleName}
use Rattle.run_model.specs.declared.class.Tag.{Tag}
use Rattle.audit_subject.proofs.terms.line_terms.Goals as goal

pub returns : goal.returns
returns g c =
    let t = g.S.Part.table c.args.subject.now in
    let own = g.S.Subject.setting t in
    let tag : ℕ → ModuleName → Tag = λ level owner. record { level = level; owner = owner; class = None } in
    record {
      task = (refl, ap (λ m. has_bit m c.args.line) (one_shl c.args.line 64 c.requires) ∙ has_bit-pow_same c.args.line);
      tag = ap (λ x. tag x c.owner.result) c.level.ensures ∙ ap (tag (own.level_of c.args.line)) c.owner.ensures;
      steps = c.line_steps.ensures;
      window = sym (g.met.S.Subject.windows t _);
      asked = omega arith;
    }
