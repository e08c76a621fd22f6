-- Each part of the terms is what the module says of the call.
use Rattle.std.proofs.Common.{◌≡◌, sym, ◌∙◌, ap, Some, arith}
use Rattle.run_model.specs.Legal.{has_line}
use Rattle.run_model.specs.declared.class.Class.{Class}
use Rattle.run_model.specs.declared.class.Tag.{Tag}
use Rattle.audit_subject.proofs.terms.call_terms.Goals as goal

pub returns : goal.returns
returns g c =
    let t = g.S.Part.table c.args.subject.now in
    let same : (g.S.Subject.setting t).machine ≡ (g.S.Part.member t).machine = ap (λ x. x.machine) (g.met.S.Subject.member_is t) in
    let tag : Class → Tag = λ x. record { level = c.args.level; owner = x.module; class = Some x } in
    record {
      task = record {
        service = ap (λ m. m.service_of c.args.call.now) same ∙ sym c.service.ensures;
        counter = c.counter.ensures;
        duties = c.duties.ensures;
        polls = λ w s l on. c.polled.ensures w s l (sym (ap (λ m. has_line (m.polls w s c.args.call.now) l) same) ∙ on);
      };
      tag = ap tag c.class-class.ensures;
      steps = c.call_steps.ensures;
      window = sym (g.met.S.Subject.windows t _);
      asked = omega arith;
    }
