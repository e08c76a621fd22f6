-- Each kind that is owed has its bit.
use Rattle.std.proofs.Common.{◌∙◌, ap, refl, None}
use Rattle.std.specs.Prelude.{map}
use Rattle.mcal_base.specs.Bits.{has_bit}
use Rattle.module_machines.specs.pwm.Bounds.{must_by}
use Rattle.audit_subject.specs.Marks.{is_met, marks}
use Rattle.audit_subject.proofs.Masks.{bit_is, all_set}
use Rattle.audit_pulses.proofs.subject.PulsesSubject.duties.Goals as goal

pub returns : goal.returns
returns c i =
    let kinds = must_by c.args.self.now.driver c.args.call.now in
    ap (λ m. has_bit m i) (c.owed.ensures ∙ ap (λ d. marks None (must_by d c.args.call.now)) c.table.ensures)
    ∙ (bit_is (map (is_met None) kinds) i ∙ all_set (is_met None) kinds i (λ k. refl))
