-- Each kind has its bit exactly where the move is of it.
use Rattle.std.proofs.Common.{◌∙◌, ap, false, Some}
use Rattle.std.specs.Prelude.{map}
use Rattle.std.proofs.lemmas.List.{get_or-map}
use Rattle.mcal_base.specs.Bits.{has_bit}
use Rattle.mcal_base.specs.declared.moves.Move.{Move}
use Rattle.module_machines.specs.pwm.Bounds.{must_by}
use Rattle.audit_subject.specs.Marks.{is_met, marks}
use Rattle.audit_subject.proofs.Masks.{bit_is}
use Rattle.audit_pulses.proofs.subject.PulsesSubject.settles.Goals as goal

pub returns : goal.returns
returns c i lt =
    let made = Some c.args.made.now in
    let kinds = must_by c.args.self.now.driver c.args.call.now in
    ap (λ m. has_bit m i) (c.owed.ensures ∙ ap (λ d. marks made (must_by d c.args.call.now)) c.table.ensures)
    ∙ (bit_is (map (is_met made) kinds) i ∙ get_or-map (is_met made) kinds i (λ (m : Move). false) false lt)
