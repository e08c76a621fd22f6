-- What an abort leaves.
use Rattle.std.proofs.Common.{◌≡◌, ℕ, ◌<◌, Bool, true, false, cond, not, ◌&&◌, [], Option, Some, None, refl, sym, ◌∙◌, ap, subst, arith}
use Rattle.mcal_base.specs.declared.moves.Unit as units
use Rattle.mcal_base.specs.declared.moves.Unit.TheVariants.{Adc0, Adc1, Spi0, Spi1}
use Rattle.run_model.specs.World.{World}
use Rattle.run_model.specs.Machine.{Aborts, Outcome, outcome, tells_nothing}
use Rattle.adc_machine.specs.Groups.{Round, suspends, ended_values, is_finished}
use Rattle.adc_machine.specs.Laws.{HasEnded, IsAborted}
use Rattle.adc_machine.specs.Machine.{happens, aborting, aborts_on}
use Rattle.adc_machine.specs.Table.{group_of}
use Rattle.adc_machine.specs.Turns.{AdcState, group_at, round_at, number_of, with_waiting, kept_of, aborted, aborts, aborts_by, is_outranked}
use Rattle.adc_machine.specs.declared.table.AdcTable.{AdcTable}
use Rattle.adc_machine.specs.declared.table.Group.{Group}
use Rattle.adc_machine.proofs.Parts.{group_same, round_same}
use Rattle.adc_machine.proofs.Rounds.{values_so_far}

unit_below : (unit : units.Unit) (u : ℕ) → number_of unit ≡ Some u → u < 2
unit_below Adc0 u e = let same : 0 ≡ u = cc in subst (λ n. n < 2) same (omega arith)
unit_below Adc1 u e = let same : 1 ≡ u = cc in subst (λ n. n < 2) same (omega arith)
unit_below Spi0 u e = absurd (cc e)
unit_below Spi1 u e = absurd (cc e)

-- an abort is one of the unit's round
pub abort_is : (d : AdcTable) (w : World) (s : AdcState) (u : ℕ) (q : Option Round) (r : Round) → aborts_by d w s u q ≡ Some r → q ≡ Some r
abort_is d w s u None r e = absurd (cc e)
abort_is d w s u (Some x) r e = picked (not (is_finished w (group_of d x.group) x) && is_outranked d s u x.group) e
  where
    picked : (b : Bool) → cond b (Some x) None ≡ Some r → Some x ≡ Some r
    picked true f = f
    picked false f = absurd (cc f)

kept_ended : (w : World) (k : Option Group) (r : Round) (b : Bool) → suspends k ≡ b → b ≡ true → HasEnded w k r (cond b (ended_values w k r) [])
kept_ended w k r true at e = values_so_far w k r
kept_ended w k r false at e = absurd (cc e)

kept_none : (w : World) (k : Option Group) (r : Round) → suspends k ≡ false → kept_of w k r ≡ []
kept_none w k r e = ap (λ b. cond b (ended_values w k r) []) e

left : (d : AdcTable) (w : World) (s : AdcState) (u : ℕ) (r : Round) → u < 2 → r.group < 16 → IsAborted d w u r (aborted d w s u r)
left d w s u r few lt = record {
  free = round_same (with_waiting s r.group (Some (record { number = r.request.number; kept = kept_of w (group_of d r.group) r }))) u None few;
  waits = ap (λ x. x.waiting) (group_same s r.group (record (group_at s r.group) { waiting = Some (record { number = r.request.number; kept = kept_of w (group_of d r.group) r }) }) lt);
  suspended = λ e. kept_ended w (group_of d r.group) r (suspends (group_of d r.group)) refl e;
  restarted = kept_none w (group_of d r.group) r;
}

by_round : (d : AdcTable) (w : World) (s : AdcState) (u : ℕ) (r : Round) (out : Outcome AdcState) (o : Option Round) → u < 2 → r.group < 16 → ((x : Round) → o ≡ Some x → x ≡ r) → aborting d w s u o ≡ Some out → IsAborted d w u r out.state
by_round d w s u r out None few lt is_r e = absurd (cc e)
by_round d w s u r out (Some x) few lt is_r e =
    let is_out : outcome (aborted d w s u x) tells_nothing ≡ out = cc in
    subst (λ (y : Outcome AdcState). IsAborted d w u r y.state) is_out (subst (λ y. IsAborted d w u r (aborted d w s u y)) (sym (is_r x refl)) (left d w s u r few lt))

pub abort_leaves : (d : AdcTable) (w : World) (s : AdcState) (unit : units.Unit) (u : ℕ) (r : Round) (out : Outcome AdcState) → number_of unit ≡ Some u → round_at s u ≡ Some r → r.group < 16 → happens d w s (Aborts unit) ≡ Some out
    → IsAborted d w u r out.state
abort_leaves d w s unit u r out is_unit is_round lt e = by_round d w s u r out (aborts d w s u) (unit_below unit u is_unit) lt is_r (ap (λ o. aborts_on d w s o) (sym is_unit) ∙ e)
  where
    is_r : (x : Round) → aborts d w s u ≡ Some x → x ≡ r
    is_r x f = let at : round_at s u ≡ Some x = abort_is d w s u (round_at s u) x f in cc
