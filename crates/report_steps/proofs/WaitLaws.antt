-- A step that waits, and the watchdog's reset in a wait.
use Rattle.std.proofs.Common.{◌≡◌, ℕ, ◌<◌, true, false, List, [], ◌∷◌, refl, sym, ◌∙◌, ap, subst}
use Rattle.bench_report.specs.Lines.{Line, Waits}
use Rattle.bench_report.specs.Numbers.{IsNumber, StepFits}
use Rattle.chip_model.specs.Chip.{is_masked, wait_on}
use Rattle.mcal_base.specs.declared.directive.Order.TheVariants.{Tick}
use Rattle.mcal_base.specs.declared.moves.Move.{Move}
use Rattle.mcal_base.specs.declared.moves.Move.TheVariants.{Read, Write, Load, Store, Mask, Unmask, Note, Report}
use Rattle.mcal_base.specs.declared.register.Reg.TheVariants as regs
use Rattle.mcal_base.specs.facts.Numbers.{eq_is, eq_self}
use Rattle.mcal_base.specs.facts.Truths.{off_on}
use Rattle.run_model.specs.Follows.{MayWait, awaits, ends_within}
use Rattle.run_model.specs.Moment.{Moment, Setting, Steps, Happens, after}
use Rattle.run_model.specs.declared.item.Stepped.{Stepped}
use Rattle.report_text.specs.reading.Steps.{Comes, StepComes, AtOnce, Awaited}
use Rattle.report_steps.specs.Going.{WaitsRight}

module _ {State Call : Type 0} (g : Setting State Call) (m : Moment State Call) (ticks : ℕ) where
  -- the unit for which a move waits
  pub record WaitsFor (made : Move) : Type 0 where
    pub unit : ℕ
    pub busy : 0 < wait_on m.chip unit
    pub unmasked : is_masked m.chip ≡ false
    pub may : MayWait g m.opens unit
    pub is : ticks ≡ wait_on m.chip unit
    pub goes : ends_within (wait_on m.chip unit) (g.machine.expires m.world m.state) ≡ false
    pub awaited : awaits unit made ≡ true

  pub waits_for : (made : Move) → WaitsRight g m made ticks → WaitsFor made
  waits_for (Read (regs.SerialWait u)) h = record {
    unit = u;
    busy = subst (λ n. 0 < n) (sym h.stalls) h.busy;
    unmasked = h.waits.0;
    may = h.waits.1;
    is = sym h.stalls;
    goes = subst (λ n. ends_within n (g.machine.expires m.world m.state) ≡ false) (sym h.stalls) h.goes;
    awaited = eq_self u;
  }
  waits_for (Read _) h = absurd h.waits
  waits_for (Write r v) h = absurd h.waits
  waits_for (Load k) h = absurd h.waits
  waits_for (Store k v) h = absurd h.waits
  waits_for Mask h = absurd h.waits
  waits_for Unmask h = absurd h.waits
  waits_for (Note n) h = absurd h.waits
  waits_for (Report e) h = absurd h.waits

  pub right_for : (made : Move) (unit : ℕ) → 0 < wait_on m.chip unit → is_masked m.chip ≡ false → MayWait g m.opens unit → ticks ≡ wait_on m.chip unit
      → ends_within (wait_on m.chip unit) (g.machine.expires m.world m.state) ≡ false → awaits unit made ≡ true → WaitsRight g m made ticks
  right_for (Read (regs.SerialWait u)) unit busy unmasked may is goes awaited =
      let same : u ≡ unit = eq_is u unit awaited in
      record {
        busy = subst (λ n. 0 < n) (sym is) busy;
        waits = (unmasked, subst (MayWait g m.opens) (sym same) may);
        stalls = ap (wait_on m.chip) same ∙ sym is;
        goes = subst (λ n. ends_within n (g.machine.expires m.world m.state) ≡ false) (sym is) goes;
      }
  right_for (Read _) unit busy unmasked may is goes awaited = off_on awaited
  right_for (Write r v) unit busy unmasked may is goes awaited = off_on awaited
  right_for (Load k) unit busy unmasked may is goes awaited = off_on awaited
  right_for (Store k v) unit busy unmasked may is goes awaited = off_on awaited
  right_for Mask unit busy unmasked may is goes awaited = off_on awaited
  right_for Unmask unit busy unmasked may is goes awaited = off_on awaited
  right_for (Note n) unit busy unmasked may is goes awaited = off_on awaited
  right_for (Report e) unit busy unmasked may is goes awaited = off_on awaited

  -- so a step comes behind its wait
  pub comes_awaited : (s : Stepped) → WaitsRight g m s.made ticks → IsNumber ticks → Comes g m (Happens (Tick ticks)) → StepFits s → Comes g (after g m (Happens (Tick ticks))) (Steps s)
      → StepComes g m s (after g m (Happens (Tick ticks))) (Waits ticks ∷ [])
  comes_awaited s right fits tick own step =
      let w = waits_for s.made right in
      Awaited w.unit ticks (record { busy = w.busy; unmasked = w.unmasked; may = w.may; fits = fits; comes = tick }) w.is w.goes w.awaited own step

  -- ---- and the other way

  -- what is said of a step that comes with the line of its wait in front
  pub record CameAwaited (s : Stepped) (at : Moment State Call) : Type 0 where
    pub right : WaitsRight g m s.made ticks
    pub tick : Comes g m (Happens (Tick ticks))
    pub at_is : at ≡ after g m (Happens (Tick ticks))
    pub fits : StepFits s
    pub step : Comes g (after g m (Happens (Tick ticks))) (Steps s)

same_ticks : (a b : ℕ) → Waits a ∷ [] ≡ Waits b ∷ [] → a ≡ b
same_ticks a b e = cc

by_ticks : {State Call : Type 0} (g : Setting State Call) (m : Moment State Call) (ticks other : ℕ) (s : Stepped) → other ≡ ticks → CameAwaited g m other s (after g m (Happens (Tick other))) → CameAwaited g m ticks s (after g m (Happens (Tick other)))
by_ticks g m ticks other s e h = subst (λ n. CameAwaited g m n s (after g m (Happens (Tick other)))) e h

pub came_awaited : {State Call : Type 0} (g : Setting State Call) (m : Moment State Call) (ticks : ℕ) (s : Stepped) (at : Moment State Call) (waits : List Line) → waits ≡ Waits ticks ∷ [] → StepComes g m s at waits → CameAwaited g m ticks s at
came_awaited g m ticks s at waits is (AtOnce fits comes) = absurd (cc)
came_awaited g m ticks s at waits is (Awaited unit other comes same goes awaited fits step) =
    by_ticks g m ticks other s (same_ticks other ticks is)
    (record { right = right_for g m other s.made unit comes.busy comes.unmasked comes.may same goes awaited; tick = comes.comes; at_is = refl; fits = fits; step = step })
