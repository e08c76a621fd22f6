-- Whether a frame may wait, and whether the watchdog's time ends in its wait.
use Rattle.std.proofs.Common.{◌≡◌, ◌⊎◌, inl, inr, ℕ, ◌<◌, ◌≤◌, Bool, true, false, List, [], ◌∷◌, Option, Some, None, sym, ◌∙◌, ap, subst, arith}
use Rattle.std.specs.Prelude.{slice_get}
use Rattle.chip_model.specs.Chip.{Chip, is_masked, stall_of, wait_on}
use Rattle.mcal_base.specs.declared.moves.Move.{Move}
use Rattle.mcal_base.specs.declared.moves.Move.TheVariants.{Read, Write, Load, Store, Mask, Unmask, Note, Report}
use Rattle.mcal_base.specs.declared.register.Reg.TheVariants as regs
use Rattle.mcal_base.specs.facts.Truths.{off_on}
use Rattle.run_model.specs.Causes.{origins_of}
use Rattle.run_model.specs.Follows.{MayWait, ends_within}
use Rattle.run_model.specs.Frame.{Open, Origin}
use Rattle.run_model.specs.Moment.{Moment, Setting}
use Rattle.audit_frames.specs.Decides.{Decides}
use Rattle.audit_frames.proofs.Deciding.{at_most, itself, no, valued, worded, yes}
use Rattle.report_steps.specs.Going.{EndsWaiting, IsShort, WaitsOn, WaitsOpen, WaitsRight, unit_of}
use Rattle.report_steps.proofs.ComeLaws.{fails, same_some, some_none}
use Rattle.report_steps.proofs.StepJudged.{none_or_some}

-- ---- the newest frame

may_by : {State Call : Type 0} (g : Setting State Call) (opens : List (Open Call)) (origins : List (Origin Call)) (x : Origin Call) (u : ℕ) → origins ≡ origins_of opens → slice_get origins 0 ≡ Some x
    → (b : Bool) → b ≡ g.may x (Read (regs.SerialWait u)) → Decides b (MayWait g opens u)
may_by g [] origins x u same first b e = absurd (some_none x (sym first ∙ ap (λ ys. slice_get ys 0) same))
may_by g (o ∷ os) origins x u same first b e =
    let top : o.origin ≡ x = same_some o.origin x (sym (ap (λ ys. slice_get ys 0) same) ∙ first) in
    valued (e ∙ ap (λ y. g.may y (Read (regs.SerialWait u))) (sym top)) (itself (g.may o.origin (Read (regs.SerialWait u))))

none_may : {State Call : Type 0} (g : Setting State Call) (opens : List (Open Call)) (origins : List (Origin Call)) (u : ℕ) → origins ≡ origins_of opens → slice_get origins 0 ≡ None → MayWait g opens u → ⊥
none_may g [] origins u same none h = h
none_may g (o ∷ os) origins u same none h = some_none o.origin (sym (ap (λ ys. slice_get ys 0) same) ∙ none)

module _ {State Call : Type 0} (g : Setting State Call) (m : Moment State Call) (chip : Chip) (same : chip ≡ m.chip) (origins : List (Origin Call)) (begun : origins ≡ origins_of m.opens) (u : ℕ) where
  pub no_frame_waits : slice_get origins 0 ≡ None → Decides false (WaitsOn g m u)
  no_frame_waits none = no (λ h. none_may g m.opens origins u begun none h.1)

  pub closed_waits : is_masked chip ≡ true → Decides false (WaitsOn g m u)
  closed_waits closed = no (λ h. off_on (sym h.0 ∙ (ap is_masked (sym same) ∙ closed)))

  pub open_waits : (x : Origin Call) → slice_get origins 0 ≡ Some x → is_masked chip ≡ false → (b : Bool) → b ≡ g.may x (Read (regs.SerialWait u)) → Decides b (WaitsOn g m u)
  open_waits x first opened b e = worded (λ h. (ap is_masked (sym same) ∙ opened, h)) (λ h. h.1) (may_by g m.opens origins x u begun first b e)

some_unit : (a b : ℕ) → Some a ≡ Some b → a ≡ b
some_unit a b e = cc

-- a time that ends in a wait is as short
pub few_ticks : (wait : ℕ) (x : Option ℕ) → wait ≤ 8 → ends_within wait x ≡ true → IsShort x
few_ticks wait None le e = off_on e
few_ticks wait (Some n) le e = let short : n ≤ wait = (at_most n wait).says e in omega (arith, le, short)

-- ---- by its move

none_unit : (a : ℕ) → None ≡ Some a → ⊥
none_unit a e = cc

module _ {State Call : Type 0} (g : Setting State Call) (m : Moment State Call) where
  pub by_unit : (made : Move) (u : ℕ) → unit_of made ≡ Some u → (b : Bool) → Decides b (WaitsOn g m u) → Decides b (WaitsOpen g m made)
  by_unit (Read (regs.SerialWait k)) u e b d = subst (λ n. Decides b (WaitsOn g m n)) (sym (some_unit k u e)) d
  by_unit (Read _) u e b d = absurd (none_unit u e)
  by_unit (Write r v) u e b d = absurd (none_unit u e)
  by_unit (Load k) u e b d = absurd (none_unit u e)
  by_unit (Store k v) u e b d = absurd (none_unit u e)
  by_unit Mask u e b d = absurd (none_unit u e)
  by_unit Unmask u e b d = absurd (none_unit u e)
  by_unit (Note n) u e b d = absurd (none_unit u e)
  by_unit (Report x) u e b d = absurd (none_unit u e)

  pub no_unit : (made : Move) → unit_of made ≡ None → Decides false (WaitsOpen g m made)
  no_unit (Read (regs.SerialWait k)) e = absurd (none_unit k (sym e))
  no_unit (Read _) e = no (λ h. h)
  no_unit (Write r v) e = no (λ h. h)
  no_unit (Load k) e = no (λ h. h)
  no_unit (Store k v) e = no (λ h. h)
  no_unit Mask e = no (λ h. h)
  no_unit Unmask e = no (λ h. h)
  no_unit (Note n) e = no (λ h. h)
  no_unit (Report x) e = no (λ h. h)

  -- ---- the wait

  below_zero : (n : ℕ) → n ≡ 0 → 0 < n → ⊥
  below_zero n e lt = omega (arith, e, lt)

  above_zero : (n : ℕ) → (n ≡ 0 → ⊥) → 0 < n
  above_zero n h = elim (none_or_some n) [
    | inl none ↦ absurd (h none)
    | inr some ↦ some
  ]

  module _ (u wait : ℕ) (is : wait ≡ wait_on m.chip u) where
    pub idle : wait ≡ 0 → Decides false (EndsWaiting g m u)
    idle none = no (λ h. below_zero (wait_on m.chip u) (sym is ∙ none) h.busy)

    pub lasts : ends_within wait (g.machine.expires m.world m.state) ≡ false → Decides false (EndsWaiting g m u)
    lasts off = no (λ h. off_on (sym off ∙ (ap (λ n. ends_within n (g.machine.expires m.world m.state)) is ∙ h.ends)))

    pub ends : (wait ≡ 0 → ⊥) → ends_within wait (g.machine.expires m.world m.state) ≡ true → (b : Bool) → Decides b (WaitsOn g m u) → Decides b (EndsWaiting g m u)
    ends busy on b d =
        worded (λ h. record {
          busy = subst (λ n. 0 < n) is (above_zero wait busy);
          ends = ap (λ n. ends_within n (g.machine.expires m.world m.state)) (sym is) ∙ on;
          waits = h;
        }) (λ h. h.waits) d

  -- one of the two units
  first_or_second : (u : ℕ) → u < 2 → (u ≡ 0) ⊎ (u ≡ 1)
  first_or_second u lt = grind arith

  pub of_two : (b : Bool) → (EndsWaiting g m 0 → ⊥) → Decides b (EndsWaiting g m 1) → Decides b ((u : ℕ) × (u < 2) × EndsWaiting g m u)
  of_two b none d =
      worded (λ h. (1, omega arith, h))
      (λ h. elim (first_or_second h.0 h.1) [
        | inl e ↦ absurd (none (subst (EndsWaiting g m) e h.2))
        | inr e ↦ subst (EndsWaiting g m) e h.2
      ]) d

  pub first_of_two : EndsWaiting g m 0 → Decides true ((u : ℕ) × (u < 2) × EndsWaiting g m u)
  first_of_two h = yes (0, omega arith, h)

  -- ---- a step that waits

  module _ (made : Move) (ticks wait : ℕ) (is : wait ≡ stall_of m.chip made) where
    pub not_busy : ticks ≡ 0 → Decides false (WaitsRight g m made ticks)
    not_busy none = no (λ h. below_zero ticks none h.busy)

    pub not_waiting : (b : Bool) → Decides b (WaitsOpen g m made) → b ≡ false → Decides false (WaitsRight g m made ticks)
    not_waiting b d off = no (λ h. fails b d off h.waits)

    pub other_wait : (wait ≡ ticks → ⊥) → Decides false (WaitsRight g m made ticks)
    other_wait other = no (λ h. other (is ∙ h.stalls))

    pub waits_so : (ticks ≡ 0 → ⊥) → WaitsOpen g m made → wait ≡ ticks → (b : Bool) → Decides b (ends_within wait (g.machine.expires m.world m.state) ≡ false) → Decides b (WaitsRight g m made ticks)
    waits_so busy waits same b d =
        worded
        (λ h. record { busy = above_zero ticks busy; waits = waits; stalls = sym is ∙ same; goes = ap (λ n. ends_within n (g.machine.expires m.world m.state)) (sym same) ∙ h })
        (λ h. ap (λ n. ends_within n (g.machine.expires m.world m.state)) same ∙ h.goes) d
