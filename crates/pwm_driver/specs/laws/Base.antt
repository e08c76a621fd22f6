-- What a family of short bodies owes: they hold nothing, and run in one window.
-- From RefinementRight, service_outline: Acts, service_outline: ShortServices.
-- Used by Output, DeInit, Serve, Notify, Rest and 2 more.
use Rattle.std.proofs.Common.{◌≡◌, ◌≤◌, []}
use Rattle.pwm_driver.specs.Terms
use Terms.{above, AreLong, AreRight, arith, AsksNone, Bodies, BodyTaken, Bool, Call, Called, Chip, DeInit}
use Terms.{DisableNotification, EnableNotification, Entered, false, GetOutputState, happened, Init, is_reset_service}
use Terms.{Lag, Level, level_leaves, LongBodies, Move, never_clean, Option, Order, Origin, over, Pulses, pwm_basis, pwm_may, PwmTable, PwmState, refl, Reservations, RightAt, service_of, SetDutyCycle, SetOutputToIdle, SetPeriodAndDuty, short, short_right, Shortens, subst, sym, Tick, Told, true, World, world_after, ℕ}
use Rattle.service_outline.specs.Outline.{At}
use Rattle.module_machines.specs.declared.pwm.call.Call.TheVariants.{Channel}
use Rattle.pwm_driver.specs.laws.RefinementRight.{basis_right, plain_move}

-- what holds at a place, at a time
abbrev pub HoldsAt : Type 0 → Type 1
HoldsAt Body = Pulses → ℕ → PwmState → Body → Origin Call → Option Told → Type 0

abbrev pub pulses_of : Chip → Pulses
pulses_of chip = record chip.pulses { time = 0 }

pub foot_later : (chip : Chip) (order : Order) → pulses_of (happened chip order) ≡ pulses_of chip
foot_later chip (Level p v) = level_leaves (λ c. pulses_of c) chip p v refl
foot_later chip _ = refl

pub now_later : (w : World) (rate : ℕ) (order : Order) → w.now ≤ (world_after w rate order).now
now_later w rate (Tick n) = omega arith
now_later w rate _ = omega arith

pub asks_none : (c : Call) → is_reset_service (service_of c) ≡ false
asks_none Init = refl
asks_none DeInit = refl
asks_none (GetOutputState c) = refl
asks_none (Channel c (SetDutyCycle duty)) = refl
asks_none (Channel c (SetPeriodAndDuty period duty)) = refl
asks_none (Channel c SetOutputToIdle) = refl
asks_none (Channel c (EnableNotification edge)) = refl
asks_none (Channel c DisableNotification) = refl

module _ (d : PwmTable) where
  asks : (o : Origin Call) → AsksNone (pwm_basis d) o
  asks (Called c) = (asks_none c, λ w s. refl)
  asks (Entered l) = λ n held chip w s h. tt

  abbrev pub steady : {Body : Type 0} → (Body → Move) → (Body → ℕ → Body × BodyTaken) → (Body → ℕ) → (Body → Lag) → HoldsAt Body → Bodies (over (pwm_basis d) []) Body
  steady work takes fuel gap holds = record { work_of = work; takes = takes; fuel = fuel; gap_of = gap; clean = λ k. false; place = λ f w s k o t. holds f w.now s k o t }

  -- such bodies above what is held, and as bodies of services
  abbrev pub steady_above : {Body : Type 0} → (Body → Move) → (Body → ℕ → Body × BodyTaken) → (Body → ℕ) → (Body → Lag) → HoldsAt Body → (below : Reservations) → Bodies (over (pwm_basis d) below) Body
  steady_above work takes fuel gap holds below = above (pwm_basis d) (steady work takes fuel gap holds) (λ held f w s k o t. holds f w.now s k o t) below

  abbrev pub family : {Body : Type 0} → (Body → Move) → (Body → ℕ → Body × BodyTaken) → (Body → ℕ) → (Body → Lag) → HoldsAt Body → LongBodies (pwm_basis d) Body
  family work takes fuel gap holds = short (pwm_basis d) (steady work takes fuel gap holds) (λ held f w s k o t. holds f w.now s k o t)

  -- a step at a place: a move that its frame may make, and a right one
  abbrev pub Good : {Body : Type 0} (below : Reservations) → Bodies (over (pwm_basis d) below) Body → Chip → World → PwmState → Body → Origin Call → Option Told → (ℕ → Bool) → Type 0
  Good below b chip w s k o t m = (pwm_may (b.work_of k) ≡ true) × RightAt (over (pwm_basis d) below) b chip w s k o t m

  abbrev pub AllGood : {Body : Type 0} → ((below : Reservations) → Bodies (over (pwm_basis d) below) Body) → Type 0
  AllGood {Body} b = (below : Reservations) (chip : Chip) (w : World) (s : PwmState) (k : Body) (o : Origin Call) (t : Option Told) (m : ℕ → Bool) → At (over (pwm_basis d) below) (b below) chip w s k o t → Good below (b below) chip w s k o t m

  module _ {Body : Type 0} (work : Body → Move) (takes : Body → ℕ → Body × BodyTaken) (fuel : Body → ℕ) (gap : Body → Lag) (holds : HoldsAt Body) (shortens : (k : Body) (x : ℕ) → Shortens fuel k (takes k x)) (later : (f : Pulses) (now now1 : ℕ) (s : PwmState) (k : Body) (o : Origin Call) (t : Option Told) → now ≤ now1 → holds f now s k o t → holds f now1 s k o t) (steps : AllGood (steady_above work takes fuel gap holds)) where
    rights : (below : Reservations) → AreRight (over (pwm_basis d) below) (steady_above work takes fuel gap holds below)
    rights below = record {
      own = λ chip w s k o t h. (steps below chip w s k o t (λ l. false) h).0;
      steps = λ chip w s k o t m h. (steps below chip w s k o t m h).1;
      later = λ chip w s order k o t come h. subst (λ f. holds f (world_after w chip.clock.rate order).now s k o t) (sym (foot_later chip order)) (later (pulses_of chip) w.now (world_after w chip.clock.rate order).now s k o t (now_later w chip.clock.rate order) h.1);
      shortens = shortens;
      cleans = λ k x. never_clean (work k) k (takes k x);
    }

    pub family_right : AreLong (pwm_basis d) (family work takes fuel gap holds)
    family_right = short_right (pwm_basis d) (basis_right d) (steady work takes fuel gap holds) (λ held f w s k o t. holds f w.now s k o t) rights (λ below chip w s k o t h. let made = plain_move (work k) (steps below chip w s k o t (λ l. false) h).0 in record { still = made.0; silent = made.1; call = asks o })
