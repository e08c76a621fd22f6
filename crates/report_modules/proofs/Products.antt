-- Two machines as one are the drivers' union, and a guest is the drivers' guest.
use Rattle.std.proofs.Common.{◌≡◌, ℕ, Bool, cond, ap, refl, sym, ◌∙◌, Option, Some, None}
use Rattle.std.specs.Prelude.{◌||◌, option_map}
use Rattle.run_model.specs.Machine.{Happening, Acts, Serves, Starts, Aborts, Moves, Restarts, Machine, Outcome}
use Rattle.run_model.specs.World.{World}
use Rattle.step_runner.specs.Union as drivers
use Rattle.step_runner.specs.Union.{union_machine}
use Rattle.audit_base.specs.Deeds.{Member}
use Rattle.audit_base.specs.Product as checker
use Rattle.audit_base.specs.Product.{both}
use Rattle.audit_base.specs.declared.either.Either as ours
use Rattle.audit_base.specs.declared.either.Either.TheVariants as ones
use Rattle.report_modules.specs.machines.Calls.{named, kept}
use Rattle.report_modules.specs.machines.Same.{IsSame, renamed}

-- the same case of the same test
same_case : {X : Type 0} (b c : Bool) (p q u v : X) → b ≡ c → p ≡ u → q ≡ v → cond b p q ≡ cond c u v
same_case b c p q u v e f g = ap (λ x. cond x p q) e ∙ (ap (λ x. cond c x q) f ∙ ap (λ x. cond c u x) g)

-- the one or the other of the same two
one_or : (b c p q : Bool) → b ≡ c → p ≡ q → b || p ≡ c || q
one_or b c p q e f = ap (λ x. x || p) e ∙ ap (λ x. c || x) f

lifts : {S U : Type 0} (put : S → U) (o : Option (Outcome S)) → checker.lifted put o ≡ drivers.lift_out put o
lifts put None = refl
lifts put (Some out) = refl

both_same : {S T : Type 0} (x : Option (Outcome S)) (y : Option (Outcome T)) → checker.in_both x y ≡ drivers.in_both x y
both_same None y = refl
both_same (Some x) None = refl
both_same (Some x) (Some y) = refl

first_same : {S T : Type 0} (s : S) (t : T) (x : Option (Outcome S)) (y : Option (Outcome T)) → checker.in_first s t x y ≡ drivers.in_first s t x y
first_same s t None y = lifts (λ b. (s, b)) y
first_same s t (Some x) y = refl

sooner_same : (x y : Option ℕ) → checker.sooner x y ≡ drivers.sooner x y
sooner_same None y = refl
sooner_same (Some m) None = refl
sooner_same (Some m) (Some n) = refl

module _ {A B C D : Type 0} (f : A → C) (g : B → D) where
  first_named : (by : Option (ours.Either A B)) → option_map f (checker.first_call by) ≡ drivers.first_call (option_map (named f g) by)
  first_named None = refl
  first_named (Some (ones.Left x)) = refl
  first_named (Some (ones.Right y)) = refl

  second_named : (by : Option (ours.Either A B)) → option_map g (checker.second_call by) ≡ drivers.second_call (option_map (named f g) by)
  second_named None = refl
  second_named (Some (ones.Left x)) = refl
  second_named (Some (ones.Right y)) = refl

module _ {S T A B C D : Type 0} (f : A → C) (g : B → D) (m : Member S A) (n : Member T B) (x : Machine S C) (y : Machine T D) (ours_are theirs_are : ℕ → Bool) (h : IsSame f m x ours_are) (k : IsSame g n y theirs_are) where
  happens_same : (w : World) (s : S × T) (z : Happening (ours.Either A B)) → (both m n).machine.happens w s z ≡ (union_machine ours_are x y).happens w s (renamed (named f g) z)
  happens_same w s (Acts (ones.Left c) times) = lifts (λ a. (a, s.1)) (m.machine.happens w s.0 (Acts c times)) ∙ ap (drivers.lift_out (λ a. (a, s.1))) (h.happens w s.0 (Acts c times))
  happens_same w s (Acts (ones.Right c) times) = lifts (λ b. (s.0, b)) (n.machine.happens w s.1 (Acts c times)) ∙ ap (drivers.lift_out (λ b. (s.0, b))) (k.happens w s.1 (Acts c times))
  happens_same w s (Serves l r) =
      same_case (m.lines l) (ours_are l) _ _ _ _ (h.lines l)
      (lifts (λ (a : S). (a, s.1)) (m.machine.happens w s.0 (Serves l r)) ∙ ap (drivers.lift_out (λ (a : S). (a, s.1))) (h.happens w s.0 (Serves l r)))
      (lifts (λ (b : T). (s.0, b)) (n.machine.happens w s.1 (Serves l r)) ∙ ap (drivers.lift_out (λ (b : T). (s.0, b))) (k.happens w s.1 (Serves l r)))
  happens_same w s (Starts u by r) =
      first_same s.0 s.1 (m.machine.happens w s.0 (Starts u (checker.first_call by) r)) (n.machine.happens w s.1 (Starts u (checker.second_call by) r))
      ∙ (ap (λ o. drivers.in_first s.0 s.1 o (n.machine.happens w s.1 (Starts u (checker.second_call by) r))) (h.happens w s.0 (Starts u (checker.first_call by) r) ∙ ap (λ b. x.happens w s.0 (Starts u b r)) (first_named f g by))
      ∙ ap (λ o. drivers.in_first s.0 s.1 (x.happens w s.0 (Starts u (drivers.first_call (option_map (named f g) by)) r)) o) (k.happens w s.1 (Starts u (checker.second_call by) r) ∙ ap (λ b. y.happens w s.1 (Starts u b r)) (second_named f g by)))
  happens_same w s (Aborts u) =
      first_same s.0 s.1 (m.machine.happens w s.0 (Aborts u)) (n.machine.happens w s.1 (Aborts u))
      ∙ (ap (λ o. drivers.in_first s.0 s.1 o (n.machine.happens w s.1 (Aborts u))) (h.happens w s.0 (Aborts u))
      ∙ ap (λ o. drivers.in_first s.0 s.1 (x.happens w s.0 (Aborts u)) o) (k.happens w s.1 (Aborts u)))
  happens_same w s (Moves order) =
      both_same (m.machine.happens w s.0 (Moves order)) (n.machine.happens w s.1 (Moves order))
      ∙ (ap (λ o. drivers.in_both o (n.machine.happens w s.1 (Moves order))) (h.happens w s.0 (Moves order))
      ∙ ap (λ o. drivers.in_both (x.happens w s.0 (Moves order)) o) (k.happens w s.1 (Moves order)))
  happens_same w s (Restarts reason) =
      both_same (m.machine.happens w s.0 (Restarts reason)) (n.machine.happens w s.1 (Restarts reason))
      ∙ (ap (λ o. drivers.in_both o (n.machine.happens w s.1 (Restarts reason))) (h.happens w s.0 (Restarts reason))
      ∙ ap (λ o. drivers.in_both (x.happens w s.0 (Restarts reason)) o) (k.happens w s.1 (Restarts reason)))

  service_same : (c : ours.Either A B) → (both m n).machine.service_of c ≡ (union_machine ours_are x y).service_of (named f g c)
  service_same (ones.Left c) = h.service_of c
  service_same (ones.Right c) = k.service_of c

  reporting_same : (c : ours.Either A B) → (both m n).machine.reporting c ≡ (union_machine ours_are x y).reporting (named f g c)
  reporting_same (ones.Left c) = h.reporting c
  reporting_same (ones.Right c) = k.reporting c

  polls_same : (w : World) (s : S × T) (c : ours.Either A B) → (both m n).machine.polls w s c ≡ (union_machine ours_are x y).polls w s (named f g c)
  polls_same w s (ones.Left c) = h.polls w s.0 c
  polls_same w s (ones.Right c) = k.polls w s.1 c

  pub is_union : IsSame (named f g) (both m n) (union_machine ours_are x y) (λ l. ours_are l || theirs_are l)
  is_union = record {
    happens = happens_same;
    ready = λ w s l. same_case (m.lines l) (ours_are l) _ _ _ _ (h.lines l) (h.ready w s.0 l) (k.ready w s.1 l);
    due = λ w s l. same_case (m.lines l) (ours_are l) _ _ _ _ (h.lines l) (h.due w s.0 l) (k.due w s.1 l);
    line_waits = λ w s l. same_case (m.lines l) (ours_are l) _ _ _ _ (h.lines l) (h.line_waits w s.0 l) (k.line_waits w s.1 l);
    startable = λ w s u. one_or (m.machine.startable w s.0 u) _ (n.machine.startable w s.1 u) _ (h.startable w s.0 u) (k.startable w s.1 u);
    rate = λ s. h.rate s.0;
    expires = λ w s.
        ap (λ o. checker.sooner o (n.machine.expires w s.1)) (h.expires w s.0)
        ∙ (ap (λ o. checker.sooner (x.expires w s.0) o) (k.expires w s.1) ∙ sooner_same (x.expires w s.0) (y.expires w s.1));
    service_of = service_same;
    reporting = reporting_same;
    polls = polls_same;
    lines = λ l. one_or (m.lines l) _ (n.lines l) _ (h.lines l) (k.lines l);
  }

-- ---- a module's own machine

pub renamed_kept : {C : Type 0} (z : Happening C) → renamed kept z ≡ z
renamed_kept (Acts c times) = refl
renamed_kept (Serves l r) = refl
renamed_kept (Starts u None r) = refl
renamed_kept (Starts u (Some c) r) = refl
renamed_kept (Aborts u) = refl
renamed_kept (Moves order) = refl
renamed_kept (Restarts reason) = refl

pub is_kept : {S C : Type 0} (m : Member S C) → IsSame kept m m.machine m.lines
is_kept m = record {
  happens = λ w s z. ap (λ h. m.machine.happens w s h) (sym (renamed_kept z));
  ready = λ w s l. refl;
  due = λ w s l. refl;
  line_waits = λ w s l. refl;
  startable = λ w s u. refl;
  rate = λ s. refl;
  expires = λ w s. refl;
  service_of = λ c. refl;
  reporting = λ c. refl;
  polls = λ w s c. refl;
  lines = λ l. refl;
}
