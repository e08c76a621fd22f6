-- A machine with channels and ports as its guest is the drivers' machine with their guest.
use Rattle.std.proofs.Common.{◌≡◌, ℕ, Bool, ap, refl, ◌∙◌, Option, Some, None}
use Rattle.std.specs.Prelude.{option_map}
use Rattle.module_machines.specs.dio.Machine.{HostPins}
use Rattle.module_machines.specs.declared.dio.call.Call.{Call}
use Rattle.module_machines.specs.declared.dio.table.DioTable.{DioTable}
use Rattle.dio_driver.specs.Guest.{dio}
use Rattle.service_outline.specs.guests.Guest.{guest_machine}
use Rattle.chip_model.specs.declared.wiring.Wiring.{Wiring}
use Rattle.run_model.specs.Machine.{Happening, Acts, Serves, Starts, Aborts, Moves, Restarts, Machine}
use Rattle.run_model.specs.World.{World}
use Rattle.step_runner.specs.Union as drivers
use Rattle.audit_base.specs.Deeds.{Member}
use Rattle.audit_base.specs.Product as checker
use Rattle.audit_base.specs.declared.either.Either as ours
use Rattle.audit_base.specs.declared.either.Either.TheVariants as ones
use Rattle.audit_machines.specs.Guest.{hosted}
use Rattle.report_modules.specs.machines.Calls.{named, kept}
use Rattle.report_modules.specs.machines.Same.{IsSame, renamed}

module _ {S A C : Type 0} (f : A → C) (m : Member S A) (x : Machine S C) (ours_are : ℕ → Bool) (h : IsSame f m x ours_are) (pins : HostPins S) (d : DioTable) (wired : Wiring → Type 0) where
  host_named : (by : Option (ours.Either A Call)) → option_map f (checker.first_call by) ≡ drivers.first_call (option_map (named f kept) by)
  host_named None = refl
  host_named (Some (ones.Left c)) = refl
  host_named (Some (ones.Right c)) = refl

  happens_same : (w : World) (s : S) (z : Happening (ours.Either A Call)) → (hosted m pins d).machine.happens w s z ≡ (guest_machine x (dio d pins wired)).happens w s (renamed (named f kept) z)
  happens_same w s (Acts (ones.Left c) times) = h.happens w s (Acts c times)
  happens_same w s (Acts (ones.Right c) times) = refl
  happens_same w s (Serves l r) = h.happens w s (Serves l r)
  happens_same w s (Starts u by r) = h.happens w s (Starts u (checker.first_call by) r) ∙ ap (λ b. x.happens w s (Starts u b r)) (host_named by)
  happens_same w s (Aborts u) = h.happens w s (Aborts u)
  happens_same w s (Moves order) = h.happens w s (Moves order)
  happens_same w s (Restarts reason) = h.happens w s (Restarts reason)

  service_same : (c : ours.Either A Call) → (hosted m pins d).machine.service_of c ≡ (guest_machine x (dio d pins wired)).service_of (named f kept c)
  service_same (ones.Left c) = h.service_of c
  service_same (ones.Right c) = refl

  reporting_same : (c : ours.Either A Call) → (hosted m pins d).machine.reporting c ≡ (guest_machine x (dio d pins wired)).reporting (named f kept c)
  reporting_same (ones.Left c) = h.reporting c
  reporting_same (ones.Right c) = refl

  polls_same : (w : World) (s : S) (c : ours.Either A Call) → (hosted m pins d).machine.polls w s c ≡ (guest_machine x (dio d pins wired)).polls w s (named f kept c)
  polls_same w s (ones.Left c) = h.polls w s c
  polls_same w s (ones.Right c) = refl

  pub is_guest : IsSame (named f kept) (hosted m pins d) (guest_machine x (dio d pins wired)) ours_are
  is_guest = record {
    happens = happens_same;
    ready = h.ready;
    due = h.due;
    line_waits = h.line_waits;
    startable = h.startable;
    rate = h.rate;
    expires = h.expires;
    service_of = service_same;
    reporting = reporting_same;
    polls = polls_same;
    lines = h.lines;
  }
