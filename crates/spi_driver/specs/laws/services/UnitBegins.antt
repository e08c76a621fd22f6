-- The driver's frames, and where those of units begin.
-- From services.UnitFrames, spi_sequences: services.Bodies, spi_sequences: services.CancelRight and 8 more.
-- Used by bookkeeping.Lawful, bookkeeping.Joined, bookkeeping.KeepsToModule.
use Rattle.std.proofs.Common.{◌≡◌, ◌+◌, ◌-◌, ◌<◌, ◌≤◌, ◌==◌, ◌&&◌, ◌∙◌, if◌then◌else◌}
use Rattle.spi_driver.specs.Terms
use Terms.{ap, arith, Asked, AsyncTransmit, Bool, both, Call, Called, CanBegin, cancel_bodies, CancelBody, Chip}
use Terms.{Entered, error_by, false, first_served, FitsSpi, Handler, init_bodies, InitBody, is_number, is_off}
use Terms.{is_polling, is_sync_sequence, is_sync_unit, is_used, LongBodies, Main, None, not, Option, Or, Plain}
use Terms.{Proceeds, query_bodies, QueryBody, read_bodies, ReadBody, refl, Reservations, Services, set_up_bodies}
use Terms.{SetUpBody, Some, some_is, spi_basis, spi_looked, SpiBody, SpiRepresents, SpiState, SpiTable, STATE}
use Terms.{steps_of, subst, sym, sync_bodies, SyncBody, Transmit, true, unit_body, unit_few, unit_of}
use Terms.{unit_of_sequence, UnitBody, uses_by, uses_unit, whether_as, whole_bodies, WholeBody, World, write_bodies}
use Terms.{WriteBody, ℕ}
use Rattle.spi_driver.specs.laws.services.UnitFrames.{Handles, Mains, Transmits, at, unit_after, unit_bodies}
use Rattle.spi_machine.specs.declared.call.Call.TheVariants as calls
use Rattle.spi_sequences.specs.declared.service.request.RequestPlace.TheVariants as request
use Rattle.spi_sequences.specs.declared.service.serve.ServePlace.TheVariants as serve
use Rattle.spi_sequences.specs.declared.service.unit.UnitPlace.TheVariants as place

-- ---- the driver

-- the body of the handler of a line whose unit a job uses
abbrev pub handled_by : SpiTable → (line : ℕ) → (used : Bool) → Option SpiBody
handled_by d line false = None
handled_by d line true = Some (unit_body (record { table = d; errand = Handler; unit = if line == 26 then 0 else 1; place = place.Serve serve.State }))

abbrev FirstBody : Type 0
FirstBody = Or (Or InitBody WholeBody) QueryBody

abbrev LastBody : Type 0
LastBody = Or (Or SetUpBody (Or WriteBody ReadBody)) (Or UnitBody (Or CancelBody SyncBody))

module _ (d : SpiTable) where
  abbrev pub firsts : LongBodies (spi_basis d) FirstBody
  firsts = both (both (init_bodies d) (whole_bodies d)) (query_bodies d)

  abbrev pub lasts : LongBodies (spi_basis d) LastBody
  lasts = both (both (set_up_bodies d) (both (write_bodies d) (read_bodies d))) (both (unit_bodies d) (both (cancel_bodies d) (sync_bodies d)))

  -- the driver; any call may be made
  abbrev pub spi : Services SpiState Call Asked SpiBody
  spi = record {
    basis = spi_basis d;
    bodies = both firsts lasts;
    seen = λ k. Plain;
    written = λ k call writes. Unit {0};
    fits = FitsSpi d;
    can = λ call. Unit {0};
    word = STATE;
    asked = λ call. record { call = call; table = d };
    looked = spi_looked;
    most = λ q. steps_of d (Called q.call) - 7;
    wide = λ q. 29;
    body_of = λ line. handled_by d line (is_used d line);
  }

  pub request_begins : FitsSpi d → (below : Reservations) (chip : Chip) (w : World) (s : SpiState) (q : ℕ) → q < 8 → is_sync_sequence d q ≡ false → is_off s.mode ≡ false → error_by d (calls.Sequence q AsyncTransmit) (is_off s.mode) false ≡ None → SpiRepresents d below chip w s
      → Proceeds spi below chip w s (calls.Sequence q AsyncTransmit) (unit_body (at d (Transmit q) (unit_of_sequence d q) (place.Request (request.Look 0))))
  request_begins fits below chip w s q lt async on clear h = record {
    at = (h, (record { table = refl; small = unit_few d fits q; async = async; of = Transmits q }, (record { small = lt; async = async; on = on; clear = clear; unit = refl }, refl, omega arith, λ k less. absurd (omega (arith, less)))));
    closed = refl;
    fuel = omega arith;
    room = omega arith;
  }

  pub main_begins : (below : Reservations) (chip : Chip) (w : World) (s : SpiState) → is_polling s.mode ≡ true → SpiRepresents d below chip w s → Proceeds spi below chip w s calls.MainFunctionHandling (unit_body (at d Main (first_served d) place.Act))
  main_begins below chip w s polling h = record {
    at = (h, (refl, Mains, refl, refl, refl, polling));
    closed = refl;
    fuel = whether_as (is_sync_unit d 0) (λ z. 69 + unit_after Main (if z then 1 else 0) ≤ 288 - 7)
        (λ _. omega arith)
        (λ _. omega arith);
    room = omega arith;
  }

  -- a handler begins in its serving window
  pub handler_begins : (u : ℕ) → u < 2 → is_sync_unit d u ≡ false → CanBegin spi (unit_body (at d Handler u (place.Serve serve.State))) (Entered (26 + u))
  handler_begins u lt async = record {
    at = λ below chip w s beside h. (h, ((async, tt), record { table = refl; small = lt; async = async; of = Handles }, record { acted = refl; polled = refl; report = refl; owed = refl; progress = refl }));
    closed = refl;
    unseen = tt;
    room = omega arith;
  }

  -- a used line is that of one of the units, which starts jobs alone
  pub handlers : (P : ℕ → SpiBody → Type 0) → ((u : ℕ) → u < 2 → is_sync_unit d u ≡ false → P (26 + u) (unit_body (at d Handler u (place.Serve serve.State)))) → (line : ℕ) (k : SpiBody) → handled_by d line (is_used d line) ≡ Some k → P line k
  handlers P of line k e = by (line == 26) refl (line == 27) refl
    where
      body : (n : Bool) → SpiBody
      body n = unit_body (at d Handler (if n then 0 else 1) (place.Serve serve.State))

      named : (q : Bool) → handled_by d line q ≡ Some k → (q ≡ true) × (body (line == 26) ≡ k)
      named true f = (refl, some_is (body (line == 26)) k f)
      named false f = absurd (cc)

      is : (is_used d line ≡ true) × (body (line == 26) ≡ k)
      is = named (is_used d line) e

      started : (used sync : Bool) → used && not sync ≡ true → sync ≡ false
      started true false f = refl
      started _ _ f = absurd (cc)

      async : (u : ℕ) → unit_of line ≡ Some u → is_sync_unit d u ≡ false
      async u f = started (uses_unit d u) (is_sync_unit d u) (sym (ap (uses_by d) f) ∙ is.0)

      by : (x : Bool) → (line == 26) ≡ x → (y : Bool) → (line == 27) ≡ y → P line k
      by true f y g = subst (λ n. P line n) (ap body (sym f) ∙ is.1) (subst (λ n. P n (body true)) (sym (is_number line 26 f)) (of 0 (omega arith) (async 0 (ap (λ q. if q then Some 0 else if line == 27 then Some 1 else None) f))))
      by false f true g = subst (λ n. P line n) (ap body (sym f) ∙ is.1) (subst (λ n. P n (body false)) (sym (is_number line 27 g)) (of 1 (omega arith) (async 1 (ap (λ q. if q then Some 0 else if line == 27 then Some 1 else None) f ∙ ap (λ q. if q then Some 1 else None) g))))
      by false f false g = absurd (let none : unit_of line ≡ None = ap (λ q. if q then Some 0 else if line == 27 then Some 1 else None) f ∙ ap (λ q. if q then Some 1 else None) g in let no = sym (ap (uses_by d) none) ∙ is.0 in cc)
