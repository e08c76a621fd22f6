-- Frames of units have so many steps left, are clean where they have read nothing, and are right.
-- From services.UnitFrames, spi_sequences: services.UnitSteps, services.UnitRight and 11 more.
-- Used by bookkeeping.Lawful.
use Rattle.std.proofs.Common.{◌≡◌, ◌+◌, ◌-◌, ◌<◌, ◌≤◌, ◌==◌, ◌&&◌, ◌||◌, ◌∙◌, if◌then◌else◌}
use Rattle.spi_driver.specs.Terms
use Terms.{after_request, after_serve, after_start, ap, AreFree, AreLong, arith, AssertedAt, begins_word, BodyTaken}
use Terms.{Bool, Call, Chip, false, FitsSpi, frame_may, FrameHistory, FrameRole, happened, holds_at, is_below}
use Terms.{is_closed, is_fill, is_masked, is_quiet, is_shared, is_sync_unit, IsFree, KeepsClean, less_fuel, Load}
use Terms.{LongBodies, Main, main_over, may, MayCome, Move, moved, nat_lt, None, not_filled, Notice, NotServing}
use Terms.{NotStart, Option, or_owed, Order, Origin, owed_left_is, owed_right, PENDING, place_at, refl}
use Terms.{request_looked, requested_by, Reservations, resets_chip, rest_after, same_chip, sequence_word, serve_ahead}
use Terms.{serve_calm, serve_fuel, serve_fuel_at, serve_more, serve_move, serve_owes, serve_takes, ServeLess}
use Terms.{ServePlace, ServeStep, shares, ShortensTo, Some, spi_bare, spi_basis, spi_owing, spi_setting, SpiState}
use Terms.{SpiTable, start_calm, start_left, start_more, start_move, start_owes, start_shorter, start_takes, Started}
use Terms.{StartLess, StartPlace, STATE, subst, sym, told_first, true, unit_acts, unit_move, unit_over, unit_owed}
use Terms.{unit_owes, unit_takes, unit_work, UnitBody, UnitPlace, Units, Unmask, value_of, where_owed, whether_as}
use Terms.{windows_right, with_holds, World, world_after, zero, ℕ}
use Rattle.spi_driver.specs.laws.services.UnitFrames.{Ahead, ToStart, about_owed, ahead_steps, at, owed_steps}
use Rattle.spi_driver.specs.laws.services.UnitFrames.{served_ahead, unit_after, unit_bodies, unit_clean, unit_fuel_at}
use Rattle.spi_driver.specs.laws.services.UnitFrames.{unit_spot_at, unit_windows, foot}
use Rattle.spi_driver.specs.laws.bookkeeping.PendingWritesRight.{unit_second, unit_wins}
use Rattle.spi_driver.specs.laws.{bookkeeping.MaskDiscipline.{turns_at, TurnsBy}, services.UnitRight.{free_at}}
use Rattle.spi_driver.specs.laws.services.UnitRight.{later_at, own_at, unit_steps, StandX, stands_free, free_spot}
use Rattle.spi_sequences.specs.declared.service.request.RequestPlace.TheVariants as request
use Rattle.spi_sequences.specs.declared.service.request.Requested.TheVariants as requested
use Rattle.spi_sequences.specs.declared.service.serve.ServePlace.TheVariants as serve
use Rattle.spi_sequences.specs.declared.service.serve.ServeStep.TheVariants as steps
use Rattle.spi_sequences.specs.declared.service.start.StartPlace.TheVariants as start
use Rattle.spi_sequences.specs.declared.service.start.Started.TheVariants as started
use Rattle.spi_sequences.specs.declared.service.unit.After.TheVariants as after
use Rattle.spi_sequences.specs.declared.service.unit.UnitPlace.TheVariants as place

module _ (d : SpiTable) (fits : FitsSpi d) where
  abbrev V : LongBodies (spi_basis d) UnitBody
  V = unit_bodies d

  -- ---- the steps that are left

  abbrev ShortTo : ℕ → UnitBody × BodyTaken → Type 0
  ShortTo n r = ShortensTo n (V.fuel r.0) r.1.done

  ahead_few : (e : FrameRole) (u : ℕ) (n : Ahead) → ahead_steps e u n ≤ 33 + unit_after e u
  ahead_few e u ToStart = omega arith
  ahead_few e u _ = omega arith

  over_short : (x : SpiTable) (e : FrameRole) (u n : ℕ) (p q : UnitPlace) → unit_after e u < n → ShortTo n (unit_over (at x e u p) q e u)
  over_short x Main zero n p q lt =
      elim (is_sync_unit x 1) as (λ z. ShortTo n (main_over (at x Main 0 p) q z))
      [ true ↦ omega (arith, lt) | false ↦ (let last = unit_second d (rest_after q) in omega (arith, lt, last)) ]
  over_short x _ _ n p q lt = omega (arith, lt)

  serve_few : (x : SpiTable) (e : FrameRole) (u n : ℕ) (p : ServePlace) → serve_fuel_at x p < n → V.fuel (at x e u (place.Serve p)) < n + (34 + unit_after e u)
  serve_few x e u n p =
      elim (serve_owes p) as (λ q. (if q then 1 + serve_more x p else serve_fuel p) < n → or_owed (λ z. 1 + ((spi_owing d).more z + owed_steps (about_owed z))) (where_owed q (Units (at x e u (place.Serve p)))) (serve_fuel p + (34 + unit_after e u)) < n + (34 + unit_after e u))
      [ true ↦ (λ lt. let few = ahead_few e u (served_ahead (serve_ahead x p)) in omega (arith, lt, few)) | false ↦ (λ lt. omega (arith, lt)) ]

  start_few : (x : SpiTable) (e : FrameRole) (u n : ℕ) (p : StartPlace) → start_left p < n → V.fuel (at x e u (place.Start p)) < n + unit_after e u
  start_few x e u n p lt =
      (elim (start_owes p) as (λ q. (if q then 1 + start_more p else start_left p) < n → or_owed (λ z. 1 + ((spi_owing d).more z + owed_steps (about_owed z))) (where_owed q (Units (at x e u (place.Start p)))) (start_left p + unit_after e u) < n + unit_after e u)
      [ true ↦ (λ lt. omega (arith, lt)) | false ↦ (λ lt. omega (arith, lt)) ]) (subst (λ k. k < n) (sym (owed_left_is p)) lt)

  serve_short : (x : SpiTable) (e : FrameRole) (u n : ℕ) (p : ServePlace) (z : ServePlace × ServeStep) → ServeLess (serve_fuel_at x) n z → ShortTo (n + (34 + unit_after e u)) (after_serve (at x e u (place.Serve p)) z)
  serve_short x e u n p (r, steps.Goes k) less = serve_few x e u n r less
  serve_short x e u n p (r, steps.Over) less = over_short x e u (n + (34 + unit_after e u)) (place.Serve p) (place.Serve r) (omega arith)
  serve_short x e u n p (r, steps.JobOver k) less = omega (arith, less)

  start_short : (x : SpiTable) (e : FrameRole) (u n : ℕ) (p : StartPlace) (z : StartPlace × Started) → StartLess n z → ShortTo (n + unit_after e u) (after_start (at x e u (place.Start p)) z)
  start_short x e u n p (r, started.Goes k) less = start_few x e u n r less
  start_short x e u n p (r, started.Over) less = over_short x e u (n + unit_after e u) (place.Start p) (place.Start r) (omega (arith, less))

  looked_short : (x : SpiTable) (e : FrameRole) (u k : ℕ) (q : Bool) → ShortTo (41 + (8 - k) + unit_after e u) (after_request (at x e u (place.Request (request.Look k))) (request_looked k q))
  looked_short x e u k true = omega arith
  looked_short x e u k false = whether_as (nat_lt k 7) (λ q. ShortTo (41 + (8 - k) + unit_after e u) (after_request (at x e u (place.Request (request.Look k))) (if q then request.Look (k + 1) else request.Accept, requested.Goes None)))
      (λ f. let less = is_below k 7 f in omega (arith, less))
      (λ f. omega arith)

  short_at : (x : SpiTable) (e : FrameRole) (u : ℕ) (p : UnitPlace) (v : ℕ) → unit_owes p ≡ false → ShortTo (unit_fuel_at e u p) (unit_takes (at x e u p) v)
  short_at x e u (place.Request (request.Look k)) v i = looked_short x e u k (v == PENDING && (k == requested_by e || shares x (requested_by e) k))
  short_at x e u (place.Request request.Accept) v i = omega arith
  short_at x e u (place.Request _) v i = absurd (cc)
  short_at x e u place.Act v i =
      elim (is_sync_unit x u) as (λ z. ShortTo (69 + unit_after e u) (unit_acts (at x e u place.Act) z))
      [ true ↦ omega arith | false ↦ omega arith ]
  short_at x e u (place.Opens (after.Tell n)) v i = by n.job n.sequence
    where
      by : (j k : Option Notice) → V.fuel (at x e u (told_first j k)) < 33 + unit_after e u
      by (Some j) (Some k) = omega arith
      by None None = omega arith
      by _ _ = omega arith
  short_at x e u (place.Opens _) v i = omega arith
  short_at x e u (place.Tell n None) v i = omega arith
  short_at x e u (place.Tell n (Some k)) v i = omega arith
  short_at x e u (place.Serve p) v i = serve_short x e u (serve_fuel p) p (serve_takes x u p v) (less_fuel x u p v i)
  short_at x e u (place.Start p) v i = start_short x e u (start_left p) p (start_takes x u p v) (start_shorter x u p v i)

  -- ---- clean places

  abbrev CleanTo : (was : Bool) → Move → UnitBody × BodyTaken → Type 0
  CleanTo was made r = KeepsClean was made (V.clean r.0) r.1.done

  soiled : (q : Bool) (k : UnitBody) → or_owed (λ z. false) (where_owed q (Units k)) false ≡ false
  soiled true k = refl
  soiled false k = refl

  never : (was : Bool) (made : Move) (k : UnitBody) → V.clean k ≡ false → (V.clean k ≡ true → (was ≡ true) × (is_quiet made ≡ true))
  never was made k e f = absurd (let g = sym e ∙ f in cc)

  over_clean : (x : SpiTable) (e : FrameRole) (u : ℕ) (was : Bool) (made : Move) (p q : UnitPlace) → CleanTo was made (unit_over (at x e u p) q e u)
  over_clean x Main zero was made p q =
      elim (is_sync_unit x 1) as (λ z. CleanTo was made (main_over (at x Main 0 p) q z))
      [ true ↦ tt | false ↦ (λ f. absurd (cc)) ]
  over_clean x _ _ was made p q = tt

  serve_clean : (x : SpiTable) (e : FrameRole) (u : ℕ) (was : Bool) (made : Move) (p : ServePlace) (z : ServePlace × ServeStep) → CleanTo was made (after_serve (at x e u (place.Serve p)) z)
  serve_clean x e u was made p (r, steps.Goes k) = never was made (at x e u (place.Serve r)) (soiled (serve_owes r) (at x e u (place.Serve r)))
  serve_clean x e u was made p (r, steps.Over) = over_clean x e u was made (place.Serve p) (place.Serve r)
  serve_clean x e u was made p (r, steps.JobOver k) = λ f. absurd (cc)

  start_clean : (x : SpiTable) (e : FrameRole) (u : ℕ) (was : Bool) (made : Move) (p : StartPlace) (z : StartPlace × Started) → CleanTo was made (after_start (at x e u (place.Start p)) z)
  start_clean x e u was made p (r, started.Goes k) = never was made (at x e u (place.Start r)) (soiled (start_owes r) (at x e u (place.Start r)))
  start_clean x e u was made p (r, started.Over) = over_clean x e u was made (place.Start p) (place.Start r)

  looked_clean : (x : SpiTable) (e : FrameRole) (u k : ℕ) (q : Bool) → CleanTo true (Load (sequence_word k)) (after_request (at x e u (place.Request (request.Look k))) (request_looked k q))
  looked_clean x e u k true = tt
  looked_clean x e u k false =
      elim (nat_lt k 7) as (λ q. CleanTo true (Load (sequence_word k)) (after_request (at x e u (place.Request (request.Look k))) (if q then request.Look (k + 1) else request.Accept, requested.Goes None)))
      [ true ↦ (λ f. (refl, refl)) | false ↦ (λ f. absurd (cc)) ]

  clean_at : (x : SpiTable) (e : FrameRole) (u : ℕ) (p : UnitPlace) (v : ℕ) → unit_owes p ≡ false → CleanTo (unit_clean p) (unit_move (at x e u p) p) (unit_takes (at x e u p) v)
  clean_at x e u (place.Request (request.Look k)) v i = looked_clean x e u k (v == PENDING && (k == requested_by e || shares x (requested_by e) k))
  clean_at x e u (place.Request request.Accept) v i = λ f. absurd (cc)
  clean_at x e u (place.Request _) v i = absurd (cc)
  clean_at x e u place.Act v i =
      elim (is_sync_unit x u) as (λ z. CleanTo false (Load STATE) (unit_acts (at x e u place.Act) z))
      [ true ↦ tt | false ↦ (λ f. absurd (cc)) ]
  clean_at x e u (place.Opens (after.Tell n)) v i = by n.job n.sequence
    where
      by : (j k : Option Notice) → V.clean (at x e u (told_first j k)) ≡ true → (false ≡ true) × (is_quiet Unmask ≡ true)
      by None (Some k) = λ f. absurd (cc)
      by _ _ = λ f. absurd (cc)
  clean_at x e u (place.Tell n None) v i = λ f. absurd (cc)
  clean_at x e u (place.Serve p) v i = serve_clean x e u false (serve_move x u p) p (serve_takes x u p v)
  clean_at x e u (place.Start p) v i = start_clean x e u false (start_move x u p) p (start_takes x u p v)
  clean_at x e u _ v i = λ f. absurd (cc)

  -- ---- a move without an event resets nothing, and begins no word

  not_served : (e : FrameRole) (u : ℕ) (p : ServePlace) (v : ℕ) → (after_serve (at d e u (place.Serve p)) (serve_takes d u p v)).1.event ≡ None → NotServing d u p
  not_served e u (serve.Begin r q n) v i = absurd (cc)
  not_served e u _ v i = tt

  not_begun : (e : FrameRole) (u : ℕ) (p : StartPlace) (v : ℕ) → (after_start (at d e u (place.Start p)) (start_takes d u p v)).1.event ≡ None → NotStart d u p
  not_begun e u (start.Begin c n) v i = absurd (cc)
  not_begun e u _ v i = tt

  calm_at : (e : FrameRole) (u : ℕ) (p : UnitPlace) (v : ℕ) → unit_owes p ≡ false → (unit_takes (at d e u p) v).1.event ≡ None → (resets_chip (unit_move (at d e u p) p) ≡ false) × (begins_word (unit_move (at d e u p) p) ≡ false)
  calm_at e u (place.Serve p) v i f = serve_calm d u p i (not_served e u p v f)
  calm_at e u (place.Start p) v i f = start_calm d u p i (not_begun e u p v f)
  calm_at e u (place.Request (request.Look k)) v i f = (refl, refl)
  calm_at e u _ v i f = (cc, cc)

  -- ---- all of them

  unit_free : AreFree (spi_basis d) V unit_owed (λ k. None)
  unit_free = record {
    own = λ below chip w s k o t i h. let x = stands below chip w s k o t i h in frame_may d o (unit_move k k.place) (subst (λ z. is_shared (unit_move (at z k.errand k.unit k.place) k.place) || may d (unit_move (at z k.errand k.unit k.place) k.place) ≡ true) (sym x.0) (own_at d fits below chip w s k.errand k.unit k.place o t (free_at k i) x.1));
    turns = λ below chip w s k o t i h. let x = stands below chip w s k o t i h in subst (λ q. TurnsBy d fits k q (value_of chip (unit_work k))) (sym i) (subst (λ z. TurnsBy d fits (at z k.errand k.unit k.place) None (value_of chip (unit_move (at z k.errand k.unit k.place) k.place))) (sym x.0) (turns_at d fits below chip w s k.errand k.unit k.place o t (free_at k i) x.1));
    steps = λ below chip w s k o y t m i come few h. unit_steps d fits below chip w s k o y t m i h;
    later = later;
    calm = λ below chip w s k o t i h f. let is = (stands below chip w s k o t i h).0 in subst (λ z. (resets_chip (unit_move (at z k.errand k.unit k.place) k.place) ≡ false) × (begins_word (unit_move (at z k.errand k.unit k.place) k.place) ≡ false)) (sym is) (calm_at k.errand k.unit k.place (value_of chip (unit_move (at d k.errand k.unit k.place) k.place)) (free_at k i) (subst (λ z. (unit_takes (at z k.errand k.unit k.place) (value_of chip (unit_move (at z k.errand k.unit k.place) k.place))).1.event ≡ None) is f));
    shortens = λ k v i. subst (λ q. ShortTo (or_owed (λ z. 1 + ((spi_owing d).more z + owed_steps (about_owed z))) q (unit_fuel_at k.errand k.unit k.place)) (unit_takes k v)) (sym i) (short_at k.table k.errand k.unit k.place v (free_at k i));
    cleans = λ k v i. subst (λ q. CleanTo (or_owed (λ z. false) q (unit_clean k.place)) (unit_work k) (unit_takes k v)) (sym i) (clean_at k.table k.errand k.unit k.place v (free_at k i));
  }
    where
      stands : (below : Reservations) (chip : Chip) (w : World) (s : SpiState) (k : UnitBody) (o : Origin Call) (t : FrameHistory) → unit_owed k ≡ None → AssertedAt (spi_basis d) V below chip w s k o t → (k.table ≡ d) × StandX d fits below chip w s d k.errand k.unit k.place o t
      stands = stands_free d fits

      later : (below : Reservations) (chip : Chip) (w : World) (s : SpiState) (order : Order) (k : UnitBody) (o : Origin Call) (t : FrameHistory) → unit_owed k ≡ None → MayCome (spi_setting d) (with_holds o t.acted (holds_at (V.assertion k)) below) chip w s order → (is_masked chip ≡ false → is_closed (V.assertion k) ≡ false) → AssertedAt (spi_basis d) V below chip w s k o t
          → place_at (V.assertion k) below (foot d (happened chip order)) (world_after w chip.clock.rate order) (moved d w s order) o t
      later below chip w s order k o t i come shut h =
          let x = stands below chip w s k o t i h in
          subst (λ z. place_at z below (foot d (happened chip order)) (world_after w chip.clock.rate order) (moved d w s order) o t) (sym (free_spot d fits k i))
          (subst (λ z. place_at (unit_spot_at d z k.errand k.unit k.place) below (foot d (happened chip order)) (world_after w chip.clock.rate order) (moved d w s order) o t) (sym x.0)
          (later_at d fits below chip w s order k.errand k.unit k.place o t (free_at k i) (λ closed. unfilled (is_masked chip) refl (shut_so x.0 closed)) x.1))
        where
          shut_so : k.table ≡ d → is_closed (unit_spot_at d d k.errand k.unit k.place) ≡ true → is_closed (V.assertion k) ≡ true
          shut_so is closed = ap (λ z. is_closed z) (free_spot d fits k i) ∙ ap (λ z. is_closed (unit_spot_at d z k.errand k.unit k.place)) is ∙ closed

          unfilled : (q : Bool) → is_masked chip ≡ q → is_closed (V.assertion k) ≡ true → is_fill order ≡ false
          unfilled true e closed = not_filled (spi_setting d) w s come.frames order (subst (λ q. IsFree (spi_setting d) q w s come.frames order) e come.free)
          unfilled false e closed = absurd (let f = sym (shut e) ∙ closed in cc)

  pub units_right : AreLong (spi_basis d) V
  units_right = windows_right (spi_bare d) (spi_owing d) same_chip (owed_right d) (unit_windows d) (λ k. None) (unit_wins d) unit_free
