-- Frames of units: how their steps turn the mask, and the moves that their windows have left.
-- From spi_sequences: services.UnitSteps, spi_sequences: services.ServeSteps, services.UnitFrames and 6 more.
-- Used by services.UnitBounds.
use Rattle.std.proofs.Common.{◌≡◌, ◌+◌, ◌-◌, ◌/◌, ◌%◌, ◌<◌, ◌≤◌, ◌==◌, ◌&&◌, ◌||◌, ◌∙◌, if◌then◌else◌}
use Rattle.spi_driver.specs.Terms
use Terms.{after_request, after_serve, after_start, ap, arith, Arrived, begins_by, begins_of, BodyTaken, Bool, Call}
use Terms.{channel_next, Chip, false, find_gave, FitsSpi, FrameHistory, FrameRole, front_gave, further_of, gave}
use Terms.{has_ended, is_below, is_closed, is_last_place, is_shared, is_sync_unit, keep_of, KeepsMask, less_room}
use Terms.{lets_of, LongBodies, Main, main_over, nat_lt, None, Notice, Option, or_owed, Origin, owed_left_is, PENDING}
use Terms.{PendingWrites, place_fits, plain_turns, Position, refl, releasing, request_looked, requested_by}
use Terms.{Reservations, run_in, Sent, sequence_word, serve_finds, serve_more, serve_move, serve_owes}
use Terms.{serve_place, serve_room, serve_room_at, serve_run, serve_takes, ServeLess, ServePlace, ServeStep, shares}
use Terms.{Some, spi_basis, spi_owing, SpiRepresents, SpiState, SpiTable, spot_or, start_finds, start_found}
use Terms.{start_left, start_looks, start_more, start_move, start_owes, start_shorter, start_takes, Started}
use Terms.{StartLess, StartPlace, subst, sym, told_first, true, TurnsMask, unit_acts, unit_move, unit_over, unit_owes}
use Terms.{unit_takes, unit_work, UnitBody, UnitPlace, Units, Unmask, value_of, where_owed, whether_as, with_holds}
use Terms.{word_of, World, zero, ℕ}
use Rattle.spi_driver.specs.laws.services.UnitFrames.{at, holds_by, unit_bodies, unit_windows, unit_room_at}
use Rattle.spi_driver.specs.laws.services.UnitFrames.{unit_spot_at, is_shut, is_closing, foot}
use Rattle.spi_driver.specs.laws.services.UnitRight.{StandX, look_few, serve_plain, start_plain}
use Rattle.spi_sequences.specs.declared.service.request.RequestPlace.TheVariants as request
use Rattle.spi_sequences.specs.declared.service.request.Requested.TheVariants as requested
use Rattle.spi_sequences.specs.declared.service.serve.ServePlace.TheVariants as serve
use Rattle.spi_sequences.specs.declared.service.serve.ServeStep.TheVariants as steps
use Rattle.spi_sequences.specs.declared.service.start.StartPlace.TheVariants as start
use Rattle.spi_sequences.specs.declared.service.start.Started.TheVariants as started
use Rattle.spi_sequences.specs.declared.service.unit.After.TheVariants as after
use Rattle.spi_sequences.specs.declared.service.unit.UnitPlace.TheVariants as place

module _ (d : SpiTable) (fits : FitsSpi d) where
  -- ---- no step leads back to the beginning of its window

  begins_open : (x : SpiTable) (r : Arrived) → is_shut (begins_of x r) ≡ false
  begins_open x r = by r.served.failed (further_of x r)
    where
      by : (q : Bool) (n : Option Position) → is_shut (if q then serve.Marks r else begins_by r n) ≡ false
      by false None = refl
      by _ _ = refl

  lets_open : (x : SpiTable) (r : Arrived) (n : Position) → is_shut (lets_of x r n) ≡ false
  lets_open x r n = let c = channel_next x r n in
      elim (c.channel.internal && is_last_place c n.word) as (λ q. is_shut (if q then serve.Let r n (releasing c Sent) else serve.Keep (keep_of x r) n) ≡ false)
      [ true ↦ refl | false ↦ refl ]

  serve_open : (x : SpiTable) (u : ℕ) (p : ServePlace) (v : ℕ) → serve_owes p ≡ false → is_shut (serve_takes x u p v).0 ≡ false
  serve_open x u serve.State v i =
      elim (v / 2 % 2 == 0) as (λ q. (let r : ServePlace × ServeStep = if q then (serve.State, steps.Over) else (serve.Running (v / 4 % 2 == 1), steps.Goes None) in is_shut r.0) ≡ false)
      [ true ↦ refl | false ↦ refl ]
  serve_open x u (serve.Running q) v i =
      elim (run_in v) as (λ o. is_shut (serve_run q o).0 ≡ false)
      [ None ↦ refl | Some r ↦ refl ]
  serve_open x u (serve.Receive r q) v i = begins_open x (record { served = r; taker = q; word = v })
  serve_open x u (serve.Find r q f) v i =
      elim (find_gave f v) as (λ o. is_shut (serve_finds r q f v o).0 ≡ false)
      [ None ↦ refl | Some n ↦ refl ]
  serve_open x u (serve.Begin r q n) v i = lets_open x r q
  serve_open x u _ v i = cc

  start_open : (x : SpiTable) (u : ℕ) (p : StartPlace) (v : ℕ) → start_owes p ≡ false → is_closing (start_takes x u p v).0 ≡ false
  start_open x u start.Running v i =
      elim (v == 0) as (λ q. (let r : StartPlace × Started = if q then (start.Nexts, started.Goes None) else (start.Running, started.Over) in is_closing r.0) ≡ false)
      [ true ↦ refl | false ↦ refl ]
  start_open x u (start.Front n m f) v i = front_open (has_ended (front_gave f v))
    where
      front_open : (q : Bool) → is_closing (start_looks x n m f v (front_gave f v) q).0 ≡ false
      front_open true =
          elim (nat_lt (gave (front_gave f v)) 8) as (λ q. is_closing (start_found x n m f v (gave (front_gave f v)) q).0 ≡ false)
          [ true ↦ refl | false ↦ refl ]
      front_open false = refl
  start_open x u (start.Find c f) v i =
      elim (find_gave f v) as (λ o. is_closing (start_finds c f v o).0 ≡ false)
      [ None ↦ refl | Some n ↦ refl ]
  start_open x u _ v i = cc

  -- ---- the mask, and the moves of the window

  abbrev V : LongBodies (spi_basis d) UnitBody
  V = unit_bodies d

  serve_closed : (x : SpiTable) (e : FrameRole) (u : ℕ) (p : ServePlace) → is_shut p ≡ false → is_closed (V.assertion (at x e u (place.Serve p))) ≡ true
  serve_closed x e u serve.Shut i = absurd (cc)
  serve_closed x e u _ i = refl

  start_closed : (x : SpiTable) (e : FrameRole) (u : ℕ) (p : StartPlace) → is_closing p ≡ false → is_closed (V.assertion (at x e u (place.Start p))) ≡ true
  start_closed x e u start.Shut i = absurd (cc)
  start_closed x e u _ i = refl

  -- the bounds of the parts are those of the frame
  serve_few : (e : FrameRole) (u n : ℕ) (p : ServePlace) → serve_room_at d p < n → V.room (at d e u (place.Serve p)) < n
  serve_few e u n p =
      elim (serve_owes p) as (λ q. (if q then 1 + serve_more d p else serve_room p) < n → or_owed (λ z. 1 + ((spi_owing d).more z + 0)) (where_owed q (Units (at d e u (place.Serve p)))) (serve_room p) < n)
      [ true ↦ (λ lt. omega (arith, lt)) | false ↦ (λ lt. lt) ]

  start_few : (e : FrameRole) (u n : ℕ) (p : StartPlace) → start_left p < n → V.room (at d e u (place.Start p)) < n
  start_few e u n p lt =
      (elim (start_owes p) as (λ q. (if q then 1 + start_more p else start_left p) < n → or_owed (λ z. 1 + ((spi_owing d).more z + 0)) (where_owed q (Units (at d e u (place.Start p)))) (start_left p) < n)
      [ true ↦ (λ lt. omega (arith, lt)) | false ↦ (λ lt. lt) ]) (subst (λ k. k < n) (sym (owed_left_is p)) lt)

  abbrev KeepsTo : ℕ → UnitBody × BodyTaken → Type 0
  KeepsTo n r = KeepsMask true (is_closed (V.assertion r.0)) n (V.room r.0) r.1.event r.1.done

  over_keeps : (e : FrameRole) (u n : ℕ) (p q : UnitPlace) → 1 ≤ n → KeepsTo n (unit_over (at d e u p) q e u)
  over_keeps Main zero n p q le =
      elim (is_sync_unit d 1) as (λ z. KeepsTo n (main_over (at d Main 0 p) q z))
      [ true ↦ le | false ↦ (refl, omega (arith, le)) ]
  over_keeps _ _ n p q le = le

  serve_keeps_mask : (e : FrameRole) (u n : ℕ) (p : ServePlace) (z : ServePlace × ServeStep) → is_shut z.0 ≡ false → ServeLess (serve_room_at d) n z → KeepsTo n (after_serve (at d e u (place.Serve p)) z)
  serve_keeps_mask e u n p (r, steps.Goes x) i less = (serve_closed d e u r i, serve_few e u n r less)
  serve_keeps_mask e u n p (r, steps.Over) i less = over_keeps e u n (place.Serve p) (place.Serve r) less
  serve_keeps_mask e u n p (r, steps.JobOver x) i less = (refl, omega (arith, less))

  start_keeps_mask : (e : FrameRole) (u n : ℕ) (p : StartPlace) (z : StartPlace × Started) → is_closing z.0 ≡ false → StartLess n z → KeepsTo n (after_start (at d e u (place.Start p)) z)
  start_keeps_mask e u n p (r, started.Goes x) i less = (start_closed d e u r i, start_few e u n r less)
  start_keeps_mask e u n p (r, started.Over) i less = over_keeps e u n (place.Start p) (place.Start r) less

  -- what a step turns, where this is owed
  abbrev pub TurnsBy : UnitBody → Option PendingWrites → ℕ → Type 0
  TurnsBy k q v =
      let r = unit_takes k v in
      TurnsMask 32 (is_closed (spot_or (unit_windows d) q (unit_spot_at d k.table k.errand k.unit k.place))) (is_closed (V.assertion r.0))
      (or_owed (λ z. 1 + ((spi_owing d).more z + 0)) q (unit_room_at k.place)) (V.room r.0) (unit_work k) r.1.event r.1.done

  serve_turns : (below : Reservations) (chip : Chip) (w : World) (s : SpiState) (e : FrameRole) (u : ℕ) (p : ServePlace) → u < 2 → serve_owes p ≡ false → is_shared (serve_move d u p) ≡ false → SpiRepresents d below chip w s → serve_place d u p (foot d chip) w s → let v = value_of chip (serve_move d u p) in let r = unit_takes (at d e u (place.Serve p)) v in TurnsMask 32 true (is_closed (V.assertion r.0)) (serve_room p) (V.room r.0) (serve_move d u p) r.1.event r.1.done
  serve_turns below chip w s e u p lt i plain h here =
      let v = value_of chip (serve_move d u p) in
      let r = unit_takes (at d e u (place.Serve p)) v in
      plain_turns 32 true (is_closed (V.assertion r.0)) (serve_room p) (V.room r.0) (serve_move d u p) r.1.event r.1.done plain
      (serve_keeps_mask e u (serve_room p) p (serve_takes d u p v) (serve_open d u p v i) (less_room d u p v i (place_fits d fits below chip w s h u lt p here.1) (λ e. let f = sym plain ∙ ap (λ q. is_shared (serve_move d u q)) e in cc)))

  start_turns : (e : FrameRole) (u : ℕ) (p : StartPlace) (v : ℕ) → start_owes p ≡ false → is_shared (start_move d u p) ≡ false → let r = unit_takes (at d e u (place.Start p)) v in TurnsMask 32 true (is_closed (V.assertion r.0)) (start_left p) (V.room r.0) (start_move d u p) r.1.event r.1.done
  start_turns e u p v i plain =
      let r = unit_takes (at d e u (place.Start p)) v in
      plain_turns 32 true (is_closed (V.assertion r.0)) (start_left p) (V.room r.0) (start_move d u p) r.1.event r.1.done plain
      (start_keeps_mask e u (start_left p) p (start_takes d u p v) (start_open d u p v i) (start_shorter d u p v i))

  looked_turns : (e : FrameRole) (u k : ℕ) (q : Bool) → k < 8 → let r = after_request (at d e u (place.Request (request.Look k))) (request_looked k q) in KeepsTo (10 + (8 - k)) r
  looked_turns e u k true lt = omega arith
  looked_turns e u k false lt = whether_as (nat_lt k 7) (λ q. KeepsTo (10 + (8 - k)) (after_request (at d e u (place.Request (request.Look k))) (if q then request.Look (k + 1) else request.Accept, requested.Goes None)))
      (λ f. (refl, let less = is_below k 7 f in omega (arith, less)))
      (λ f. (refl, omega (arith, lt)))

  pub turns_at : (below : Reservations) (chip : Chip) (w : World) (s : SpiState) (e : FrameRole) (u : ℕ) (p : UnitPlace) (o : Origin Call) (t : FrameHistory) → unit_owes p ≡ false → StandX d fits below chip w s d e u p o t → TurnsBy (at d e u p) None (value_of chip (unit_move (at d e u p) p))
  turns_at below chip w s e u (place.Request (request.Look k)) o t i h = looked_turns e u k (word_of chip (sequence_word k) == PENDING && (k == requested_by e || shares d (requested_by e) k)) (look_few d s t k e u o h.1.0.of h.1.1)
  turns_at below chip w s e u (place.Request request.Accept) o t i h = (refl, omega arith)
  turns_at below chip w s e u (place.Request _) o t i h = absurd (cc)
  turns_at below chip w s e u place.Act o t i h =
      elim (is_sync_unit d u) as (λ z. KeepsTo 1 (unit_acts (at d e u place.Act) z))
      [ true ↦ omega arith | false ↦ (refl, omega arith) ]
  turns_at below chip w s e u (place.Opens (after.Tell n)) o t i h = by n.job n.sequence
    where
      by : (j k : Option Notice) → TurnsMask 32 true (is_closed (V.assertion (at d e u (told_first j k)))) 0 (V.room (at d e u (told_first j k))) Unmask None None
      by None (Some k) = (refl, refl, refl, refl)
      by _ _ = (refl, refl, refl, refl)
  turns_at below chip w s e u (place.Tell n None) o t i h = (refl, refl, refl, refl)
  turns_at below chip w s e u (place.Serve serve.Shut) o t i h = (refl, refl, omega arith, refl, refl)
  turns_at below chip w s e u (place.Serve p) o t i h = serve_turns (with_holds o t.acted (holds_by e) below) chip w s e u p h.1.1.small i (serve_plain d u p i refl) h.0 h.1.0
  turns_at below chip w s e u (place.Start start.Shut) o t i h = (refl, refl, omega arith, refl, refl)
  turns_at below chip w s e u (place.Start p) o t i h = start_turns e u p (value_of chip (start_move d u p)) i (start_plain d u p i refl)
  turns_at below chip w s e u _ o t i h = (refl, refl, refl, refl)
