-- Frames of units are right: every place of them.
-- From services.UnitFrames, services.UnitSteps, spi_sequences: services.UnitSteps, services.RequestAsking and 9 more.
-- Used by services.UnitBounds, bookkeeping.MaskDiscipline.
use Rattle.std.proofs.Common.{◌≡◌, ◌<◌, ◌==◌, ◌&&◌, ◌||◌, ◌∙◌}
use Rattle.spi_driver.specs.Terms
use Terms.{Adding, after_request, ap, arith, asking_plain, AssertedAt, AsyncTransmit, Bool, Call, Called}
use Terms.{channel_served, Chip, chip_after, error_by, false, find_plain, FitsSpi, FrameHistory, FrameRole}
use Terms.{fresh_history, Front, front_move, happened, is_closed, is_fill, is_held, is_off, is_pending, is_polling}
use Terms.{is_shared, Load, MakesTo, Mask, may, may_first, missed_after, mode_later, moved, None, not, Note, Option}
use Terms.{or_owed, or_right, Order, Origin, PENDING, pending_later, pending_word, PendingWrites, place_at, ready}
use Terms.{refl, request_looked, request_owes, requested_by, RequestPlace, Reservations, Right, Search, search_move}
use Terms.{sequence_word, serve_later, serve_may, serve_move, serve_owes, ServePlace, shares, spi_basis, spi_machine}
use Terms.{SpiRepresents, SpiState, SpiTable, spot_or, start_later, start_may, start_move, start_owes, StartPlace}
use Terms.{STATE, Store, subst, sym, Transmit, true, unit_move, unit_owed, unit_owes, unit_takes, unit_work, UnitBody}
use Terms.{UnitPlace, Units, Unmask, value_of, where_owed, with_holds, word_of, World, world_after, ℕ}
use Rattle.spi_driver.specs.laws.services.RequestAsking.{RequestMakes, accepts, looks, pending_beside}
use Rattle.spi_driver.specs.laws.services.UnitFrames.{Frame, IsFor, IsRequest, NoneHeld, RequestAt, at, holds_by}
use Rattle.spi_driver.specs.laws.services.UnitFrames.{unit_bodies, unit_spot_at, StandBy, free_bodies, is_closing}
use Rattle.spi_driver.specs.laws.services.UnitFrames.{is_shut, unit_clean, unit_windows, by_transmit, foot}
use Rattle.spi_driver.specs.laws.services.UnitSteps.{acts_so, opens_so, serve_right_at, serve_stands, shared_agrees}
use Rattle.spi_driver.specs.laws.services.UnitSteps.{start_right_at, start_stands, tells_so}
use Rattle.word_shapes.specs.declared.search.Search.TheVariants as search
use Rattle.spi_machine.specs.declared.call.Call.TheVariants as calls
use Rattle.spi_sequences.specs.declared.service.request.RequestPlace.TheVariants as request
use Rattle.spi_sequences.specs.declared.service.serve.ServePlace.TheVariants as serve
use Rattle.spi_sequences.specs.declared.service.start.StartPlace.TheVariants as start
use Rattle.spi_sequences.specs.declared.service.unit.UnitPlace.TheVariants as place

-- ---- moves that name a register or a word, and leave the mask as it is

search_plain : (x : Search) → is_shared (search_move x) ≡ false
search_plain (search.Tally at) = refl
search_plain _ = refl

pub front_plain : (f : Front) → is_shared (front_move f) ≡ false
front_plain f = search_plain f.search

-- a request looks at a sequence
pub look_few : (d : SpiTable) (s : SpiState) (t : FrameHistory) (k : ℕ) (e : FrameRole) (u : ℕ) (o : Origin Call) → IsFor u e o → RequestAt d e u (request.Look k) s t → k < 8
look_few d s t k e u o for asked = by_transmit d u (request.Look k) s t (λ e o. k < 8) (λ q asked. asked.2) e o for asked

-- so do those of the windows, once it is shut
pub serve_plain : (d : SpiTable) (u : ℕ) (p : ServePlace) → serve_owes p ≡ false → is_shut p ≡ false → is_shared (serve_move d u p) ≡ false
serve_plain d u (serve.Taker r) i n = asking_plain (channel_served d r) r.at.word
serve_plain d u (serve.Find r q f) i n = find_plain f
serve_plain d u _ i n = cc

pub start_plain : (d : SpiTable) (u : ℕ) (p : StartPlace) → start_owes p ≡ false → is_closing p ≡ false → is_shared (start_move d u p) ≡ false
start_plain d u (start.Front v m f) i n = front_plain f
start_plain d u (start.Find c f) i n = find_plain f
start_plain d u _ i n = cc

free_when : (q : Bool) (k : UnitBody) → where_owed q (Units k) ≡ None → q ≡ false
free_when true k e = absurd (cc)
free_when false k e = refl

pub free_at : (k : UnitBody) → unit_owed k ≡ None → unit_owes k.place ≡ false
free_at k e = free_when (unit_owes k.place) k e

module _ (d : SpiTable) (fits : FitsSpi d) where
  -- where it owes nothing, a frame stands at its place
  abbrev pub StandX : Reservations → Chip → World → SpiState → SpiTable → FrameRole → ℕ → UnitPlace → Origin Call → FrameHistory → Type 0
  StandX below chip w s x e u p o t = AssertedAt (spi_basis d) (free_bodies d) below chip w s (at x e u p) o t

  pub free_spot : (k : UnitBody) → unit_owed k ≡ None → (unit_bodies d).assertion k ≡ (free_bodies d).assertion k
  free_spot k e = ap (λ q. spot_or (unit_windows d) q (unit_spot_at d k.table k.errand k.unit k.place)) e

  -- under the configuration's table
  unit_table : (below : Reservations) (chip : Chip) (w : World) (s : SpiState) (x : SpiTable) (e : FrameRole) (u : ℕ) (p : UnitPlace) (o : Origin Call) (t : FrameHistory) → StandX below chip w s x e u p o t → x ≡ d
  unit_table below chip w s x e u place.Act o t h = h.1.0
  unit_table below chip w s x e u (place.Serve serve.Shut) o t h = h.1.0.table
  unit_table below chip w s x e u (place.Serve p) o t h = h.1.1.table
  unit_table below chip w s x e u (place.Start start.Shut) o t h = h.1.0.table
  unit_table below chip w s x e u (place.Start p) o t h = h.1.1.table
  unit_table below chip w s x e u _ o t h = h.1.0.table

  pub stands_free : (below : Reservations) (chip : Chip) (w : World) (s : SpiState) (k : UnitBody) (o : Origin Call) (t : FrameHistory) → unit_owed k ≡ None → AssertedAt (spi_basis d) (unit_bodies d) below chip w s k o t
      → (k.table ≡ d) × StandX below chip w s d k.errand k.unit k.place o t
  stands_free below chip w s k o t i h =
      let here = subst (λ q. StandBy d below chip w s k o t q) i h in
      let is = unit_table below chip w s k.table k.errand k.unit k.place o t here in
      (is, subst (λ z. StandX below chip w s z k.errand k.unit k.place o t) is here)

  -- ---- the steps

  -- a step, where this is owed
  abbrev RightBy : Reservations → Chip → World → SpiState → UnitBody → Option PendingWrites → Origin Call → ℕ → FrameHistory → (ℕ → Bool) → Type 0
  RightBy below chip w s k q o y t m =
      let made = unit_work k in
      Adding (spot_or (unit_windows d) q ((free_bodies d).assertion k)) (ready w s) t (λ z. MakesTo (spi_basis d) (unit_bodies d) below chip (chip_after chip made y) w s o made
      (or_owed (λ x. false) q (unit_clean k.place)) (value_of chip made) y z (missed_after (spi_machine d) w s m) (unit_takes k (value_of chip made)))

  abbrev RightX : Reservations → Chip → World → SpiState → FrameRole → ℕ → UnitPlace → Origin Call → ℕ → FrameHistory → (ℕ → Bool) → Type 0
  RightX below chip w s e u p o y t m = RightBy below chip w s (at d e u p) None o y t m

  request_right : (below : Reservations) (chip : Chip) (w : World) (s : SpiState) (e : FrameRole) (u : ℕ) (p : RequestPlace) (o : Origin Call) (y : ℕ) (t : FrameHistory) (m : ℕ → Bool) → request_owes p ≡ false → Frame d d e u o → RequestAt d e u p s t → SpiRepresents d below chip w s → RightX below chip w s e u (place.Request p) o y t m
  request_right below chip w s e u p o y t m i frame asked h =
      by_transmit d u p s t (λ e o. Frame d d e u o → RightX below chip w s e u (place.Request p) o y t m) (λ q asked frame. asked_by q u p i frame asked) e o frame.of asked frame
    where
      looked : (q u k : ℕ) (t : FrameHistory) → Frame d d (Transmit q) u (Called (calls.Sequence q AsyncTransmit)) → IsRequest d s q u → t ≡ fresh_history → k < 8 → NoneHeld d q s.pending k → RightX below chip w s (Transmit q) u (place.Request (request.Look k)) (Called (calls.Sequence q AsyncTransmit)) y t m
      looked q u k t frame is now lt none =
          let value = word_of chip (sequence_word k) in
          subst (λ z. RightX below chip w s (Transmit q) u (place.Request (request.Look k)) (Called (calls.Sequence q AsyncTransmit)) y z m) (sym now)
          (subst (λ z. RequestMakes d fits below chip w s h q u is frame y (missed_after (spi_machine d) w s m) (Load (sequence_word k)) chip true value (after_request (at d (Transmit q) u (place.Request (request.Look k))) (request_looked k z)))
          (sym (ap (λ z. z && (k == q || shares d q k)) (pending_word d fits below chip w s h is.on k lt) ∙ pending_beside d fits below chip w s h q k is.async))
          (looks d fits below chip w s h q u is frame y (missed_after (spi_machine d) w s m) k value lt none (is_pending k s.pending && (k == q || shares d q k)) refl))

      accepted_at : (q u : ℕ) (t : FrameHistory) → Frame d d (Transmit q) u (Called (calls.Sequence q AsyncTransmit)) → IsRequest d s q u → t ≡ fresh_history → is_held d q s.pending ≡ false → RightX below chip w s (Transmit q) u (place.Request request.Accept) (Called (calls.Sequence q AsyncTransmit)) y t m
      accepted_at q u t frame is now none = subst (λ z. RightX below chip w s (Transmit q) u (place.Request request.Accept) (Called (calls.Sequence q AsyncTransmit)) y z m) (sym now) (accepts d fits below chip w s h q u is frame y (missed_after (spi_machine d) w s m) none)

      asked_by : (q u : ℕ) (p : RequestPlace) → request_owes p ≡ false → Frame d d (Transmit q) u (Called (calls.Sequence q AsyncTransmit)) → RequestAt d (Transmit q) u p s t → RightX below chip w s (Transmit q) u (place.Request p) (Called (calls.Sequence q AsyncTransmit)) y t m
      asked_by q u (request.Look k) i frame (is, now, lt, none) = looked q u k t frame is now lt none
      asked_by q u request.Accept i frame (is, now, none) = accepted_at q u t frame is now none
      asked_by q u _ i frame asked = absurd (cc)

  unit_right : (below : Reservations) (chip : Chip) (w : World) (s : SpiState) (e : FrameRole) (u : ℕ) (p : UnitPlace) (o : Origin Call) (y : ℕ) (t : FrameHistory) (m : ℕ → Bool) → unit_owes p ≡ false → StandX below chip w s d e u p o t → RightX below chip w s e u p o y t m
  unit_right below chip w s e u (place.Request p) o y t m i h = request_right below chip w s e u p o y t m i h.1.0 h.1.1 h.0
  unit_right below chip w s e u place.Act o y t m i (h, (table, for, is, first, now, polling)) = subst (λ z. RightX below chip w s e u place.Act o y z m) (sym now) (acts_so d fits below chip w s y (missed_after (spi_machine d) w s m) e u o for is first polling (λ l none. or_right (m l) _ (ap not none)) h)
  unit_right below chip w s e u (place.Opens n) o y t m i h = opens_so d fits below (chip_after chip Unmask y) w s y m e u n o t h.1.0 h.1.1 (shared_agrees d fits _ chip w s Unmask y refl h.0)
  unit_right below chip w s e u (place.Tell n n1) o y t m i h = tells_so d fits below (chip_after chip (Note n) y) w s y m e u n n1 o t h.1.0 h.1.1 (shared_agrees d fits _ chip w s (Note n) y refl h.0)
  unit_right below chip w s e u (place.Serve serve.Shut) o y t m i h = serve_stands d fits e u serve.State below (chip_after chip Mask y) w s o t refl h.1.0 h.1.1 (shared_agrees d fits _ chip w s Mask y refl h.0) (h.1.0.async, tt)
  unit_right below chip w s e u (place.Serve p) o y t m i h = serve_right_at d fits below chip w s e u p o y t m i h.1.1 h.1.2 h.0 h.1.0 (serve_plain d u p i refl)
  unit_right below chip w s e u (place.Start start.Shut) o y t m i h = start_stands d fits e u start.Running below (chip_after chip Mask y) w s o t refl h.1.0 h.1.1 (shared_agrees d fits _ chip w s Mask y refl h.0) tt
  unit_right below chip w s e u (place.Start p) o y t m i h = start_right_at d fits below chip w s e u p o y t m i h.1.1 h.1.2 h.0 h.1.0 (start_plain d u p i refl)

  pub unit_steps : (below : Reservations) (chip : Chip) (w : World) (s : SpiState) (k : UnitBody) (o : Origin Call) (y : ℕ) (t : FrameHistory) (m : ℕ → Bool) → unit_owed k ≡ None → AssertedAt (spi_basis d) (unit_bodies d) below chip w s k o t → Right (spi_basis d) (unit_bodies d) below chip w s k o y t m
  unit_steps below chip w s k o y t m i h =
      let here = stands_free below chip w s k o t i h in
      subst (λ q. RightBy below chip w s k q o y t m) (sym i) (subst (λ z. RightBy below chip w s (at z k.errand k.unit k.place) None o y t m) (sym here.0)
      (unit_right below chip w s k.errand k.unit k.place o y t m (free_at k i) here.1))

  -- ---- the moves

  pub own_at : (below : Reservations) (chip : Chip) (w : World) (s : SpiState) (e : FrameRole) (u : ℕ) (p : UnitPlace) (o : Origin Call) (t : FrameHistory) → unit_owes p ≡ false → StandX below chip w s d e u p o t → is_shared (unit_move (at d e u p) p) || may d (unit_move (at d e u p) p) ≡ true
  own_at below chip w s e u (place.Request (request.Look k)) o t i h = may_first d fits (sequence_word k) (omega arith) (let lt = look_few d s t k e u o h.1.0.of h.1.1 in omega (arith, lt))
  own_at below chip w s e u (place.Request request.Accept) o t i h =
      by_transmit d u request.Accept s t (λ e o. may d (Store (sequence_word (requested_by e)) PENDING) ≡ true) (λ q asked. may_first d fits (sequence_word q) (omega arith) (let lt = asked.0.small in omega (arith, lt))) e o h.1.0.of h.1.1
  own_at below chip w s e u (place.Request _) o t i h = absurd (cc)
  own_at below chip w s e u place.Act o t i h = may_first d fits STATE (omega arith) (omega arith)
  own_at below chip w s e u (place.Serve serve.Shut) o t i h = refl
  own_at below chip w s e u (place.Serve p) o t i h = serve_may d fits (with_holds o t.acted (holds_by e) below) chip w s h.0 u h.1.1.small p i h.1.0.1
  own_at below chip w s e u (place.Start start.Shut) o t i h = refl
  own_at below chip w s e u (place.Start p) o t i h = start_may d fits u h.1.1.small p (foot d chip) s h.1.0
  own_at below chip w s e u _ o t i h = refl

  -- ---- what comes to pass meanwhile

  asked_later : (w : World) (s : SpiState) (order : Order) (e : FrameRole) (u : ℕ) (p : RequestPlace) (o : Origin Call) (t : FrameHistory) → IsFor u e o → RequestAt d e u p s t → RequestAt d e u p (moved d w s order) t
  asked_later w s order e u p o t for asked = by_transmit d u p s t (λ e o. RequestAt d e u p (moved d w s order) t) (λ q asked. by q p asked) e o for asked
    where
      still : (q : ℕ) → IsRequest d s q u → IsRequest d (moved d w s order) q u
      still q i = record { small = i.small; async = i.async; on = ap is_off (mode_later d w s order) ∙ i.on; clear = ap (λ mode. error_by d (calls.Sequence q AsyncTransmit) (is_off mode) false) (mode_later d w s order) ∙ i.clear; unit = i.unit }

      by : (q : ℕ) (p : RequestPlace) → RequestAt d (Transmit q) u p s t → RequestAt d (Transmit q) u p (moved d w s order) t
      by q (request.Look k) (i, now, lt, none) = (still q i, now, lt, subst (λ ps. NoneHeld d q ps k) (sym (pending_later d w s order)) none)
      by q request.Accept (i, now, none) = (still q i, now, ap (is_held d q) (pending_later d w s order) ∙ none)
      by q _ asked = absurd asked

  pub later_at : (below : Reservations) (chip : Chip) (w : World) (s : SpiState) (order : Order) (e : FrameRole) (u : ℕ) (p : UnitPlace) (o : Origin Call) (t : FrameHistory) → unit_owes p ≡ false → (is_closed (unit_spot_at d d e u p) ≡ true → is_fill order ≡ false) → StandX below chip w s d e u p o t
      → place_at (unit_spot_at d d e u p) below (foot d (happened chip order)) (world_after w chip.clock.rate order) (moved d w s order) o t
  later_at below chip w s order e u (place.Request p) o t i none h = (h.1.0, asked_later w s order e u p o t h.1.0.of h.1.1)
  later_at below chip w s order e u place.Act o t i none (h, (table, for, is, first, now, polling)) = (table, for, is, first, now, ap is_polling (mode_later d w s order) ∙ polling)
  later_at below chip w s order e u (place.Serve serve.Shut) o t i none h = h.1
  later_at below chip w s order e u (place.Serve p) o t i none h = ((h.1.0.0, serve_later d u h.1.1.small chip w s h.0.size order p (none refl) h.1.0.1), h.1.1, h.1.2)
  later_at below chip w s order e u (place.Start start.Shut) o t i none h = h.1
  later_at below chip w s order e u (place.Start p) o t i none h = (start_later d u chip w s order p h.0.size h.1.1.small (none refl) h.1.0, h.1.1, h.1.2)
  later_at below chip w s order e u _ o t i none h = h.1
