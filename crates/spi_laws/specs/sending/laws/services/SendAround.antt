-- Around the steps of a call that sends a sequence and waits: its frame may make them, they turn the mask as they should,
-- what makes no event is calm, and the hardware leaves its places.
-- From bookkeeping.HeldWord, spi_sequences: services.SyncSteps, starting.services.StartAround and 6 more.
-- Used by services.SendRight, services.SendSteps, spi_driver: services.UnitRight, services.SendFree and 10 more.
use Rattle.std.proofs.Common.{◌≡◌, ◌≢◌, ◌<◌, ◌==◌, ◌&&◌, ◌||◌, ◌∷◌, [], ◌∙◌, ◌⊎◌, if◌then◌else◌}
use Rattle.spi_laws.specs.sending.Terms
use Terms.{ap, arith, Arrived, asking, AssertedAt, begins_word, Bool, Call, Called, carried_at, channel_of}
use Terms.{channel_sent, channel_words, channels_of, Chip, control_word, false, faulted_carrying, Fill, Find}
use Terms.{find_move, FitsSpi, flat_map, Footing, FrameHistory, fresh_history, happened, held_word, idle, inl, inr}
use Terms.{is_closed, is_fill, is_off, is_shared, Is_this_frame, IsThisFrame, item-other, item-same, job_at_place}
use Terms.{length, Level, level_leaves, List, Load, LongBodies, lt_from, may, may_find, may_first, mode_later, nat_lt}
use Terms.{no_word, None, Option, or_may, Order, Origin, place_at, Placed, Position, Read, Received, refl}
use Terms.{Reservations, resets_chip, running_word, same_number, same_or_other, Sending, SerialWait, serve_later}
use Terms.{serve_may, slice_index_or, Some, spi_bare, spi_basis, SpiFault, SpiRepresents, SpiState, SpiTable, subst}
use Terms.{sym, sync_move, sync_owes, sync_took, SyncBody, SyncPlace, SyncTransmit, true, turns_kept, unit_at}
use Terms.{unit_few, unit_of_sequence, untouched, will_give, with_holds, word_of, words_kept, World, world_after, ℕ}
use Rattle.spi_laws.specs.sending.Sending.{BeforeJob, device_at, first_of, IsSeeking}
use Rattle.spi_laws.specs.sending.Sending.{sync_bodies, sync_spot}
use Rattle.spi_laws.specs.sending.laws.{bookkeeping.HeldWord.{sending_of, served_sent, word_sent}}
use Rattle.spi_machine.specs.Bounds.{may_wait}
use Rattle.spi_sequences.specs.laws.bookkeeping.RefinementRight.{frame_may}
use Rattle.word_shapes.specs.declared.jobs.finding.Find.TheVariants as finds
use Rattle.spi_machine.specs.Machine.{moved}
use Rattle.spi_machine.specs.declared.call.Call.TheVariants as calls
use Rattle.spi_sequences.specs.declared.service.serve.SequenceNext.TheVariants as courses
use Rattle.spi_sequences.specs.declared.service.serve.ServePlace.TheVariants as serve
use Rattle.spi_sequences.specs.declared.service.sync.SyncPlace.TheVariants as place

-- a frame's body
abbrev pub body : SpiTable → (sequence unit job : ℕ) → Position → (banks : List ℕ) → SyncPlace → SyncBody
body d q u n at bs p = record { table = d; sequence = q; unit = u; job = n; at = at; banks = bs; place = p }

-- the chip as its places see it
abbrev pub foot : SpiTable → Chip → Footing
foot d chip = (spi_bare d).foot chip

-- ---- its moves

pub find_plain : (f : Find) → is_shared (find_move f) ≡ false
find_plain (finds.Newest x) = refl
find_plain _ = refl

pub asking_plain : (x : Placed) (i : ℕ) → is_shared (asking x i) ≡ false
asking_plain x i =
    elim (x.channel.internal && i == 0) as (λ q. is_shared (if q then Load (control_word x Received) else Load (held_word x)) ≡ false)
    [ true ↦ refl | false ↦ refl ]

calm_asking : (x : Placed) (i : ℕ) → (resets_chip (asking x i) ≡ false) × (begins_word (asking x i) ≡ false)
calm_asking x i = by (x.channel.internal && i == 0)
  where
    by : (q : Bool) → (resets_chip (if q then Load (control_word x Received) else Load (held_word x)) ≡ false) × (begins_word (if q then Load (control_word x Received) else Load (held_word x)) ≡ false)
    by true = (refl, refl)
    by false = (refl, refl)

calm_find : (f : Find) → (resets_chip (find_move f) ≡ false) × (begins_word (find_move f) ≡ false)
calm_find (finds.Newest x) = (refl, refl)
calm_find _ = (refl, refl)

module _ (d : SpiTable) where
  abbrev pub V : LongBodies (spi_basis d) SyncBody
  V = sync_bodies d

  abbrev pub StandAt : Reservations → Chip → World → SpiState → SyncBody → Origin Call → FrameHistory → Type 0
  StandAt below chip w s k o t = AssertedAt (spi_basis d) V below chip w s k o t

  -- at a place of the windows that isn't one of those below nothing stands
  module _ (q u n : ℕ) (at : Position) (bs : List ℕ) (below : Reservations) (chip : Chip) (w : World) (s : SpiState) (o : Origin Call) (t : FrameHistory) where
    abbrev k : SyncPlace → SyncBody
    k p = body d q u n at bs p

    abbrev Stand : SyncPlace → Type 0
    Stand p = StandAt below chip w s (k p) o t

    pub calm_at : (p : SyncPlace) (v : ℕ) → sync_owes p ≡ false → Stand p → (sync_took (k p) p v).1.event ≡ None → (resets_chip (sync_move (k p) p) ≡ false) × (begins_word (sync_move (k p) p) ≡ false)
    calm_at place.Free v e h i = (refl, refl)
    calm_at (place.Find b f) v e h i = calm_find f
    calm_at (place.Select b x) v e h i = (refl, refl)
    calm_at (place.Width b x) v e h i = (refl, refl)
    calm_at place.Opens v e h i = (refl, refl)
    calm_at place.Wait v e h i = (refl, refl)
    calm_at (place.Shut failed) v e h i = (refl, refl)
    calm_at (place.Taker failed) v e h i = calm_asking (channel_sent (k (place.Taker failed)) at.channel) at.word
    calm_at (place.Receive r x) v e h i = (refl, refl)
    calm_at (place.Serve (serve.Width a p)) v e h i = (refl, refl)
    calm_at (place.Serve (serve.Find a p f)) v e h i = calm_find f
    calm_at (place.Serve serve.Shut) v e h i = absurd h.1
    calm_at (place.Serve serve.State) v e h i = absurd h.1
    calm_at (place.Serve (serve.Running failed)) v e h i = absurd h.1
    calm_at (place.Serve (serve.Position r failed)) v e h i = absurd h.1
    calm_at (place.Serve (serve.Taker r)) v e h i = absurd h.1
    calm_at (place.Serve (serve.Receive r x)) v e h i = absurd h.1
    calm_at (place.Serve (serve.Marks a)) v e h i = absurd h.1
    calm_at (place.Serve (serve.Nexts a c)) v e h i = absurd h.1
    calm_at (place.Serve (serve.Further r x)) v e h i = absurd h.1
    calm_at (place.Serve (serve.Again r x)) v e h i = absurd h.1
    calm_at (place.Serve (serve.Drop r x)) v e h i = absurd h.1
    calm_at _ v e h i = absurd (cc)

    -- ---- the frame may make them

    module _ (fits : FitsSpi d) where
      pub unit_small : u ≡ unit_of_sequence d q → u < 2
      unit_small e = subst (λ i. i < 2) (sym e) (unit_few d fits q)

      pub own_at : (p : SyncPlace) → sync_owes p ≡ false → Stand p → is_shared (sync_move (k p) p) || (may_wait d (sync_move (k p) p) o || may d (sync_move (k p) p)) ≡ true
      own_at place.Free e h = may_first d fits (running_word u) (omega arith) (let few = unit_small h.1.0.unit in omega (arith, few))
      own_at (place.Find b f) e h = let few = unit_small h.1.0.unit in let seeks = h.1.2 in frame_may d o (find_move f) (or_may d fits u few (find_move f) (may_find d fits u few seeks.number seeks.channel seeks.known f seeks.looks))
      own_at (place.Select b x) e h = lt_from u 2 (unit_small h.1.0.unit)
      own_at (place.Width b x) e h = lt_from u 2 (unit_small h.1.0.unit)
      own_at (place.Begin b x) e h = lt_from u 2 (unit_small h.1.0.unit)
      own_at place.Opens e h = refl
      own_at place.Wait e h = waits h.1.this h.1.unit
        where
          waits : {o : Origin Call} {t : FrameHistory} → IsThisFrame (Called (calls.Sequence q SyncTransmit)) fresh_history o t → u ≡ unit_of_sequence d q → may_wait d (Read (SerialWait u)) o || may d (Read (SerialWait u)) ≡ true
          waits Is_this_frame unit = ap (λ b. b || may d (Read (SerialWait u))) (ap (λ i. (i == u) && nat_lt u 2) (sym unit) ∙ (ap (λ b. b && nat_lt u 2) (same_number u) ∙ lt_from u 2 (unit_small unit)))
      own_at (place.Shut failed) e h = refl
      own_at (place.Taker failed) e h = frame_may d o (sync_move (k (place.Taker failed)) (place.Taker failed)) (by h.1.this h.0)
        where
          by : {o : Origin Call} {t : FrameHistory} → IsThisFrame (Called (calls.Sequence q SyncTransmit)) fresh_history o t → SpiRepresents d (with_holds o t.acted (Sending u q n at bs (Some failed) (device_at d q n) ∷ []) below) chip w s → is_shared (sync_move (k (place.Taker failed)) (place.Taker failed)) || may d (sync_move (k (place.Taker failed)) (place.Taker failed)) ≡ true
          by Is_this_frame g =
              let few : u < 2 = unit_small h.1.unit in
              serve_may d fits (sending_of u q n at bs (Some failed) (device_at d q n) ∷ below) chip w s g u few (serve.Taker (served_sent d fits below chip w s u q n at bs failed (device_at d q n) g)) refl (word_sent d fits below chip w s u q n at bs failed (device_at d q n) g)
      own_at (place.Receive r x) e h = lt_from u 2 (unit_small h.1.0.unit)
      own_at (place.Serve (serve.Width a p)) e h = frame_may d o (sync_move (k (place.Serve (serve.Width a p))) (place.Serve (serve.Width a p))) (serve_may d fits _ chip w s h.0 u (unit_small h.1.0.unit) (serve.Width a p) refl h.1.2)
      own_at (place.Serve (serve.Find a p f)) e h = frame_may d o (sync_move (k (place.Serve (serve.Find a p f))) (place.Serve (serve.Find a p f))) (serve_may d fits _ chip w s h.0 u (unit_small h.1.0.unit) (serve.Find a p f) refl h.1.2)
      own_at (place.Serve (serve.Begin a p x)) e h = frame_may d o (sync_move (k (place.Serve (serve.Begin a p x))) (place.Serve (serve.Begin a p x))) (serve_may d fits _ chip w s h.0 u (unit_small h.1.0.unit) (serve.Begin a p x) refl h.1.2)
      own_at (place.Serve (serve.Acknowledge a (courses.Ends x))) e h = lt_from u 2 (unit_small h.1.0.unit)
      own_at (place.Serve (serve.Acknowledge a (courses.Further x))) e h = absurd h.1
      own_at (place.Serve serve.Shut) e h = absurd h.1
      own_at (place.Serve serve.State) e h = absurd h.1
      own_at (place.Serve (serve.Running failed)) e h = absurd h.1
      own_at (place.Serve (serve.Position r failed)) e h = absurd h.1
      own_at (place.Serve (serve.Taker r)) e h = absurd h.1
      own_at (place.Serve (serve.Receive r x)) e h = absurd h.1
      own_at (place.Serve (serve.Marks a)) e h = absurd h.1
      own_at (place.Serve (serve.Nexts a c)) e h = absurd h.1
      own_at (place.Serve (serve.Further r x)) e h = absurd h.1
      own_at (place.Serve (serve.Again r x)) e h = absurd h.1
      own_at (place.Serve (serve.Drop r x)) e h = absurd h.1
      own_at _ e h = absurd (cc)

      -- ---- the hardware leaves the places

      module _ (order : Order) (calm : is_fill order ≡ false) where
        abbrev chip1 : Chip
        chip1 = happened chip order

        abbrev w1 : World
        w1 = world_after w chip.clock.rate order

        abbrev s1 : SpiState
        s1 = moved d w s order

        -- no channel, nothing that a unit doesn't run, and no word of the driver changes
        channels_same : s1.channels ≡ s.channels
        channels_same = by order calm
          where
            by : (order : Order) → is_fill order ≡ false → (moved d w s order).channels ≡ s.channels
            by (Fill c ws) e = absurd (cc)
            by _ e = refl

        first_same : (j : ℕ) → first_of d s1 j ≡ first_of d s j
        first_same j = ap (λ xs. slice_index_or (flat_map (λ c. channel_words c (channel_of d c) (slice_index_or xs c untouched)) (channels_of d j)) 0 no_word) channels_same

        free_still : carried_at s u ≡ None → carried_at s1 u ≡ None
        free_still free =
            elim order as (λ order. carried_at (moved d w s order) u ≡ None)
            [ SpiFault i ↦ faulted i (same_or_other u i) | _ ↦ free ]
          where
            faulted : (i : ℕ) → (u ≡ i) ⊎ (u ≢ i) → carried_at (moved d w s (SpiFault i)) u ≡ None
            faulted i (inl e) = subst (λ z. carried_at (moved d w s (SpiFault z)) u ≡ None) e (item-same None s.carried u (faulted_carrying w.now (carried_at s u)) ∙ ap (faulted_carrying w.now) free)
            faulted i (inr ne) = item-other None s.carried i u (faulted_carrying w.now (carried_at s i)) ne ∙ free

        words_same : word_of chip1 ≡ word_of chip
        words_same = words_kept chip order calm

        -- a fault leaves what the unit has selected, and its width
        turn_same : length chip.serials.units ≡ 2 → u < 2 → ((unit_at chip1.serials u).select ≡ (unit_at chip.serials u).select) × ((unit_at chip1.serials u).width ≡ (unit_at chip.serials u).width)
        turn_same size few = by order
          where
            by : (order : Order) → ((unit_at (happened chip order).serials u).select ≡ (unit_at chip.serials u).select) × ((unit_at (happened chip order).serials u).width ≡ (unit_at chip.serials u).width)
            by (SpiFault i) = turns_kept d u chip i size few
            by (Level i v) = let same = level_leaves (λ c. c.serials.units) chip i v refl in (ap (λ xs. (slice_index_or xs u idle).select) same, ap (λ xs. (slice_index_or xs u idle).width) same)
            by _ = (refl, refl)

        before_later : (b : Option Arrived) (p : SyncPlace) (held : Reservations) → SpiRepresents d held chip w s → u < 2 → BeforeJob d (k p) b (foot d chip) w s → BeforeJob d (k p) b (foot d chip1) w1 s1
        before_later None p held g few (free, first, on) = (free_still free, first, ap is_off (mode_later d w s order) ∙ on)
        before_later (Some r) p held g few (last, good, more, less, job, place, bank) = (serve_later d u few chip w s g.size order (serve.Marks r) calm last, good, more, less, job, place, bank)

        sent_later : (j x : ℕ) → x ≡ (first_of d s j).sent → x ≡ (first_of d s1 j).sent
        sent_later j x e = e ∙ ap (λ z. z.sent) (sym (first_same j))

        seeks_later : (p : SyncPlace) (f : Find) → IsSeeking d (k p) f (word_of chip) s → IsSeeking d (k p) f (word_of chip1) s1
        seeks_later p f i = record { number = i.number; channel = i.channel; first = i.first; known = i.known; looks = i.looks; will = ap (λ m. will_give m f) words_same ∙ i.will ∙ ap (λ z. z.sent) (sym (first_same (job_at_place d q n))) }

      pub later_at : (order : Order) (p : SyncPlace) → sync_owes p ≡ false → (is_closed (sync_spot d (k p) p) ≡ true → is_fill order ≡ false) → Stand p → place_at (sync_spot d (k p) p) below (foot d (happened chip order)) (world_after w chip.clock.rate order) (moved d w s order) o t
      later_at order place.Free e shut h = (h.1.0, h.1.1, ap is_off (mode_later d w s order) ∙ h.1.2)
      later_at order (place.Find b f) e shut h = (h.1.0, before_later order (shut refl) b (place.Find b f) _ h.0 (unit_small h.1.0.unit) h.1.1, seeks_later order (shut refl) (place.Find b f) f h.1.2)
      later_at order (place.Select b x) e shut h = (h.1.0, before_later order (shut refl) b (place.Select b x) _ h.0 (unit_small h.1.0.unit) h.1.1, sent_later order (shut refl) (job_at_place d q n) x h.1.2)
      later_at order (place.Width b x) e shut h =
          let few = unit_small h.1.0.unit in
          (h.1.0, before_later order (shut refl) b (place.Width b x) _ h.0 few h.1.1, (sent_later order (shut refl) (job_at_place d q n) x h.1.2.0, (turn_same order (shut refl) h.0.size few).0 ∙ h.1.2.1))
      later_at order (place.Begin b x) e shut h =
          let few = unit_small h.1.0.unit in
          (h.1.0, before_later order (shut refl) b (place.Begin b x) _ h.0 few h.1.1, (sent_later order (shut refl) (job_at_place d q n) x h.1.2.0, (turn_same order (shut refl) h.0.size few).0 ∙ h.1.2.1, (turn_same order (shut refl) h.0.size few).1 ∙ h.1.2.2 ∙ ap (λ z. z.width) (sym (first_same order (shut refl) (job_at_place d q n)))))
      later_at order place.Opens e shut h = h.1
      later_at order place.Wait e shut h = h.1
      later_at order (place.Shut failed) e shut h = h.1
      later_at order (place.Taker failed) e shut h = h.1
      later_at order (place.Receive r x) e shut h = (h.1.0, h.1.1, serve_later d u (unit_small h.1.0.unit) chip w s h.0.size order (serve.Receive r x) (shut refl) h.1.2)
      later_at order (place.Serve (serve.Width a p)) e shut h = (h.1.0, h.1.1, serve_later d u (unit_small h.1.0.unit) chip w s h.0.size order (serve.Width a p) (shut refl) h.1.2)
      later_at order (place.Serve (serve.Find a p f)) e shut h = (h.1.0, h.1.1, serve_later d u (unit_small h.1.0.unit) chip w s h.0.size order (serve.Find a p f) (shut refl) h.1.2)
      later_at order (place.Serve (serve.Begin a p x)) e shut h = (h.1.0, h.1.1, serve_later d u (unit_small h.1.0.unit) chip w s h.0.size order (serve.Begin a p x) (shut refl) h.1.2)
      later_at order (place.Serve (serve.Acknowledge a (courses.Ends x))) e shut h = (h.1.0, h.1.1, (serve_later d u (unit_small h.1.0.unit) chip w s h.0.size order (serve.Marks a) (shut refl) h.1.2.0, h.1.2.1))
      later_at order (place.Serve (serve.Acknowledge a (courses.Further x))) e shut h = absurd h.1
      later_at order (place.Serve serve.Shut) e shut h = absurd h.1
      later_at order (place.Serve serve.State) e shut h = absurd h.1
      later_at order (place.Serve (serve.Running failed)) e shut h = absurd h.1
      later_at order (place.Serve (serve.Position r failed)) e shut h = absurd h.1
      later_at order (place.Serve (serve.Taker r)) e shut h = absurd h.1
      later_at order (place.Serve (serve.Receive r x)) e shut h = absurd h.1
      later_at order (place.Serve (serve.Marks a)) e shut h = absurd h.1
      later_at order (place.Serve (serve.Nexts a c)) e shut h = absurd h.1
      later_at order (place.Serve (serve.Further r x)) e shut h = absurd h.1
      later_at order (place.Serve (serve.Again r x)) e shut h = absurd h.1
      later_at order (place.Serve (serve.Drop r x)) e shut h = absurd h.1
      later_at order _ e shut h = absurd (cc)
