-- Around the steps of the serving window: its frame may make them, the hardware leaves the places as they are, and what follows
-- a step at a place that owes moves.
-- From spi_sequences: services.ServeSteps, spi_sequences: hardware.StableUnderHardware.
-- Used by spi_driver: services.UnitBounds, spi_driver: services.UnitRight, sending.services.SendAround.
use Rattle.std.proofs.Common.{◌≡◌, ◌≢◌, ◌+◌, ◌<◌, ◌≤◌, ◌==◌, ◌&&◌, ◌∙◌, ◌⊎◌, if◌then◌else◌}
use Rattle.spi_laws.specs.serving.Terms
use Terms.{after_job, ap, arith, Arrived, asked_word, begins_word, Bool, cancelled_bit, carried_at, Carrying}
use Terms.{channel_next, channel_served, Chip, false, faulted_carrying, faulted_run, Fill, Find, find_move, Footing}
use Terms.{get_or-set_other, get_or-set_same, happened, has_mark, idle, inl, inr, is_done, is_fill, is_sync_unit}
use Terms.{IsArrived, IsDone, IsFinding, IsFurther, IsLast, IsServed, IsTaken, item-other, item-same, length, Level}
use Terms.{level_leaves, Load, MARKS, Memory, moved, nat_le, nat_tests, NEXTS, None, Option, Order, Position, refl}
use Terms.{resets_chip, Run, run_at, run_carried, run_in, running_word, same_or_other, Serial, serve_move, serve_owes}
use Terms.{Served, ServePlace, slice_index_or, Some, some_is, SpiFault, SpiState, SpiTable, subst, sym, Taker, taker_of}
use Terms.{Tick, Transfer, true, unit_at, unit_run, Word, word_of, word_place, words_kept, World, world_after, ℕ}
use Rattle.chip_blocks.specs.units.Serials as serials
use Rattle.word_shapes.specs.declared.jobs.finding.Find.TheVariants as finds
use Rattle.spi_sequences.specs.declared.service.serve.ServePlace.TheVariants as serve

-- ---- the hardware leaves the places

module _ (d : SpiTable) (u : ℕ) (f f1 : Footing) (w w1 : World) (s s1 : SpiState) (words : f1.0 ≡ f.0) (width : f1.2 u ≡ f.2 u) (now : w.now ≤ w1.now) (keeps : (run : Run) → unit_run d s u ≡ Some run → is_done w.now run.transfer ≡ true → unit_run d s1 u ≡ Some run) where
  done_still : (t : Transfer) → is_done w.now t ≡ true → is_done w1.now t ≡ true
  done_still t e = later t.began w.now w1.now now e
    where
      later : (b n k : ℕ) → n ≤ k → nat_le (b + 8) n ≡ true → nat_le (b + 8) k ≡ true
      later b n k le e = grind (arith, nat_tests)

  done_kept : (bad : Bool) → IsDone d s w.now u bad → IsDone d s1 w1.now u bad
  done_kept bad i = record { run = i.run; is = keeps i.run i.is i.done; done = done_still i.run.transfer i.done; failed = i.failed }

  served_kept : (r : Served) → IsServed d f.0 s w.now u r → IsServed d f1.0 s1 w1.now u r
  served_kept r i = subst (λ m. IsServed d m s1 w1.now u r) (sym words) (record { done = done_kept r.failed i.done; run = i.run; at = i.at })

  taken_kept : (r : Served) (t : Taker) → IsTaken d f.0 s w.now u r t → IsTaken d f1.0 s1 w1.now u r t
  taken_kept r t i = record { served = served_kept r i.served; taker = i.taker ∙ ap (λ (m : Memory). taker_of (channel_served d r) r.at.word (m (asked_word (channel_served d r) r.at.word))) (sym words) }

  -- the run is the one that it was
  run_back : (r : Served) (i : IsServed d f.0 s w.now u r) (run : Run) → unit_run d s1 u ≡ Some run → unit_run d s u ≡ Some run
  run_back r i run e = i.done.is ∙ ap (λ z. Some z) (some_is i.done.run run (sym (keeps i.done.run i.done.is i.done.done) ∙ e))

  arrived_kept : (a : Arrived) → IsArrived d f.0 s w.now u a → IsArrived d f1.0 s1 w1.now u a
  arrived_kept a i = record { taken = taken_kept a.served a.taker i.taken; word = λ run e good. i.word run (run_back a.served i.taken.served run e) good }

  further_kept : (a : Arrived) (p : Position) → IsFurther d f.0 s w.now u a p → IsFurther d f1.0 s1 w1.now u a p
  further_kept a p i = record { arrived = arrived_kept a i.arrived; good = i.good; next = i.next }

  last_kept : (a : Arrived) → IsLast d f.0 s w.now u a → IsLast d f1.0 s1 w1.now u a
  last_kept a i = record { arrived = arrived_kept a i.arrived; ends = i.ends }

  pub place_kept : (p : ServePlace) → word_place d u p f w s → word_place d u p f1 w1 s1
  place_kept serve.Shut i = i
  place_kept serve.State i = i
  place_kept (serve.Running bad) i = done_kept bad i
  place_kept (serve.Position r bad) i = (done_kept bad i.0, ap (λ (m : Memory). run_in (m (running_word u))) words ∙ i.1)
  place_kept (serve.Taker r) i = served_kept r i
  place_kept (serve.Receive r t) i = taken_kept r t i
  place_kept (serve.Width a p) i = further_kept a p i
  place_kept (serve.Find a p x) i = (further_kept a p i.0, width ∙ i.1, subst (λ m. IsFinding m (channel_next d a p) p.word x) (sym words) i.2)
  place_kept (serve.Begin a p v) i = (further_kept a p i.0, width ∙ i.1, λ run e. i.2 run (run_back a.served i.0.arrived.taken.served run e))
  place_kept (serve.Marks a) i = last_kept a i
  place_kept (serve.Nexts a c) i = (last_kept a i.0, i.1 ∙ ap (λ (m : Memory). has_mark (m MARKS) (cancelled_bit a.served.run.sequence)) (sym words))
  place_kept (serve.Acknowledge a c) i = (last_kept a i.0, i.1 ∙ ap (λ (m : Memory). after_job d a.served (has_mark (m MARKS) (cancelled_bit a.served.run.sequence)) (m NEXTS)) (sym words))
  place_kept _ i = absurd i

module _ (d : SpiTable) (u : ℕ) (few : u < 2) (chip : Chip) (w : World) (s : SpiState) (size : length chip.serials.units ≡ 2) where
  same_width : (x : Serial) (o : Option Word) (q : Bool) → (if q then record x { word = o } else x).width ≡ x.width
  same_width x o q = grind arith

  width_kept : (n : ℕ) → (unit_at (serials.after_fault chip.serials n) u).width ≡ (unit_at chip.serials u).width
  width_kept n = width_same (same_or_other u n)
    where
      width_same : (u ≡ n) ⊎ (u ≢ n) → (unit_at (serials.after_fault chip.serials n) u).width ≡ (unit_at chip.serials u).width
      width_same (inl e) =
          subst (λ k. (unit_at (serials.after_fault chip.serials k) u).width ≡ (unit_at chip.serials u).width) e
          (ap (λ x. x.width) (get_or-set_same chip.serials.units u (serials.faulted chip.serials.time (unit_at chip.serials u)) idle (omega (arith, size, few)))
          ∙ same_width (unit_at chip.serials u) (serials.failing (unit_at chip.serials u).word) (serials.is_busy (unit_at chip.serials u) chip.serials.time))
      width_same (inr ne) = ap (λ x. x.width) (get_or-set_other chip.serials.units n u (serials.faulted chip.serials.time (unit_at chip.serials n)) idle ne)

  -- a word that is done stays as it is
  run_kept : (n : ℕ) (run : Run) → unit_run d s u ≡ Some run → is_done w.now run.transfer ≡ true → unit_run d (moved d w s (SpiFault n)) u ≡ Some run
  run_kept n run e done = run_same (is_sync_unit d u) e (same_or_other u n)
    where
      still : faulted_run w.now (Some run) ≡ Some run
      still = ap (λ q. Some (record run { transfer = if q then run.transfer else record run.transfer { failed = true } })) done

      carried : (o : Option Carrying) → run_carried o ≡ Some run → run_carried (faulted_carrying w.now o) ≡ Some run
      carried None f = absurd (cc)
      carried (Some x) f = ap (faulted_run w.now) f ∙ still

      run_same : (q : Bool) → (if q then run_carried (carried_at s u) else run_at s u) ≡ Some run → (u ≡ n) ⊎ (u ≢ n) → (if q then run_carried (carried_at (moved d w s (SpiFault n)) u) else run_at (moved d w s (SpiFault n)) u) ≡ Some run
      run_same true f (inl g) = subst (λ k. run_carried (carried_at (moved d w s (SpiFault k)) u) ≡ Some run) g (ap run_carried (item-same None s.carried u (faulted_carrying w.now (carried_at s u))) ∙ carried (carried_at s u) f)
      run_same true f (inr ne) = ap run_carried (item-other None s.carried n u (faulted_carrying w.now (carried_at s n)) ne) ∙ f
      run_same false f (inl g) = subst (λ k. run_at (moved d w s (SpiFault k)) u ≡ Some run) g (item-same None s.units u (faulted_run w.now (run_at s u)) ∙ ap (faulted_run w.now) f ∙ still)
      run_same false f (inr ne) = item-other None s.units n u (faulted_run w.now (run_at s n)) ne ∙ f

  abbrev Footprint : Chip → Footing
  Footprint c = (word_of c, (λ n. (unit_at c.serials n).select), (λ n. (unit_at c.serials n).width))

  pub serve_later : (order : Order) (p : ServePlace) → is_fill order ≡ false → word_place d u p (Footprint chip) w s → word_place d u p (Footprint (happened chip order)) (world_after w chip.clock.rate order) (moved d w s order)
  serve_later (Fill c ws) p e i = absurd (cc)
  serve_later (SpiFault n) p e i = place_kept d u (Footprint chip) (Footprint (happened chip (SpiFault n))) w (world_after w chip.clock.rate (SpiFault n)) s (moved d w s (SpiFault n)) (words_kept chip (SpiFault n) refl) (width_kept n) (omega arith) (run_kept n) p i
  serve_later (Level k v) p e i = place_kept d u (Footprint chip) (Footprint (happened chip (Level k v))) w (world_after w chip.clock.rate (Level k v)) s s (words_kept chip (Level k v) refl) (ap (λ xs. (slice_index_or xs u idle).width) (level_leaves (λ c. c.serials.units) chip k v refl)) (omega arith) (λ run f g. f) p i
  serve_later (Tick n) p e i = place_kept d u (Footprint chip) (Footprint (happened chip (Tick n))) w (world_after w chip.clock.rate (Tick n)) s s (words_kept chip (Tick n) refl) refl (omega arith) (λ run f g. f) p i
  serve_later order p e i = place_kept d u (Footprint chip) (Footprint (happened chip order)) w (world_after w chip.clock.rate order) s s (words_kept chip order e) refl (omega arith) (λ run f g. f) p i

-- ---- a step without an event resets nothing, and begins no word

module _ (d : SpiTable) (u : ℕ) where
  abbrev pub NotServing : ServePlace → Type 0
  NotServing (serve.Begin a p v) = ⊥
  NotServing _ = Unit {0}

  calm_asking : (q : Bool) (k j : ℕ) → (resets_chip (if q then Load k else Load j) ≡ false) × (begins_word (if q then Load k else Load j) ≡ false)
  calm_asking true k j = (refl, refl)
  calm_asking false k j = (refl, refl)

  calm_find : (x : Find) → (resets_chip (find_move x) ≡ false) × (begins_word (find_move x) ≡ false)
  calm_find (finds.Newest x) = (refl, refl)
  calm_find _ = (refl, refl)

  pub serve_calm : (p : ServePlace) → serve_owes p ≡ false → NotServing p → (resets_chip (serve_move d u p) ≡ false) × (begins_word (serve_move d u p) ≡ false)
  serve_calm (serve.Taker r) e n = calm_asking ((channel_served d r).channel.internal && r.at.word == 0) _ _
  serve_calm (serve.Find a p x) e n = calm_find x
  serve_calm (serve.Begin a p v) e n = absurd n
  serve_calm _ e n = (cc, cc)
